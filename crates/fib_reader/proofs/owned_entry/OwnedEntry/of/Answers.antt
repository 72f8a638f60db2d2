use Rattle.fib_reader.proofs.Words.{◌∙◌, ap, identifier_of, length, sym}
use Rattle.fib_reader.proofs.Keeping.{raw_again, raw_same, copied_front}
use Rattle.fib_reader.proofs.owned_entry.OwnedEntry.of.Goals as goal

pub invariant_of-result : goal.invariant_of-result
invariant_of-result c =
    let same = copied_front _ _ _ _ (ap length (sym c.bytes-given.ensures.value))
    (c.copy_from_slice.ensures.after ∙ c.bytes-given.ensures.value) in (
      c.bytes-given.ensures.short,
      raw_again c.args.entry.now _ _ _ c.bytes-given.ensures.whole c.extension.ensures.value c.long.ensures same,
      c.identifier.ensures.value
          ∙ ap identifier_of (sym (raw_same c.args.entry.now _ _ _ c.extension.ensures.value c.long.ensures same)),
    )
