use Rattle.fib_reader.proofs.Words.{◌∙◌, ◌≡◌, Some, ap, entry_at, identifier_of, option_copied, present, sym}
use Rattle.fib_reader.proofs.Keeping.{kept_where_told}
use Rattle.fib_reader.proofs.entry_table.EntryTable+OwnedEntry.has.Goals as goal

pub returns-in-Some-clause-known : goal.returns-in-Some-clause-known
returns-in-Some-clause-known c = λ yes.
    let told : entry_at identifier_of (identifier_of c.args.entry.now) c.args.self.now ≡ Some c.args.entry.now =
    rw (← c.identifier.ensures.value) (sym c.get.ensures.value ∙ ap option_copied c.in-Some.is
    ∙ ap Some (c.is.ensures.0 yes)) in
    present identifier_of (identifier_of c.args.entry.now) c.args.self.now c.args.entry.now told

pub returns-in-Some-clause-kept : goal.returns-in-Some-clause-kept
returns-in-Some-clause-kept c = λ yes.
    let told : entry_at identifier_of (identifier_of c.args.entry.now) c.args.self.now ≡ Some c.args.entry.now =
    rw (← c.identifier.ensures.value) (sym c.get.ensures.value ∙ ap option_copied c.in-Some.is
    ∙ ap Some (c.is.ensures.0 yes)) in
    kept_where_told c.args.entry.now c.args.self.now c.get.ensures.ascending told
