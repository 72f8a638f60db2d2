use Rattle.fib_reader.proofs.Words.{[], ◌++◌, ◌+◌, ◌==◌, ◌∙◌, ◌∷◌, ◌≡◌, Packet, ap, carrier_of, component_entries}
use Rattle.fib_reader.proofs.Words.{component_entry, false, get_or, length, length-append, list_any, names, sym}
use Rattle.fib_reader.proofs.Words.{take_more, true}
use Rattle.fib_reader.proofs.Components.{entry_at_place, named_twice, component_entries-more, members_more}
use Rattle.fib_reader.proofs.Components.{different_more}
use Rattle.fib_reader.proofs.from_entry.components_from_entry.Goals as goal

pub returns-in_default-clause-none : goal.returns-in_default-clause-none
returns-in_default-clause-none c = λ cs different whole.
    c.in_default.ensures.none (get_or cs c.loop-index.index (Packet 0))
    (entry_at_place cs c.args.entries.now c.loop-index.index c.index-entries-index.result (Packet 0) whole
    c.loop-index-test.true
    c.index-entries-index.is)

pub returns-then-is_named_by-clause-none : goal.returns-then-is_named_by-clause-none
returns-then-is_named_by-clause-none c = λ cs different whole.
    let named : list_any (names (carrier_of c.in-Some.component)) c.loop-index.components ≡ true =
    rw (← c.carrier.ensures) (ap (list_any (names c.carrier.result)) (sym c.as_slice.ensures.value)
    ∙ sym c.is_named_by.ensures ∙ c.if-is_named_by.true) in
    named_twice c.loop-index.components cs c.args.entries.now c.loop-index.index c.index-entries-index.result
    c.in-Some.component
    c.loop-index.invariant.value c.loop-index-test.true c.index-entries-index.is c.in-Some.ensures.value named different
    whole

pub loop-index-preserved : goal.loop-index-preserved
loop-index-preserved c =
    let unnamed : list_any (names (carrier_of c.in-Some.component)) c.loop-index.components ≡ false =
    rw (← c.carrier.ensures) (ap (list_any (names c.carrier.result)) (sym c.as_slice.ensures.value)
    ∙ sym c.is_named_by.ensures ∙ c.if-is_named_by.false) in
    let first = ap (λ n. n == 0) c.loop-index.invariant.count in
    let size = length-append c.loop-index.components (c.in-Some.component ∷ []) in
    let count = c.loop-index.invariant.count in
    record {
      count = rw (← count) (ap length c.push.ensures ∙ size);
      value = ap component_entries c.push.ensures ∙ component_entries-more c.loop-index.components c.in-Some.component
          ∙ ap (λ b. component_entries c.loop-index.components ++ component_entry b c.in-Some.component ∷ []) first
          ∙ ap (λ e. component_entries c.loop-index.components ++ e ∷ [])
          (c.in-Some.ensures.value ∙ c.index-entries-index.is)
          ∙ ap (λ es. es ++ get_or c.args.entries.now c.loop-index.index c.index-entries-index.result ∷ [])
          c.loop-index.invariant.value
          ∙ sym (take_more c.args.entries.now c.loop-index.index c.index-entries-index.result c.loop-index-test.true);
      members = rw c.push.ensures (members_more _ _ c.loop-index.invariant.members c.in-Some.ensures.member);
      different = rw c.push.ensures
          (different_more c.loop-index.components c.in-Some.component c.loop-index.invariant.different unnamed);
    }
