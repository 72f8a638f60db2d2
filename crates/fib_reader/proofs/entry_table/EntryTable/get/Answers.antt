use Rattle.fib_reader.proofs.Words.{◌∙◌, IsAscending, Some, ap, found_here, slice_get-get_or, subst, sym}
use Rattle.fib_reader.proofs.entry_table.EntryTable.get.Goals as goal

pub returns-then-key-identifier-clause-value : goal.returns-then-key-identifier-clause-value
returns-then-key-identifier-clause-value g c =
    let here = found_here g.T.Keyed.key c.args.identifier c.as_slice-entries.result.now _ c.index-entries-hint.result
    (subst (IsAscending g.T.Keyed.key) (sym c.as_slice-entries.ensures.value) c.as_slice-entries.ensures.ascending)
    c.if-hint-entries.true
    (ap g.T.Keyed.key (sym c.index-entries-hint.is) ∙ sym c.key.ensures ∙ c.if-key-identifier.true) in
    rw (← c.as_slice-entries.ensures.value ∙ c.self.view_is)
    (ap Some c.index-entries-hint-then-key-identifier.is ∙ sym (slice_get-get_or c.as_slice-entries.result.now _ _
    c.if-hint-entries.true) ∙ here.found)
