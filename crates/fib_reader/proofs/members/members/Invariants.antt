use Rattle.fib_reader.proofs.Words.{◌≡◌, AllByRecursion, map, raw_entry, take}
use Rattle.fib_reader.proofs.members.members.Given as goal

abbrev pub invariant-loop-entry : goal.invariant-loop-entry
invariant-loop-entry g l = record {
  said : map (λ x. raw_entry (g.T.FromEntry.entry_of x)) l.table ≡ take l.entry-index l.kept;
  members : AllByRecursion g.T.FromEntry.is_member l.table;
}
