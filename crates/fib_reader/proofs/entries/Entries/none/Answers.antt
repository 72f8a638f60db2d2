use Rattle.fib_reader.proofs.Words.{AreRaw, false, subst, sym}
use Rattle.fib_reader.proofs.EntryLists.{raws_of_nothing}
use Rattle.fib_reader.proofs.entries.Entries.none.Goals as goal

pub invariant_of-result : goal.invariant_of-result
invariant_of-result c = subst AreRaw (sym (raws_of_nothing 0 false)) tt

pub returns : goal.returns
returns c = raws_of_nothing 0 false
