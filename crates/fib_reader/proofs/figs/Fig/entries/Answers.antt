use Rattle.fib_reader.proofs.Words.{IsFig, subst}
use Rattle.fib_reader.proofs.FigLists.{raw_fig}
use Rattle.fib_reader.proofs.figs.Fig.entries.Goals as goal

pub under-requires : goal.under-requires
under-requires c =
    rw (c.split_at.ensures.back, c.in-Some.ensures.extension, c.is_long_of.ensures)
    (raw_fig c.self.inside.bytes.now c.in-Some.second _
    (subst (IsFig c.self.inside.bytes.now) c.in-Some.ensures.looked_into c.self.invariant))
