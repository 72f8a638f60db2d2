use Rattle.stream_check.proofs.Words.{[], ◌+◌, ◌∙◌, ◌∷◌, ◌≡◌, ap, arith, is_empty, length, length-append, sym}
use Rattle.stream_check.proofs.FrameSeen.{seen_after, at_most_one}
use Rattle.stream_check.proofs.frame.FrameFibs.push.Goals as goal

pub overflow_add-self : goal.overflow_add-self
overflow_add-self c =
    let one = at_most_one c.args.summary.now.is_damaged in
    omega (arith, one, c.choose.ensures, ap length c.self.view_is, c.requires.room)

pub invariant_of-self : goal.invariant_of-self
invariant_of-self c =
    let many : length c.push.new.self.items ≡ length c.self.inside.fibs.items + 1 =
    ap length c.push.ensures.items ∙ length-append c.self.inside.fibs.items (c.args.fib.now ∷ []) in (
      λ r. seen_after r c.self.inside.fibs.items c.push.new.self.items c.args.fib.now c.args.summary.now
          c.self.inside.damaged c.choose.result c.self.inside.opening c.choose-self-inside.result
          c.self.inside.starts_without_ensemble c.choose-self-inside-2.result
          c.is_empty-is_first.result c.starts_without_ensemble.result c.push.ensures.items c.choose.ensures
          (c.is_empty-is_first.ensures ∙ ap is_empty (sym c.self.view_is)) c.choose-self-inside.ensures
          c.starts_without_ensemble.ensures c.choose-self-inside-2.ensures
          (c.self.invariant.0 r) (c.requires.seen r),
      omega (arith, at_most_one c.args.summary.now.is_damaged, c.choose.ensures, many),
    )
