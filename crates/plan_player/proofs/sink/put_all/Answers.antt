use Rattle.plan_player.proofs.Words.{◌++◌, ◌-◌, ◌∙◌, Appends, Appends-trans, ap, arith, drop, length}
use Rattle.plan_player.proofs.Words.{subst, sym, take, take-add, take-take}
use Rattle.plan_player.proofs.sink.put_all.Goals as goal

pub loop-taken-preserved : goal.loop-taken-preserved
loop-taken-preserved g c =
    let done = c.loop-taken.taken in
    let count = c.in-Some.count in
    let bytes = c.args.bytes.now in
    let before = c.loop-taken.invariant in
    let fits = c.in-Some.ensures.bound in
    let joined = ap (λ l. take done bytes ++ l) (take-take count (length bytes - done) (drop done bytes) (omega arith))
    ∙ sym (take-add done count bytes) in
    record {
      within = omega arith;
      taken = subst (Appends _ _) joined (Appends-trans _ _ _ _ _ before.taken c.in-Some.ensures.some);
      works = c.in-Some.ensures.works ∙ before.works;
    }
