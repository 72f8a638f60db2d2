use Rattle.schedule_verifier.proofs.Words.{◌<◌, alternatives_of, arith, length}
use Rattle.schedule_verifier.proofs.Applying.{alternative_at, alternatives_length, any_more, any_told}
use Rattle.schedule_verifier.proofs.conditions.condition.Goals as goal

pub loop-alternative-preserved : goal.loop-alternative-preserved
loop-alternative-preserved c =
    let condition = c.args.condition.now in
    let i = c.loop-alternative.alternative-index in
    let same = alternatives_length condition in
    let lt : i < length (alternatives_of condition) = omega (arith, same, c.loop-alternative-test.true) in
    let decided = rw c.as_slice.ensures.value at c.all_hold.ensures in
    rw c.either-any.ensures
    (any_more _ _ _ _ (alternatives_of condition) i c.alternative-item.result.items lt
    (alternative_at condition i c.alternative-item.result _ (omega (arith, c.loop-alternative-test.true))
    c.alternative-item.is) c.loop-alternative.invariant decided)

pub returns : goal.returns
returns c =
    let condition = c.args.condition.now in
    let same = alternatives_length condition in
    any_told _ _ _ (alternatives_of condition) c.loop-alternative.alternative-index
    (omega (arith, same, c.loop-alternative-test.false)) c.loop-alternative.invariant
