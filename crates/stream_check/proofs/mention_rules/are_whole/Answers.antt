use Rattle.stream_check.proofs.Words.{◌<◌, ◌∙◌, arith, common_steps, length, sym}
use Rattle.stream_check.proofs.Mentioned.{whole_cut, whole_more, whole_none}
use Rattle.stream_check.proofs.mention_rules.are_whole.Goals as goal

pub returns-then-size-rest : goal.returns-then-size-rest
returns-then-size-rest c =
    let some : 0 < length c.loop-rest.rest.now = grind (arith, common_steps, c.loop-rest-test.ensures) in
    sym (whole_cut _ _ _ _ some c.entry_size-size.ensures.value c.if-size-rest.true) ∙ c.loop-rest.invariant

pub loop-rest-preserved : goal.loop-rest-preserved
loop-rest-preserved c =
    let some : 0 < length c.loop-rest.rest.now = grind (arith, common_steps, c.loop-rest-test.ensures) in
    whole_more c.args.ext c.args.long c.loop-rest.rest.now c.entry_size-size.result some c.entry_size-size.ensures.value
    (omega (arith, c.if-size-rest.false)) ∙ c.loop-rest.invariant

pub returns : goal.returns
returns c = sym (whole_none c.args.ext c.args.long c.loop-rest.rest.now
    (grind (arith, common_steps, c.loop-rest-test.ensures))) ∙ c.loop-rest.invariant
