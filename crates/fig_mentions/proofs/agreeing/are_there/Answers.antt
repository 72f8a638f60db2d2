use Rattle.std.proofs.Common.{◌<◌, ◌≤◌, length, sym, ap, ◌∙◌, arith}
use Rattle.std.proofs.lemmas.Grind.{common_steps}
use Rattle.fig_mentions.specs.Agreeing.{is_present}
use Rattle.fig_mentions.proofs.Rests.{all_there, one_absent, one_cut, one_more_left}
use Rattle.fig_mentions.proofs.agreeing.are_there.Goals as goal

pub returns-then-size-rest : goal.returns-then-size-rest
returns-then-size-rest c =
    let some : 0 < length c.loop-rest.rest.now = grind (arith, common_steps, c.loop-rest-test.ensures) in
    one_cut c.args.picture.now c.args.ext c.args.long c.args.entries.now c.loop-rest.rest.now c.entry_size-size.result
    some c.entry_size-size.ensures.value c.if-size-rest.true c.loop-rest.invariant

pub returns-then-not-is_there : goal.returns-then-not-is_there
returns-then-not-is_there c =
    let some : 0 < length c.loop-rest.rest.now = grind (arith, common_steps, c.loop-rest-test.ensures) in
    let fits : c.entry_size-size.result ≤ length c.loop-rest.rest.now = omega (arith, c.if-size-rest.false) in
    one_absent c.args.picture.now c.args.ext c.args.long c.args.entries.now c.loop-rest.rest.now
    c.entry_size-size.result some c.entry_size-size.ensures.value fits
    (ap (is_present c.args.picture.now) (sym c.entry_mention.ensures) ∙ sym c.is_there.ensures ∙ c.if-not-is_there.true)
    c.loop-rest.invariant

pub loop-rest-preserved : goal.loop-rest-preserved
loop-rest-preserved c =
    let some : 0 < length c.loop-rest.rest.now = grind (arith, common_steps, c.loop-rest-test.ensures) in
    let fits : c.entry_size-size.result ≤ length c.loop-rest.rest.now = omega (arith, c.if-size-rest.false) in
    one_more_left c.args.picture.now c.args.ext c.args.long c.args.entries.now c.loop-rest.rest.now
    c.entry_size-size.result some c.entry_size-size.ensures.value c.entry_size-size.ensures.some fits
    (ap (is_present c.args.picture.now) (sym c.entry_mention.ensures) ∙ sym c.is_there.ensures
    ∙ c.if-not-is_there.false) c.loop-rest.invariant

pub returns : goal.returns
returns c = all_there c.args.picture.now c.args.ext c.args.long c.args.entries.now c.loop-rest.rest.now
    (grind (arith, common_steps, c.loop-rest-test.ensures)) c.loop-rest.invariant
