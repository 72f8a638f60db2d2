use Rattle.std.proofs.Common.{List, ap, arith, min, ◌∙◌, ◌≡◌, ℕ}
use Rattle.std.specs.Prelude.{slice_index}
use Rattle.plan_takeover.proofs.Costs.{priced_by, some_cost}
use Rattle.plan_takeover.proofs.takeover.first_cost.Goals as goal

pub returns-clause-priced : goal.returns-clause-priced
returns-clause-priced c =
    priced_by c.args.lines.now c.args.budget c.in_ok-needs.needs.items c.first_need.result
    (omega (arith, c.ranges.budget.fits)) c.in_ok-needs.ensures
    (c.first_need.ensures ∙ ap (λ (l : List ℕ). min 255 (slice_index l 0)) c.as_slice.ensures.value)

pub returns-clause-from : goal.returns-clause-from
returns-clause-from c =
    some_cost c.args.lines.now c.args.budget c.in_ok-needs.needs.items c.first_need.result c.requires.some
    c.in_ok-needs.ensures
    (c.first_need.ensures ∙ ap (λ (l : List ℕ). min 255 (slice_index l 0)) c.as_slice.ensures.value)

pub returns-clause-to : goal.returns-clause-to
returns-clause-to c =
    let need : c.first_need.result ≡ min 255 (slice_index c.as_slice.result.now 0) = c.first_need.ensures in
    omega (arith, need)
