use Rattle.script_config.proofs.Words.{◌∙◌, ◌≤◌, Act, All, IsAct, List, length, subst, sym}
use Rattle.script_config.proofs.Pacing.{plan_formed, plan_few, plan_leads, plan_fits}
use Rattle.script_config.proofs.plan.plan_between.Goals as goal

pub script_of-requires : goal.script_of-requires
script_of-requires c =
    let is = c.as_slice.ensures.value ∙ c.in_ok-acts.ensures in
    record {
      headed = c.requires.headed;
      acts = subst (All IsAct) (sym is)
          (plan_formed c.sizes.ensures.grow c.args.header c.args.from.now c.args.to.now c.requires.headed
          c.subs.ensures.configuration
          c.subs-2.ensures.configuration);
      few = subst (λ (acts : List Act). length acts ≤ 7000) (sym is)
          (plan_few c.args.header c.args.from.now c.args.to.now c.subs.ensures.configuration
          c.subs-2.ensures.configuration);
    }

pub returns-in_err-acts-clause-leads : goal.returns-in_err-acts-clause-leads
returns-in_err-acts-clause-leads c =
    plan_leads c.args.header c.args.from.now c.args.to.now
    (c.transforming.ensures.between c.args.from.now c.args.to.now c.subs.ensures.configuration
    c.subs-2.ensures.configuration)

pub returns-in_err-acts-clause-frames : goal.returns-in_err-acts-clause-frames
returns-in_err-acts-clause-frames c = plan_fits c.args.header c.args.from.now c.args.to.now c.requires.room

pub returns-clause-leads : goal.returns-clause-leads
returns-clause-leads c =
    plan_leads c.args.header c.args.from.now c.args.to.now
    (c.transforming.ensures.between c.args.from.now c.args.to.now c.subs.ensures.configuration
    c.subs-2.ensures.configuration)

pub returns-clause-frames : goal.returns-clause-frames
returns-clause-frames c = plan_fits c.args.header c.args.from.now c.args.to.now c.requires.room
