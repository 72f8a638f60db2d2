use Rattle.cli_scripts.proofs.Words.{IsScript, subst}
use Rattle.cli_scripts.proofs.AcceptedPlans.{refused_fault}
use Rattle.cli_scripts.proofs.diff.plan_text.Goals as goal

pub returns-in_default-fault : goal.returns-in_default-fault
returns-in_default-fault c =
    let made = c.in-Ok.ensures in
    let why = c.in-Err-compile in
    let is_from = c.subs.ensures.configuration in
    let is_to = c.subs-2.ensures.configuration in
    let formed : IsScript c.in-Ok.script = subst IsScript c.script.view_is c.script.invariant in
    record {
      plan = tt;
      leads = tt;
      fault = refused_fault c.args.from.now c.args.to.now c.in-Ok.script why.fault is_from is_to formed c.requires
          c.in_default.ensures.none
          (c.transforming.ensures.between c.args.from.now.config c.args.to.now.config is_from is_to) made.frames
          made.begins made.plain why.ensures.refused c.in_default-fault.not-Memory;
    }
