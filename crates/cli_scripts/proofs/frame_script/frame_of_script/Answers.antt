use Rattle.cli_scripts.proofs.Words.{subst}
use Rattle.cli_scripts.proofs.FramesOfItems.{given_by_steps, given_by_schedule}
use Rattle.schedule_front.specs.Sources.{IsSourceOf}
use Rattle.cli_scripts.proofs.frame_script.frame_of_script.Goals as goal

pub returns-in-Ok-Steps-clause-gives : goal.returns-in-Ok-Steps-clause-gives
returns-in-Ok-Steps-clause-gives c =
    let source = subst (IsSourceOf c.args.text.now) c.in-Ok-Steps.field-0-is c.in-Ok-Steps.ensures.source in
    given_by_steps c.args.text.now c.in-Ok-Steps.script c.header.result c.items.result.now c.args.count c.args.index _
    c.header.ensures.formed source c.header.ensures.value c.items.ensures.value c.frame_of_items.ensures.frame

pub returns-in-Ok-Schedule-clause-gives : goal.returns-in-Ok-Schedule-clause-gives
returns-in-Ok-Schedule-clause-gives c =
    let source = subst (IsSourceOf c.args.text.now) c.in-Ok-Schedule.field-0-is c.in-Ok-Schedule.ensures.source in
    given_by_schedule c.args.text.now c.in-Ok-Schedule.schedule c.header-in-Ok-Schedule.result
    c.items-in-Ok-Schedule.result.now c.args.count c.args.index _ c.header-in-Ok-Schedule.ensures.formed source
    c.header-in-Ok-Schedule.ensures.value c.items-in-Ok-Schedule.ensures.value
    c.frame_of_items-in-Ok-Schedule.ensures.frame
