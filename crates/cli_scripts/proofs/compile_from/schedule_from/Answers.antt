use Rattle.cli_scripts.proofs.Beginning.{scheduled}
use Rattle.cli_scripts.proofs.compile_from.schedule_from.Goals as goal

pub returns-in_ok-compiled_of-in-Ok : goal.returns-in_ok-compiled_of-in-Ok
returns-in_ok-compiled_of-in-Ok c =
    scheduled c.args.text.now c.args.schedule.now c.args.on_air.now c.in-Ok.verified c.in_ok-compiled_of-in-Ok.field-0
    c.header.ensures.formed c.requires c.in-Ok.ensures.plays c.code.ensures.typed
    (rw c.code.ensures.value at c.in_ok-compiled_of-in-Ok.ensures)
