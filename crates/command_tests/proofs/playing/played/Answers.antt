use Rattle.command_tests.proofs.playing.played.Goals as goal

pub returns-in-Ok-Done : goal.returns-in-Ok-Done
returns-in-Ok-Done c =
    let run = c.in-Ok-Done.ensures.success c.in-Ok-Done.field-0-is c.args.code.now c.args.events.now
    c.in_ok-files.ensures.code c.in_ok-files.ensures.events in
    record { p = run.0; steps = run.1; playback = run.2; written = run.3.written }
