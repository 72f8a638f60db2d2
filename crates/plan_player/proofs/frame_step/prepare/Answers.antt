use Rattle.plan_player.proofs.frame_step.prepare.Goals as goal

pub run-steps-requires : goal.run-steps-requires
run-steps-requires g c = rw (c.begin-swapped.ensures.state) c.requires.ready.runs
