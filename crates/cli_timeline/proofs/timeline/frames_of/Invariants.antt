use Rattle.script_tokens.specs.Scanning.{bytes_left}
use Rattle.cli_timeline.proofs.timeline.frames_of.Given as goal

abbrev pub decreases-loop-step : goal.decreases-loop-step
decreases-loop-step l = bytes_left l.steps
