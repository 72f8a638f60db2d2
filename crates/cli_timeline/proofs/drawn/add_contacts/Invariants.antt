use Rattle.script_tokens.specs.Scanning.{bytes_left}
use Rattle.cli_timeline.proofs.drawn.add_contacts.Given as goal

abbrev pub decreases-loop-step : goal.decreases-loop-step
decreases-loop-step l = bytes_left l.steps
