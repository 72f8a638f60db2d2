use Rattle.script_tokens.specs.Scanning.{bytes_left}
use Rattle.cli_scripts.proofs.exclusion.place_of.Given as goal

abbrev pub decreases-loop-token : goal.decreases-loop-token
decreases-loop-token l = bytes_left l.scanner
