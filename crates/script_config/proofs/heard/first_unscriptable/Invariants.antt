use Rattle.script_config.proofs.Words.{length}
use Rattle.script_config.proofs.Scriptable.{SoFarSaid}
use Rattle.script_config.proofs.heard.first_unscriptable.Given as goal

abbrev pub invariant-loop-entry : goal.invariant-loop-entry
invariant-loop-entry l = SoFarSaid l.entries l.initial.entries

abbrev pub decreases-loop-entry : goal.decreases-loop-entry
decreases-loop-entry l = length l.entries
