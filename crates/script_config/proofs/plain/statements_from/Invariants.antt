use Rattle.script_config.proofs.PlainScripts.{AreActsFrom}
use Rattle.script_config.proofs.plain.statements_from.Given as goal

abbrev pub invariant-loop-act : goal.invariant-loop-act
invariant-loop-act l = AreActsFrom l.first l.line l.acts l.act-index l.statements.items
