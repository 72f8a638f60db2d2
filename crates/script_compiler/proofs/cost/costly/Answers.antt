use Rattle.script_compiler.proofs.Words.{instrs_of}
use Rattle.script_compiler.proofs.Uncosted.{first_costly}
use Rattle.script_compiler.proofs.cost.costly.Goals as goal

pub returns-in-None : goal.returns-in-None
returns-in-None c = λ budget over before. first_costly (instrs_of c.args.lines.now) budget c.args.over
    (c.in_ok-round.ensures.none c.in-None.is) over before
