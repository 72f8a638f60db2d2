use Rattle.script_compiler.proofs.Typed.{accepted_typed}
use Rattle.script_compiler.proofs.compiler.promise.Goals as goal

pub returns-clause-typed : goal.returns-clause-typed
returns-clause-typed c = accepted_typed c.args.script.now c.args.code.now c.requires.accepted c.requires.code
    c.requires.costs

pub returns-clause-plays : goal.returns-clause-plays
returns-clause-plays c =
    let typed = accepted_typed c.args.script.now c.args.code.now c.requires.accepted c.requires.code c.requires.costs in
    c.scripts.ensures c.args.script.now c.args.code.now c.requires.formed typed c.requires.code
