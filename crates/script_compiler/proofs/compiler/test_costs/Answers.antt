use Rattle.script_compiler.proofs.Words.{◌+◌, ◌<◌, ◌≤◌, Cost, HasCostAt, arith, instrs_of, longest, ℕ}
use Rattle.script_compiler.proofs.Refusing.{refused_here}
use Rattle.script_compiler.proofs.Uncosted.{cost_at}
use Rattle.script_compiler.proofs.compiler.test_costs.Goals as goal

pub returns-clause-line : goal.returns-clause-line
returns-clause-line c =
    let lines = c.args.lines.now in
    let code = instrs_of lines in
    let budget = c.args.budget in
    let over = c.in-Some.over in
    let more : budget < longest code (budget + 1) over =
    (let e = c.requires.needs over in let h = c.in-Some.ensures.some in omega (arith, e, h)) in
    let before : (k : ℕ) → k < over → longest code (budget + 1) k ≤ budget = λ k lt. let e = c.requires.needs k in
    let h = c.in-Some.ensures.first k lt in omega (arith, e, h) in
    let costly = c.in_ok-pc.ensures budget more before in
    refused_here c.refused.result c.line_at.result Cost (λ at given. HasCostAt budget lines at) c.refused.ensures
    (cost_at lines budget c.in_ok-pc.pc c.line_at.result costly c.line_at.ensures)
