use Rattle.script_compiler.proofs.Words.{◌+◌, ◌≡◌, ClosesCycle, HasPath, IfSome, IsFirst, ap, arith, get_or, instrs_of}
use Rattle.script_compiler.proofs.Words.{longest, subst}
use Rattle.script_compiler.proofs.Paths.{has_longest, longest_bound}
use Rattle.script_compiler.proofs.Uncosted.{line_there}
use Rattle.script_compiler.proofs.frame_costs.cost_of.Goals as goal

pub returns-in-Some-2 : goal.returns-in-Some-2
returns-in-Some-2 c =
    let lines = c.args.lines.now in
    let pc = c.in-Some-2.pc in
    let first : IsFirst (ClosesCycle (instrs_of lines)) pc =
    subst (λ o. IfSome o (λ k. IsFirst (ClosesCycle (instrs_of lines)) k)) c.in-Some-2.is c.in_ok-pc.ensures.some in
    let l = line_there lines pc first.point_here.instr first.point_here.there in
    (pc, (l.0, l.1, c.line_at.ensures l.0 l.1), first)

pub returns : goal.returns
returns c =
    let lines = c.args.lines.now in
    let code = instrs_of lines in
    let over = c.in-Some.over in
    let all : longest code (255 + 1) over ≡ 256 =
    let more = c.in-Some.ensures.some in
    let e = ap (λ xs. get_or xs over 0) c.deref.ensures.value in
    let is = c.in_ok-needs.ensures over in
    let most = longest_bound code (255 + 1) over in
    omega (arith, more, e, is, most) in
    let runs : HasPath code over 256 = subst (λ n. HasPath code over n) all (has_longest code (255 + 1) over) in
    let l = line_there lines over runs.0 runs.2 in
    record {
      pc = over;
      place = (l.0, l.1, c.line_at-in-None.ensures l.0 l.1);
      runs = runs;
      loopless = c.in_ok-pc.ensures.none c.in-None.is;
    }
