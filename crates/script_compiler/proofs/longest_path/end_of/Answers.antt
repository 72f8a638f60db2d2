use Rattle.script_compiler.proofs.Words.{◌+◌, ◌<◌, ◌∙◌, ◌≡◌, Line, RunsTo, Some, StepsTo, ap, arith, get_or, instrs_of}
use Rattle.script_compiler.proofs.Words.{length, need_at, slice_get, subst, suc, sym, ℕ}
use Rattle.script_compiler.proofs.Paths.{instr_at, instrs_length, need_somewhere, runs_more, some_within}
use Rattle.script_compiler.proofs.longest_path.end_of.Goals as goal

pub loop-step-preserved : goal.loop-step-preserved
loop-step-preserved c =
    let lines = c.args.lines.now in
    let code = instrs_of lines in
    let first = c.args.first in
    let at = c.loop-step.pc in
    let to = c.following-pc.result in
    let m = c.loop-step._step in
    let before = c.loop-step.invariant in
    let i = c.index-lines-pc.result.instr in
    let further : ℕ → ℕ = λ k. get_or c.args.needs.now k 0 in
    let there : slice_get code at ≡ Some i = instr_at lines at c.index-lines-pc.result c.index-lines-pc.is before.2 in
    let need : further at ≡ need_at (Some i) at further = c.requires.needs at ∙ ap (λ o. need_at o at further) there in
    let rest : 1 + further to ≡ need_at (Some i) at further =
    c.following-pc.ensures.rest ∙ ap (λ (x : Line). need_at (Some x.instr) at further) (sym c.index-lines-pc.is) in
    let goes : StepsTo i at to =
    subst (λ (x : Line). StepsTo x.instr at to) (sym c.index-lines-pc.is) c.following-pc.ensures.goes in
    let left : further at + m ≡ further first + 1 = before.1 in
    let test : m < further first = let t = c.loop-step-test.true in let e = c.at-step-end.ensures in
    omega (arith, t, e) in
    let more : 0 < need_at (slice_get code to) to further = let e = c.requires.needs to in
    omega (arith, e, need, rest, left, test) in
    let some = need_somewhere code (slice_get code to) to further more in
    let within : to < length lines = let w = some_within code to some in let l = instrs_length lines in
    omega (arith, w, l) in
    let onward : suc m ≡ m + 1 = omega arith in
    let left_after : further to + (m + 1) ≡ further first + 1 = omega (arith, need, rest, left) in (
      subst (λ n. RunsTo code first n to) onward (runs_more code m first at to i before.0 there goes some),
      left_after,
      within,
    )
