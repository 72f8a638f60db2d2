use Rattle.script_compiler.proofs.Words.{◌+◌, ◌<◌, ◌∙◌, ◌≡◌, ◌≤◌, IsWithinBudget, RunsTo, arith, get_or, instrs_of}
use Rattle.script_compiler.proofs.Words.{length, longest, slice_get, subst, sym, ℕ}
use Rattle.script_compiler.proofs.Paths.{instrs_length, need_same, needs_follow, none_longer}
use Rattle.script_compiler.proofs.longest_path.longest_in.Goals as goal

pub end_of-last-requires-clause-needs : goal.end_of-last-requires-clause-needs
end_of-last-requires-clause-needs c =
    let code = instrs_of c.args.lines.now in
    let within : (pc : ℕ) → longest code (255 + 1) pc ≤ 255 = λ pc. let e = c.requires.needs pc in let h =
    c.requires.within pc in omega (arith, e, h) in
    λ pc. c.requires.needs pc ∙ needs_follow code 255 within pc
    ∙ need_same (slice_get code pc) pc (λ to. longest code (255 + 1) to) (λ to. get_or c.args.needs.now to 0)
    (λ to. sym (c.requires.needs to))

pub returns : goal.returns
returns c =
    let lines = c.args.lines.now in
    let code = instrs_of lines in
    let first = c.greatest-first.result in
    let within : (pc : ℕ) → longest code (255 + 1) pc ≤ 255 = λ pc. let e = c.requires.needs pc in let h =
    c.requires.within pc in omega (arith, e, h) in
    let greatest : (k : ℕ) → k < length code → longest code (255 + 1) k ≤ longest code (255 + 1) first = λ k lt.
    let n = instrs_length lines in
    let h = c.greatest-first.ensures.most k (omega (arith, lt, n)) in
    let a = c.requires.needs k in
    let b = c.requires.needs first in
    omega (arith, h, a, b) in
    let same : longest code (255 + 1) first ≡ c.at.result = sym (c.requires.needs first) ∙ sym c.at.ensures in
    record {
      from = first;
      to = c.end_of-last.result;
      begins = c.line_of.ensures;
      ends = c.line_of-2.ensures;
      runs = subst (λ n. RunsTo code first n c.end_of-last.result) (sym c.at.ensures) c.end_of-last.ensures.runs;
      longest = subst (λ n. IsWithinBudget n code) same (none_longer code 255 first within greatest);
    }
