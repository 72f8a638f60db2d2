use Rattle.script_compiler.proofs.Words.{◌∙◌, ◌≡◌, ClosesCycle, arith, cases_lt, false≢true, inl, inr, instrs_of}
use Rattle.script_compiler.proofs.Words.{slice_get_within, subst, sym}
use Rattle.script_compiler.proofs.Paths.{instrs_length}
use Rattle.script_compiler.proofs.cost.first_round.Goals as goal

pub loop-pc-preserved : goal.loop-pc-preserved
loop-pc-preserved c = λ k lt closes. elim (cases_lt k c.loop-pc.pc) [
  | inl less ↦ c.loop-pc.invariant k less closes
  | inr ge ↦
      let same : k ≡ c.loop-pc.pc = omega (arith, lt, ge) in
      let is = c.in_ok-closes.ensures.no (subst (λ n. ClosesCycle (instrs_of c.args.lines.now) n) same closes) in
      false≢true (sym c.if-closes.false ∙ is)
]

pub returns-clause-none : goal.returns-clause-none
returns-clause-none c = λ _ k closes.
    let lt = slice_get_within (instrs_of c.args.lines.now) k closes.instr closes.there in
    let e = instrs_length c.args.lines.now in
    c.loop-pc.invariant k (omega (arith, lt, e, c.loop-pc-test.false)) closes
