-- Small codes: which are typed, and why and where others are refused.
use Rattle.plan_verifier.proofs.Words.{[], ◌∷◌, Cause, End, Instr, IsInstr, IsProgram, IsRefused, IsTyped, Join}
use Rattle.plan_verifier.proofs.Words.{JoinIdle, Program, arith, refl, ℕ}
use Rattle.plan_verifier.proofs.Samples.{label, line, line_is, code, first_is}
use Rattle.plan_verifier.proofs.OneVerdict.{typed_if, refused_if, codes_have_one_verdict}

-- one instruction, with a cost of 1
abbrev lone : Instr → Program
lone i = code (label 0 1 ∷ []) (line i ∷ [])

lone_is : (i : Instr) → IsInstr i → IsProgram (lone i)
lone_is i h = first_is 1 (line i ∷ []) (omega arith) (omega arith) (line_is i h, tt) (omega arith) (omega arith)

-- ---- codes of one instruction

end_typed : IsTyped (lone End)
end_typed = typed_if (lone End) (lone_is End tt) refl

end_not_refused : (pc : ℕ) (cause : Cause) → IsRefused (lone End) pc cause → ⊥
end_not_refused pc cause = (codes_have_one_verdict (lone End) (lone_is End tt)).never_both pc cause end_typed

join_refused : IsRefused (lone Join) 0 JoinIdle
join_refused = refused_if (lone Join) 0 JoinIdle (lone_is Join tt) refl

join_not_typed : IsTyped (lone Join) → ⊥
join_not_typed typed = (codes_have_one_verdict (lone Join) (lone_is Join tt)).never_both 0 JoinIdle typed join_refused
