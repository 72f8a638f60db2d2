-- One step of the walk, as the code makes it.
use Rattle.plan_verifier.proofs.Words.{◌+◌, ◌<◌, ◌∙◌, ◌≡◌, Cause, Err, IfErr, Instr, Known, Label, Line, List, None, Ok}
use Rattle.plan_verifier.proofs.Words.{OnOk, Option, PassesInstr, Program, Result, Some, ap, arith, continues}
use Rattle.plan_verifier.proofs.Words.{declared_by, drop, entered, instr_at, instr_or_end, known_at_pc, known_cause}
use Rattle.plan_verifier.proofs.Words.{known_if_reached, label_at, leaves, length, opening_cause, opening_known}
use Rattle.plan_verifier.proofs.Words.{option_map, passed_on, refl, refusal_of, refused_at, subst, suc, taken}
use Rattle.plan_verifier.proofs.Words.{unless, walk, whole_cause, zero, ℕ}
use Rattle.plan_verifier.proofs.Finding.{unless_err, unless_ok}
use Rattle.plan_verifier.proofs.Verdicts.{slice_there, stops, passes, dropped}

pub entered_first : (code : Program) (pc : ℕ) (came : Option Known) → pc ≡ 0
    → entered code pc came ≡ opening_known code (label_at code 0)
entered_first code zero came e = refl
entered_first code (suc pc) came e = absurd (omega (arith, e))

pub entered_later : (code : Program) (pc : ℕ) (came : Option Known) → 0 < pc
    → entered code pc came ≡ known_at_pc code (label_at code pc) came
entered_later code zero came lt = absurd (omega (arith, lt))
entered_later code (suc pc) came lt = refl

-- ---- results of functions

opens_err : (code : Program) (label : Label) (t : Known) (given : Cause) → label_at code 0 ≡ Some label
    → t ≡ declared_by code label → opening_cause code label t ≡ Some given
    → opening_known code (label_at code 0) ≡ Err given
opens_err code label t given at same e =
    let found = subst (λ (u : Known). opening_cause code label u ≡ Some given) same e in
    ap (opening_known code) at ∙ ap (λ (o : Option Cause). taken o (declared_by code label)) found

pub opening_refused : (code : Program) (label : Label) (t : Known) (r : Result (Unit {0}) Cause)
    → label_at code 0 ≡ Some label → t ≡ declared_by code label
    → r ≡ unless (opening_cause code label t) → IfErr r (λ cause. opening_known code (label_at code 0) ≡ Err cause)
opening_refused code label t (Ok done) at same e = tt
opening_refused code label t (Err given) at same e = opens_err code label t given at same (unless_err _ given e)

pub visit_refused : (code : Program) (pc : ℕ) (i : Instr) (came : Option Known) (t : Known)
    (r : Result (Unit {0}) Cause) → entered code pc came ≡ Ok t
    → r ≡ unless (known_cause code pc i t)
    → IfErr r (λ cause. whole_cause (entered code pc came) (known_cause code pc i) ≡ Some cause)
visit_refused code pc i came t (Ok done) enters e = tt
visit_refused code pc i came t (Err given) enters e = cc (enters, unless_err _ given e)

pub visit_passed : (code : Program) (pc : ℕ) (i : Instr) (came : Option Known) (t left : Known)
    (r : Result (Unit {0}) Cause) → entered code pc came ≡ Ok t
    → r ≡ unless (known_cause code pc i t) → OnOk r (left ≡ leaves code.plan i t)
    → OnOk r (PassesInstr code pc i came left)
visit_passed code pc i came t left (Ok done) enters e goes =
    record { known = t; enters = enters; none = unless_ok _ e; leaves_it = goes }
visit_passed code pc i came t left (Err given) enters e goes = tt

pub visit_stopped : (code : Program) (pc : ℕ) (i : Instr) (came : Option Known) (given : Cause)
    → entered code pc came ≡ Err given
    → whole_cause (entered code pc came) (known_cause code pc i) ≡ Some given
visit_stopped code pc i came given e = ap (λ (x : Result Known Cause). whole_cause x (known_cause code pc i)) e

-- ---- the loop over the instructions

instr_is : (code : Program) (pc : ℕ) (line : Line) (o : Option Line) → o ≡ Some line
    → instr_or_end (option_map (λ (l : Line). l.instr) o) ≡ line.instr
instr_is code pc line o e = rw e refl

pub walk_stop : (code : Program) (pc : ℕ) (came : Option Known) (cause : Cause) → pc < length code.lines
    → refusal_of code ≡ walk code (drop pc code.lines) pc came
    → whole_cause (entered code pc came) (known_cause code pc (instr_or_end (instr_at code pc))) ≡ Some cause
    → refusal_of code ≡ refused_at pc cause
walk_stop code pc came cause lt walked e =
    let line = slice_there code.lines pc lt in
    let is : instr_or_end (instr_at code pc) ≡ line.0.instr = instr_is code pc line.0 _ line.1 in
    let here = subst (λ (i : Instr). whole_cause (entered code pc came) (known_cause code pc i) ≡ Some cause) is e in
    walked ∙ ap (λ (ls : List Line). walk code ls pc came) (dropped _ pc _ line.1) ∙ stops pc (entered code pc came)
    (known_cause code pc line.0.instr) (λ t. walk code _ _ _) cause here

pub walk_go : (code : Program) (pc : ℕ) (came : Option Known) (left : Known) → pc < length code.lines
    → refusal_of code ≡ walk code (drop pc code.lines) pc came
    → PassesInstr code pc (instr_or_end (instr_at code pc)) came left
    → refusal_of code ≡ walk code (drop (pc + 1) code.lines) (pc + 1)
    (known_if_reached (continues (instr_or_end (instr_at code pc))) left)
walk_go code pc came left lt walked p =
    let line = slice_there code.lines pc lt in
    let is : instr_or_end (instr_at code pc) ≡ line.0.instr = instr_is code pc line.0 _ line.1 in
    let none = subst (λ (j : Instr). known_cause code pc j p.known ≡ None) is p.none in
    let up : suc pc ≡ pc + 1 = omega arith in
    let came_next : passed_on code.plan line.0.instr p.known ≡ known_if_reached
    (continues (instr_or_end (instr_at code pc))) left = cc (is, p.leaves_it) in
    walked ∙ ap (λ (ls : List Line). walk code ls pc came) (dropped code.lines pc line.0 line.1)
    ∙ passes pc (entered code pc came) (known_cause code pc line.0.instr)
    (λ t. walk code (drop (suc pc) code.lines) (pc + 1) (passed_on code.plan line.0.instr t)) p.known p.enters none
    ∙ ap (λ (n : ℕ). walk code (drop n code.lines) (pc + 1) (passed_on code.plan line.0.instr p.known)) up
    ∙ ap (λ (o : Option Known). walk code (drop (pc + 1) code.lines) (pc + 1) o) came_next
