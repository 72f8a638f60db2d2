-- Test vectors of costs: codes and scripts that are refused for theirs, and what can run in one frame.
use Rattle.script_compiler.proofs.Words.{[], ◌+◌, ◌<◌, ◌∙◌, ◌∷◌, ◌≡◌, ◌≤◌, CanRevisit, ClosesCycle, End, HasCostAt}
use Rattle.script_compiler.proofs.Words.{Instr, IsFrameCost, IsOver, Jump, Line, List, None, Settle, Some, Wait, ap}
use Rattle.script_compiler.proofs.Words.{arith, false, inl, inr, instrs_of, longest, refl, rules, slice_get, subst, suc}
use Rattle.script_compiler.proofs.Words.{suspends, target_of, true, zero, ℕ}
use Rattle.script_compiler.specs.declared.longest_path.LongestPath.{LongestPath}
use Rattle.script_compiler.specs.declared.frame_costs.FrameCost.TheVariants.{Most}
use Rattle.script_compiler.proofs.Paths.{within_from}

-- ---- codes that are refused for their costs, with the instruction, and codes that are not

-- `forever { settle }`: the jump at its end is the first instruction that closes a loop without a suspension
abbrev settling : List Instr
settling = Settle ∷ Jump 0 ∷ []

-- the instruction before it does not jump
settling_first : (k : ℕ) → k < 1 → ClosesCycle settling k → ⊥
settling_first zero lt c = by c.instr c.target c.there c.jumps
  where
    by : (i : Instr) (target : ℕ) → slice_get settling 0 ≡ Some i → target_of i ≡ Some target → ⊥
    by i target e j = (let same : i ≡ Settle = cc in let none : None
        ≡ Some target = subst (λ (x : Instr). target_of x ≡ Some target) same j in cc)
settling_first (suc k) lt c = absurd (omega (arith, lt))

-- with a wait in it, the machine cannot come back in the same frame
abbrev waiting : List Instr
waiting = Wait 1 ∷ Jump 0 ∷ []

waiting_fine : CanRevisit waiting 0 → ⊥
waiting_fine h = by h.1.0 h.1.2 h.1.3.0
  where
    by : (i : Instr) → slice_get waiting 0 ≡ Some i → suspends i ≡ false → ⊥
    by i e s = (let same : i ≡ Wait 1 = cc in let h : true ≡ false = subst (λ (x : Instr). suspends x ≡ false) same s in
        cc)

abbrev line : ℕ → Instr → Line
line number instr = record { number = number; instr = instr }

-- `settle` in line 3 and the end in line 5 run in one frame
abbrev ending : List Line
ending = line 3 Settle ∷ line 5 End ∷ []

-- two instructions in a frame exceed a budget of 1 from the first, but not from the second
ending_over : IsOver 1 (instrs_of ending) 0
ending_over = (2, omega arith, (Settle, 1, refl, (refl, inl (refl, refl)), search (rules)))

-- the line is that of the instruction, and no other
abbrev lines : List Line
lines = line 7 (Jump 0) ∷ []

jump_closes : ClosesCycle (Jump 0 ∷ []) 0
jump_closes = record {
  instr = Jump 0;
  target = 0;
  there = refl;
  jumps = refl;
  back = omega arith;
  comes = (0, (Jump 0, 0, refl, (refl, inr refl), refl));
}

line_seven : HasCostAt 20 lines 7
line_seven = record {
  pc = 0;
  line = line 7 (Jump 0);
  there = refl;
  number = refl;
  costly = inl (record { point_here = jump_closes; earlier = λ k lt h. absurd (omega (arith, lt)) });
}

not_line_eight : HasCostAt 20 lines 8 → ⊥
not_line_eight h = by h.pc h.line h.there h.number
  where
    by : (pc : ℕ) (l : Line) → slice_get lines pc ≡ Some l → 8 ≡ l.number → ⊥
    by zero l e n = (let same : l ≡ line 7 (Jump 0) = cc in let x : 8 ≡ 7 = n ∙ ap (λ (y : Line). y.number) same in
        omega (arith, x))
    by (suc pc) l e n = cc

-- ---- what can run in one frame of a code, and what is not so

abbrev whole : LongestPath
whole = record { instructions = 2; first = 3; last = 5 }

at_most_two : (pc : ℕ) → longest (instrs_of ending) (2 + 1) pc ≤ 2
at_most_two zero = omega arith
at_most_two (suc zero) = omega arith
at_most_two (suc (suc pc)) = omega arith

whole_is_longest : IsFrameCost ending (Most whole)
whole_is_longest = record {
  from = 0;
  to = 1;
  begins = (line 3 Settle, refl, refl);
  ends = (line 5 End, refl, refl);
  runs = (Settle, 1, refl, (refl, inl (refl, refl)), (search rules, refl));
  longest = within_from (instrs_of ending) 2 at_most_two;
}

-- not the second instruction alone, since both can run
part_is_not : IsFrameCost ending (Most (record { instructions = 1; first = 5; last = 5 })) → ⊥
part_is_not h =
    let both = h.longest 0 2 (Settle, 1, refl, (refl, inl (refl, refl)), search rules) in
    omega (arith, both)
