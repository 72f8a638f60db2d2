-- Statements about listeners that hold for one run and fail for another.
use Rattle.plan_runs.proofs.Words.{[], ◌∷◌, ◌≡◌, Frame, II, IsNotice, IsUntilNextSwap, KnowsTheCurrent, ListenersKnow}
use Rattle.plan_runs.proofs.Words.{MakesNoSwap, None, Program, Shows, Some, blank, false, inr, refl, true, untuned}
use Rattle.plan_runs.proofs.Samples.{one_sub, short_plan, ended, lowering}

not_blank : Shows blank one_sub → ⊥
not_blank e = cc

-- with a period of no frames the law would fail: nothing was heard
abbrev silent : Program
silent = ended (record (short_plan II 1 20) { period = 0 })

no_period : KnowsTheCurrent silent (lowering None 7) → ⊥
no_period h = not_blank (h [] [] untuned (inr refl) tt refl refl)

not_all : ListenersKnow silent (lowering None 7) → ⊥
not_all h = no_period h.current

-- ---- a notice of one frame, and the swap after it

abbrev code : Program
code = ended (short_plan II 1 20)

a_swap : IsUntilNextSwap code (lowering (Some 0) 7) (Frame ∷ [])
a_swap = (refl, tt)

no_swap : IsUntilNextSwap code (lowering (Some 1) 7) (Frame ∷ []) → ⊥
no_swap h = let e : false ≡ true = h.0 in cc

none_is_made : MakesNoSwap code (lowering (Some 1) 7) (Frame ∷ [])
none_is_made = (refl, tt)

one_is_made : MakesNoSwap code (lowering (Some 1) 7) (Frame ∷ Frame ∷ []) → ⊥
one_is_made h = let e : true ≡ false = h.1.0 in cc

a_notice : IsNotice code (lowering (Some 1) 7) (Frame ∷ [])
a_notice = (refl, tt, refl)

begun_late : IsNotice code (lowering (Some 0) 7) (Frame ∷ []) → ⊥
begun_late h = let e : false ≡ true = h.0 in cc
