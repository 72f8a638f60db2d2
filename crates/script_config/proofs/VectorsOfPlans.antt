-- Test vectors: small plans for which each definition holds, and for which it fails.
use Rattle.script_config.proofs.Words.{[], ◌∷◌, ◌≡◌, ◌≢◌, CommitIn, DropSub, Edit, FitFrames, FrameLayout, I, II}
use Rattle.script_config.proofs.Words.{IsSoundOpening, Join, Plan, ReserveOne, Wait, Whole, arith, edits_in, nothing}
use Rattle.script_config.proofs.Words.{paced, pause_after, refl, ℕ}
use Rattle.script_config.specs.declared.opening.Opening.{Opening}
use Rattle.script_config.specs.declared.refusal.DiffFault.TheVariants.{AnotherEnsemble}
use Rattle.script_config.specs.Refusals.{IsOneEnsemble, CanBePlanned, IsInTheWay}
use Rattle.script_front.specs.declared.tree.Act.TheVariants.{Edit as Edits}

abbrev one : Edit
one = DropSub 1

abbrev other : Edit
other = DropSub 2

-- two edits a frame, counted from 1
two_to_a_frame : paced 2 1 (one ∷ other ∷ one ∷ []) ≡ Edits one ∷ Edits other ∷ Wait 1 ∷ Edits one ∷ []
two_to_a_frame = refl

one_to_a_frame : paced 1 1 (one ∷ other ∷ []) ≡ Edits one ∷ Wait 1 ∷ Edits other ∷ Wait 1 ∷ []
one_to_a_frame = refl

no_pause_before : pause_after 2 1 ≢ Wait 1 ∷ []
no_pause_before e = absurd (cc)

the_edits : edits_in (Edits one ∷ Wait 1 ∷ Edits other ∷ CommitIn 24 ∷ Join ∷ []) ≡ one ∷ other ∷ []
the_edits = refl

not_the_others : edits_in (Edits one ∷ Edits other ∷ []) ≢ other ∷ one ∷ []
not_the_others e = absurd (cc)

they_fit : FitFrames 3 3 (Edits one ∷ Edits other ∷ Wait 1 ∷ Edits one ∷ CommitIn 24 ∷ Join ∷ [])
they_fit = (omega arith, (omega arith, (omega arith, (omega arith, (omega arith, (omega arith, tt))))))

too_many : FitFrames 2 2 (Edits one ∷ Edits other ∷ Wait 1 ∷ []) → ⊥
too_many h = let third = h.1.1.0 in absurd (omega (arith, third))

-- ---- openings

abbrev header : ℕ → ℕ → Plan
header eid budget = record { eid = eid; layout = Whole I; period = 4; notice = 24; budget = budget }

abbrev empty : ℕ → ℕ → Opening
empty eid budget = record { header = header eid budget; begin_line = 3; config = nothing }

out_of_range : IsSoundOpening (empty 1 0) → ⊥
out_of_range h = let from = h.headed.budget_from in absurd (omega (arith, from))

another : IsInTheWay (empty 1 20) (empty 2 20) AnotherEnsemble
another h = let same = h.eid in absurd (omega (arith, same))

not_another : IsInTheWay (empty 1 20) (empty 1 20) AnotherEnsemble → ⊥
not_another h = h (record { eid = refl; mode = refl })

-- reserved FIBs make no other ensemble; another mode does
abbrev laid_out : FrameLayout → Opening
laid_out layout = record {
  header = record { eid = 1; layout = layout; period = 4; notice = 24; budget = 20 };
  begin_line = 3;
  config = nothing;
}

of_another_reserve : IsOneEnsemble (laid_out (Whole I)) (laid_out (ReserveOne I))
of_another_reserve = record { eid = refl; mode = refl }

of_another_mode : IsOneEnsemble (laid_out (Whole I)) (laid_out (Whole II)) → ⊥
of_another_mode h = let same : I ≡ II = h.mode in absurd (cc)

leads_nowhere : CanBePlanned (empty 1 20) (empty 1 20) → ⊥
leads_nowhere h = h.changes refl
