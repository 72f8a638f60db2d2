-- A stream cut into frames, with one more FIB.
use Rattle.stream_check.proofs.Words.{[], ◌++◌, ◌+◌, ◌∙◌, ◌∷◌, ◌≡◌, ◌≢◌, ◌⊎◌, AllByRecursion, AreFrames, BeginsAnew}
use Rattle.stream_check.proofs.Words.{Bool, Contradiction, Fib, HoldsFirst, IsFramed, IsOneFrame, List, Moment}
use Rattle.stream_check.proofs.Words.{after_frames, ap, append-nil, append_assoc, arith, begins_with_ensemble, cond}
use Rattle.stream_check.proofs.Words.{damaged_in, false, false≢true, findings_from, findings_in, flat_map}
use Rattle.stream_check.proofs.Words.{flat_map-append, frame_items, frames_full, holds_ensemble, inl, inr, noted_in}
use Rattle.stream_check.proofs.Words.{noted_in_frames, past_after_frame, refl, runs_full, subst, sym, true, ℕ}

abbrev pub flat : List (List Fib) → List Fib
flat frames = flat_map (λ f. f) frames

-- ---- frames, and then others

pub begins_more : (xs ys : List Fib) → BeginsAnew xs → BeginsAnew (xs ++ ys)
begins_more [] ys b = absurd b
begins_more (x ∷ xs) ys b = b

pub frames_then : (size : ℕ) (frames tail : List (List Fib)) (held rest more : List Fib) → flat tail ++ rest ≡ held
    ++ more → AreFrames size tail rest → AreFrames size frames held → AreFrames size (frames ++ tail) rest
frames_then size [] tail held rest more e t all = t
frames_then size (f ∷ fs) tail held rest more e t all =
    let same : flat (fs ++ tail) ++ rest ≡ (flat fs ++ held) ++ more =
    ap (λ l. l ++ rest) (flat_map-append (λ g. g) fs tail) ∙ append_assoc (flat fs) (flat tail) rest
    ∙ ap (λ l. flat fs ++ l) e ∙ sym (append_assoc (flat fs) held more) in (
      all.0,
      all.1,
      (λ short. subst BeginsAnew (sym same) (begins_more (flat fs ++ held) more (all.2 short))),
      frames_then size fs tail held rest more e t all.3,
    )

pub all_append : {X : Type 0} (P : X → Type 0) (xs ys : List X) → AllByRecursion P xs → AllByRecursion P ys
    → AllByRecursion P (xs ++ ys)
all_append P [] ys a b = b
all_append P (x ∷ xs) ys a b = (a.0, all_append P xs ys a.1 b)

-- one more FIB of the current frame
pub one_more : (held : List Fib) (fib : Fib) → (held ≢ [] → begins_with_ensemble fib ≡ false) → IsOneFrame held
    ⊎ (held ≡ []) → IsOneFrame (held ++ fib ∷ [])
one_more [] fib free one = tt
one_more (x ∷ xs) fib free (inl one) =
    all_append (λ later. begins_with_ensemble later ≡ false) xs (fib ∷ []) one (free (λ e. absurd cc), tt)
one_more (x ∷ xs) fib free (inr none) = absurd cc

-- the current frame, from the whole cut
pub held_of : (size : ℕ) (frames : List (List Fib)) (held : List Fib) → AreFrames size frames held → IsOneFrame held
    ⊎ (held ≡ [])
held_of size [] [] all = inr refl
held_of size [] (x ∷ xs) all = inl all.0
held_of size (f ∷ fs) held all = held_of size fs held all.3

-- ---- the cases for the next FIB

pub skips_more : (size : ℕ) (stream skipped : List Fib) (fib : Fib) → holds_ensemble fib ≡ false
    → IsFramed size stream skipped [] [] → IsFramed size (stream ++ fib ∷ []) (skipped ++ fib ∷ []) [] []
skips_more size stream skipped fib no_ensemble f = record {
  whole = rw (f.whole ∙ append-nil skipped) (sym (append-nil (skipped ++ fib ∷ [])));
  before = all_append (λ g. holds_ensemble g ≡ false) skipped (fib ∷ []) f.before (no_ensemble, tt);
  begun = tt;
  cut = tt;
}

-- the buffered FIBs and one more become some frames and another rest
pub goes_on : (size : ℕ) (stream skipped : List Fib) (frames tail : List (List Fib)) (held rest : List Fib) (fib : Fib)
    → flat tail ++ rest ≡ held ++ fib ∷ [] → AreFrames size tail rest
    → HoldsFirst ((flat frames ++ held) ++ fib ∷ []) → IsFramed size stream skipped frames held
    → IsFramed size (stream ++ fib ∷ []) skipped (frames ++ tail) rest
goes_on size stream skipped frames tail held rest fib e t first f =
    let same : flat (frames ++ tail) ++ rest ≡ (flat frames ++ held) ++ fib ∷ [] =
    rw (flat_map-append (λ g. g) frames tail) (append_assoc (flat frames) (flat tail) rest
    ∙ ap (λ l. flat frames ++ l) e ∙ sym (append_assoc (flat frames) held (fib ∷ []))) in
    record {
      whole = ap (λ l. l ++ fib ∷ []) f.whole ∙ append_assoc skipped (flat frames ++ held) (fib ∷ [])
          ∙ ap (λ l. skipped ++ l) (sym same);
      before = f.before;
      begun = subst HoldsFirst (sym same) first;
      cut = frames_then size frames tail held rest (fib ∷ []) e t f.cut;
    }

-- ---- the findings in one more frame

pub after_more : (step : ℕ) (past : List Moment) (frames : List (List Fib)) (f : List Fib)
    → after_frames step past (frames ++ f ∷ []) ≡ past_after_frame step (after_frames step past frames) f
after_more step past [] f = refl
after_more step past (g ∷ gs) f = after_more step (past_after_frame step past g) gs f

pub full_more : (step period : ℕ) (past : List Moment) (frames : List (List Fib)) (f : List Fib)
    → frames_full step period past frames ≡ false
    → frames_full step period past (frames ++ f ∷ []) ≡ runs_full step period (after_frames step past frames)
    (frame_items f)
full_more step period past [] f e = chosen (runs_full step period past (frame_items f))
  where
    chosen : (t : Bool) → cond t true false ≡ t
    chosen true = refl
    chosen false = refl
full_more step period past (g ∷ gs) f e =
    elim (runs_full step period past (frame_items g)) as (λ t.
    cond t true (frames_full step period (past_after_frame step past g) gs) ≡ false
    → cond t true (frames_full step period (past_after_frame step past g) (gs ++ f ∷ []))
    ≡ runs_full step period (after_frames step (past_after_frame step past g) gs) (frame_items f)) [
      | true ↦ λ h. absurd (false≢true (sym h))
      | false ↦ λ h. full_more step period (past_after_frame step past g) gs f h
    ] e

pub noted_more : (step period : ℕ) (past : List Moment) (noted : List Contradiction) (frames : List (List Fib))
    (f : List Fib)
    → noted_in_frames step period past noted (frames ++ f ∷ [])
    ≡ noted_in period (after_frames step past frames) (noted_in_frames step period past noted frames) f
noted_more step period past noted [] f = refl
noted_more step period past noted (g ∷ gs) f =
    noted_more step period (past_after_frame step past g) (noted_in period past noted g) gs f

pub findings_more : (size step period : ℕ) (past : List Moment) (noted : List Contradiction) (frames : List (List Fib))
    (f : List Fib) → frames_full step period past frames ≡ false
    → findings_from size step period past noted (frames ++ f ∷ [])
    ≡ findings_from size step period past noted frames
    ++ findings_in size step period (after_frames step past frames) (noted_in_frames step period past noted frames)
    f
findings_more size step period past noted [] f e = chosen (runs_full step period past (frame_items f))
    ∙ append-nil (findings_in size step period past noted f)
  where
    chosen : (t : Bool) → findings_in size step period past noted f
        ++ cond t [] [] ≡ findings_in size step period past noted f ++ []
    chosen true = refl
    chosen false = refl
findings_more size step period past noted (g ∷ gs) f e =
    let here = findings_in size step period past noted g in
    let now = noted_in period past noted g in
    let last = findings_in size step period (after_frames step (past_after_frame step past g) gs)
    (noted_in_frames step period (past_after_frame step past g) now gs) f in
    elim (runs_full step period past (frame_items g)) as (λ t.
    cond t true (frames_full step period (past_after_frame step past g) gs) ≡ false
    → here ++ cond t [] (findings_from size step period (past_after_frame step past g) now (gs ++ f ∷ []))
    ≡ (here ++ cond t [] (findings_from size step period (past_after_frame step past g) now gs)) ++ last) [
      | true ↦ λ h. absurd (false≢true (sym h))
      | false ↦ λ h. ap (λ l. here ++ l) (findings_more size step period (past_after_frame step past g) now gs f h)
          ∙ sym (append_assoc here (findings_from size step period (past_after_frame step past g) now gs) last)
    ] e

pub damaged_append : (xs ys : List Fib) → damaged_in (xs ++ ys) ≡ damaged_in xs + damaged_in ys
damaged_append [] ys = omega arith
damaged_append (x ∷ xs) ys = let rest = damaged_append xs ys in omega (arith, rest)
