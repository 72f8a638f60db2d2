-- Merging frame by frame: one more FIB of a frame, and one more frame.
use Rattle.cli_streams.proofs.Words.{[], ◌*◌, ◌++◌, ◌+◌, ◌-◌, ◌<◌, ◌∙◌, ◌∷◌, ◌≡◌, ◌≤◌, ◌⊎◌, FillsFib, List, Merging}
use Rattle.cli_streams.proofs.Words.{Reading, after_fill, after_filling, after_merging, after_taking, ap, append-nil}
use Rattle.cli_streams.proofs.Words.{append_assoc, arith, bytes_of, concat, concat-append, drop, drop-drop, fib_from}
use Rattle.cli_streams.proofs.Words.{filled_frame, first_chunks, flat_map, inl, inr, length, length-append, length-drop}
use Rattle.cli_streams.proofs.Words.{length-take-le, merged, merged_frames, next_of, refl, subst, suc, sym, take, ℕ}
use Rattle.std.proofs.Math.Seq.{take-append_seam, drop-append_seam}

-- ---- one more FIB of the plan

chunk_next : (count index : ℕ) (xs : List ℕ) → index < count
    → first_chunks 32 (count - index) (drop (index * 32) xs) ≡ fib_from (index * 32) xs
    ∷ first_chunks 32 (count - (index + 1)) (drop ((index + 1) * 32) xs)
chunk_next count index xs lt =
    let one_less : count - index ≡ suc (count - (index + 1)) = omega arith in
    let further : index * 32 + 32 ≡ (index + 1) * 32 = omega arith in
    let behind : drop 32 (drop (index * 32) xs) ≡ drop ((index + 1) * 32) xs =
    drop-drop 32 (index * 32) xs ∙ ap (λ n. drop n xs) further in
    ap (λ n. first_chunks 32 n (drop (index * 32) xs)) one_less
    ∙ ap (λ (l : List ℕ). fib_from (index * 32) xs ∷ first_chunks 32 (count - (index + 1)) l) behind

-- the first FIBs of a frame are filled, and the others are as they were
pub record FilledSoFar (index count : ℕ) (old now : List ℕ) (before after : Merging) : Type 0 where
  pub whole : length now ≡ length old
  pub rest : drop (index * 32) now ≡ drop (index * 32) old
  pub bytes : (r : Reading) → take (index * 32) now ++ concat
      (filled_frame r (first_chunks 32 (count - index) (drop (index * 32) old)) after)
      ≡ concat (filled_frame r (first_chunks 32 count old) before)
  pub merger : (r : Reading) → after_filling r (first_chunks 32 (count - index) (drop (index * 32) old)) after
      ≡ after_filling r (first_chunks 32 count old) before

pub filled_more : (index count : ℕ) (old now new : List ℕ) (before mid after : Merging) → index < count
    → count * 32 ≤ length old
    → FilledSoFar index count old now before mid → FillsFib (index * 32) now new mid after
    → FilledSoFar (index + 1) count old new before after
filled_more index count old now new before mid after lt fits so_far step =
    let at = index * 32 in
    let front = take at now in
    let behind = drop (at + 32) now in
    let further : at + 32 ≡ (index + 1) * 32 = omega arith in
    let long : length front ≡ at = length-take-le at now (omega (arith, lt, fits, so_far.whole)) in
    let size : length (front ++ step.fib) ≡ (index + 1) * 32 =
    omega (arith, length-append front step.fib, long, step.size, further) in
    let joined : new ≡ (front ++ step.fib) ++ behind = step.bytes ∙ sym (append_assoc front step.fib behind) in
    let taken : take ((index + 1) * 32) new ≡ front ++ step.fib =
    ap (λ n. take n new) (sym size) ∙ ap (take (length (front ++ step.fib))) joined
    ∙ take-append_seam (front ++ step.fib) behind in
    let dropped : drop ((index + 1) * 32) new ≡ behind =
    ap (λ n. drop n new) (sym size) ∙ ap (drop (length (front ++ step.fib))) joined
    ∙ drop-append_seam (front ++ step.fib) behind in
    let same_behind : behind ≡ drop ((index + 1) * 32) old =
    sym (drop-drop 32 at now) ∙ ap (drop 32) so_far.rest ∙ drop-drop 32 at old ∙ ap (λ n. drop n old) further in
    let same_fib : fib_from at now ≡ fib_from at old = ap (take 32) so_far.rest in
    let others = first_chunks 32 (count - (index + 1)) (drop ((index + 1) * 32) old) in
    record {
      whole = ap length joined
          ∙ omega (
            arith,
            length-append (front ++ step.fib) behind,
            size,
            length-drop (at + 32) now,
            lt,
            fits,
            so_far.whole,
          );
      rest = dropped ∙ same_behind;
      bytes = λ r.
          let fib_is : step.fib ≡ merged (fib_from at old) (r.read (fib_from at old)) mid =
          step.filled r ∙ ap (λ (f : List ℕ). merged f (r.read f) mid) same_fib in
          let after_is : after ≡ after_fill (r.read (fib_from at old)) mid =
          step.merger r ∙ ap (λ (f : List ℕ). after_fill (r.read f) mid) same_fib in
          let tail = filled_frame r others after in
          let expanded : concat (filled_frame r (first_chunks 32 (count - index) (drop at old)) mid) ≡ step.fib
          ++ concat tail =
          ap (λ (l : List (List ℕ)). concat (filled_frame r l mid)) (chunk_next count index old lt)
          ∙ ap (λ (n : Merging). merged (fib_from at old) (r.read (fib_from at old)) mid
          ++ concat (filled_frame r others n)) (sym after_is)
          ∙ ap (λ (f : List ℕ). f ++ concat tail) (sym fib_is) in
          ap (λ (l : List ℕ). l ++ concat tail) taken ∙ append_assoc front step.fib (concat tail)
          ∙ ap (λ (l : List ℕ). front ++ l) (sym expanded) ∙ so_far.bytes r;
      merger = λ r.
          let after_is : after ≡ after_fill (r.read (fib_from at old)) mid =
          step.merger r ∙ ap (λ (f : List ℕ). after_fill (r.read f) mid) same_fib in
          ap (after_filling r others) after_is
          ∙ sym (ap (λ (l : List (List ℕ)). after_filling r l mid) (chunk_next count index old lt)) ∙ so_far.merger r;
    }

-- ---- one more frame

pub merged_next : (r : Reading) (frames : List (List (List ℕ))) (frame : List (List ℕ))
    (taken next : List (List (List ℕ))) (m : Merging)
    → (length taken ≡ length frames) ⊎ ((length taken ≤ length frames) × (next ≡ []))
    → merged_frames r (frames ++ frame ∷ []) (taken ++ next) m
    ≡ merged_frames r frames taken m ++ filled_frame r frame
    (after_taking r (next_of next) (after_merging r frames taken m)) ∷ []
merged_next r [] frame [] next m turn = refl
merged_next r [] frame (t ∷ ts) next m (inl e) = absurd (cc)
merged_next r [] frame (t ∷ ts) next m (inr (le, e)) = absurd (omega (arith, le))
merged_next r (f ∷ fs) frame [] next m (inl e) = absurd (cc)
merged_next r (f ∷ fs) frame [] next m (inr (le, e)) =
    let step = merged_next r fs frame [] [] (after_filling r f m) (inr (omega arith, refl)) in
    subst (λ (n : List (List (List ℕ))). merged_frames r (f ∷ (fs ++ frame ∷ [])) n m
    ≡ filled_frame r f m ∷ (merged_frames r fs [] (after_filling r f m)
    ++ filled_frame r frame (after_taking r (next_of n) (after_merging r fs [] (after_filling r f m))) ∷ []))
    (sym e) (ap (λ (l : List (List (List ℕ))). filled_frame r f m ∷ l) step)
merged_next r (f ∷ fs) frame (t ∷ ts) next m turn =
    let mid = after_taking r t m in
    ap (λ (l : List (List (List ℕ))). filled_frame r f mid ∷ l)
    (merged_next r fs frame ts next (after_filling r f mid) (shorter turn))
  where
    shorter : (length (t ∷ ts) ≡ length (f ∷ fs)) ⊎ ((length (t ∷ ts) ≤ length (f ∷ fs)) × (next ≡ []))
        → (length ts ≡ length fs) ⊎ ((length ts ≤ length fs) × (next ≡ []))
    shorter (inl e) = inl (omega (arith, e))
    shorter (inr (le, e)) = inr (omega (arith, le), e)

pub after_next : (r : Reading) (frames : List (List (List ℕ))) (frame : List (List ℕ))
    (taken next : List (List (List ℕ))) (m : Merging)
    → (length taken ≡ length frames) ⊎ ((length taken ≤ length frames) × (next ≡ []))
    → after_merging r (frames ++ frame ∷ []) (taken ++ next) m
    ≡ after_filling r frame (after_taking r (next_of next) (after_merging r frames taken m))
after_next r [] frame [] next m turn = refl
after_next r [] frame (t ∷ ts) next m (inl e) = absurd (cc)
after_next r [] frame (t ∷ ts) next m (inr (le, e)) = absurd (omega (arith, le))
after_next r (f ∷ fs) frame [] next m (inl e) = absurd (cc)
after_next r (f ∷ fs) frame [] next m (inr (le, e)) =
    let step = after_next r fs frame [] [] (after_filling r f m) (inr (omega arith, refl)) in
    subst (λ (n : List (List (List ℕ))). after_merging r (f ∷ (fs ++ frame ∷ [])) n m
    ≡ after_filling r frame (after_taking r (next_of n) (after_merging r fs [] (after_filling r f m))))
    (sym e) step
after_next r (f ∷ fs) frame (t ∷ ts) next m turn =
    after_next r fs frame ts next (after_filling r f (after_taking r t m)) (shorter turn)
  where
    shorter : (length (t ∷ ts) ≡ length (f ∷ fs)) ⊎ ((length (t ∷ ts) ≤ length (f ∷ fs)) × (next ≡ []))
        → (length ts ≡ length fs) ⊎ ((length ts ≤ length fs) × (next ≡ []))
    shorter (inl e) = inl (omega (arith, e))
    shorter (inr (le, e)) = inr (omega (arith, le), e)

-- the bytes of one more frame follow those before
pub bytes_next : (frames : List (List (List ℕ))) (frame : List (List ℕ))
    → bytes_of (frames ++ frame ∷ []) ≡ bytes_of frames ++ concat frame
bytes_next [] frame = ap concat (append-nil frame)
bytes_next (f ∷ fs) frame =
    concat-append f (flat_map (λ x. x) (fs ++ frame ∷ [])) ∙ ap (λ (l : List ℕ). concat f ++ l) (bytes_next fs frame)
    ∙ sym (append_assoc (concat f) (bytes_of fs) (concat frame))
    ∙ ap (λ (l : List ℕ). l ++ concat frame) (sym (concat-append f (flat_map (λ x. x) fs)))
