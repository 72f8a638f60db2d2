-- One more frame: what is found, counted and printed.
use Rattle.stream_monitor.proofs.Words.{[], ◌++◌, ◌+◌, ◌<◌, ◌∙◌, ◌∷◌, ◌≡◌, ◌⊎◌, AtMost, Bool, CheckOptions, Fib}
use Rattle.stream_monitor.proofs.Words.{Finding, List, Unknown, ap, append-nil, append_assoc, arith, count_step}
use Rattle.stream_monitor.proofs.Words.{counted, false, faults_in, fib_count, findings_more, found_in, found_next}
use Rattle.stream_monitor.proofs.Words.{frame_lines, frames_lines, if◌then◌else◌, inl, inr, is_full, length, lt-ltb}
use Rattle.stream_monitor.proofs.Words.{nat_le, nat_lt, refl, suc, swaps_in, sym, tally_after, true, u64_saturate}
use Rattle.stream_monitor.proofs.Words.{with_more, zero, ℕ}

-- ---- numbers

swaps_append : (xs ys : List Finding) → swaps_in (xs ++ ys) ≡ swaps_in xs + swaps_in ys
swaps_append [] ys = omega arith
swaps_append (x ∷ xs) ys = let rest = swaps_append xs ys in omega (arith, rest)

pub faults_append : (xs ys : List Finding) → faults_in (xs ++ ys) ≡ faults_in xs + faults_in ys
faults_append [] ys = omega arith
faults_append (x ∷ xs) ys = let rest = faults_append xs ys in omega (arith, rest)

saturated : (a b : ℕ) → u64_saturate (u64_saturate a + b) ≡ u64_saturate (a + b)
saturated a b = omega arith

pub saturated_some : (n : ℕ) → nat_lt 0 (u64_saturate n) ≡ nat_lt 0 n
saturated_some zero = refl
saturated_some (suc n) = let some : 0 < u64_saturate (suc n) = omega arith in let one : 0 < suc n = omega arith in
    lt-ltb 0 (u64_saturate (suc n)) some ∙ sym (lt-ltb 0 (suc n) one)

pub counted_none : (o : CheckOptions) (frames : List (List Fib))
    → counted (tally_after o frames) [] ≡ tally_after o frames
counted_none o frames =
    let s : u64_saturate (u64_saturate (swaps_in (found_in o frames)) + 0)
    ≡ u64_saturate (swaps_in (found_in o frames)) = omega arith in
    let f : u64_saturate (u64_saturate (faults_in (found_in o frames)) + 0)
    ≡ u64_saturate (faults_in (found_in o frames)) = omega arith in
    cc

pub tally_more : (o : CheckOptions) (frames : List (List Fib)) (frame : List Fib) → is_full o frames ≡ false
    → counted (tally_after o frames) (found_next o frames frame) ≡ tally_after o (frames ++ frame ∷ [])
tally_more o frames frame room =
    let found = findings_more (fib_count o.mode) (count_step o.mode) o.period [] [] frames frame room in
    let s : u64_saturate (u64_saturate (swaps_in (found_in o frames)) + swaps_in (found_next o frames frame))
    ≡ u64_saturate (swaps_in (found_in o (frames ++ frame ∷ []))) =
    saturated (swaps_in (found_in o frames)) (swaps_in (found_next o frames frame))
    ∙ ap u64_saturate (sym (swaps_append (found_in o frames) (found_next o frames frame)) ∙ ap swaps_in (sym found)) in
    let f : u64_saturate (u64_saturate (faults_in (found_in o frames)) + faults_in (found_next o frames frame))
    ≡ u64_saturate (faults_in (found_in o (frames ++ frame ∷ []))) =
    saturated (faults_in (found_in o frames)) (faults_in (found_next o frames frame))
    ∙ ap u64_saturate (sym (faults_append (found_in o frames) (found_next o frames frame))
    ∙ ap faults_in (sym found)) in
    cc

-- ---- what was reported

pub findings_are : (found more : List Finding) → AtMost 1024 found ≡ with_more (AtMost 1024 []) more → found ≡ more
findings_are found [] e = cc
findings_are found (x ∷ xs) e = chosen (nat_le (length (x ∷ xs)) 1024) e
  where
    chosen : (b : Bool) → AtMost 1024 found ≡ (if b then AtMost 1024 (x ∷ xs) else Unknown) → found ≡ x ∷ xs
    chosen true h = cc
    chosen false h = absurd cc

-- ---- lines

pub text_more : (o : CheckOptions) (skipped : List Fib) (before frames : List (List Fib)) (frame : List Fib)
    → frames_lines o skipped before (frames ++ frame ∷ []) ≡ frames_lines o skipped before frames
    ++ frame_lines o skipped (before ++ frames) frame
text_more o skipped before [] frame = cc (append-nil (frame_lines o skipped before frame), append-nil before)
text_more o skipped before (f ∷ fs) frame =
    let front = frame_lines o skipped before f in
    ap (λ l. front ++ l) (text_more o skipped (before ++ f ∷ []) fs frame)
    ∙ sym (append_assoc front (frames_lines o skipped (before ++ f ∷ []) fs)
    (frame_lines o skipped ((before ++ f ∷ []) ++ fs) frame))
    ∙ ap (λ l. (front ++ frames_lines o skipped (before ++ f ∷ []) fs) ++ frame_lines o skipped l frame)
    (append_assoc before (f ∷ []) fs)

-- a FIB that is skipped comes before all frames
pub text_kept : (o : CheckOptions) (skipped later : List Fib) (frames more : List (List Fib)) → more ≡ frames
    → (later ≡ skipped) ⊎ (frames ≡ [])
    → frames_lines o skipped [] frames ≡ frames_lines o later [] more
text_kept o skipped later frames more same (inl e) = cc (e, same)
text_kept o skipped later frames more same (inr none) = cc (none, same)
