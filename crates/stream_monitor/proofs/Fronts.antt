-- A check goes on as far as a front of a stream goes if it goes on behind it.
use Rattle.stream_monitor.proofs.Words.{[], ◌&&◌, ◌++◌, ◌+◌, ◌<◌, ◌∙◌, ◌∷◌, ◌≡◌, ◌≤◌, AreFrames, Bool, CheckOptions}
use Rattle.stream_monitor.proofs.Words.{Fib, Finding, IsFramed, IsTooLong, List, arith, cases_lt, cond, count_step}
use Rattle.stream_monitor.proofs.Words.{damaged_in, false, false≢true, faults_in, fib_count, flat, found_in, inl, inr}
use Rattle.stream_monitor.proofs.Words.{is_damaged, is_full, is_stopped, le-ltb, length, length-append, lt-ltb, most}
use Rattle.stream_monitor.proofs.Words.{nat_lt, refl, room_before, sym, true, ℕ}
use Rattle.stream_check.specs.declared.contradiction.Contradiction.{Contradiction}
use Rattle.stream_check.specs.History.{Moment, frame_items}
use Rattle.stream_check.specs.Stream.{runs_full, findings_in, findings_from, noted_in, past_after_frame}
use Rattle.stream_monitor.proofs.Frames.{faults_append}

-- ---- no frame of a front ends the check

faults_before : (size step period : ℕ) (past : List Moment) (noted : List Contradiction) (f more : List (List Fib))
    → faults_in (findings_from size step period past noted f)
    ≤ faults_in (findings_from size step period past noted (f ++ more))
faults_before size step period past noted [] more = omega arith
faults_before size step period past noted (g ∷ gs) more =
    let here = findings_in size step period past noted g in
    let front = findings_from size step period (past_after_frame step past g) (noted_in period past noted g) gs in
    let whole = findings_from size step period (past_after_frame step past g) (noted_in period past noted g)
    (gs ++ more) in
    let b = faults_append here (cond (runs_full step period past (frame_items g)) [] whole) in
    let c = chosen front whole
    (faults_before size step period (past_after_frame step past g) (noted_in period past noted g) gs more)
    (runs_full step period past (frame_items g)) in
    omega (arith, faults_append here (cond (runs_full step period past (frame_items g)) [] front), b, c)
  where
    chosen : (front whole : List Finding) → faults_in front ≤ faults_in whole → (t : Bool)
        → faults_in (cond t [] front) ≤ faults_in (cond t [] whole)
    chosen front whole rest true = omega arith
    chosen front whole rest false = rest

pub full_before : (o : CheckOptions) (f more : List (List Fib)) → is_full o (f ++ more) ≡ false → is_full o f ≡ false
full_before o f more e = room_before (count_step o.mode) o.period [] f more e

pub stopped_before : (o : CheckOptions) (f more : List (List Fib)) → is_stopped o (f ++ more) ≡ false
    → is_stopped o f ≡ false
stopped_before o f more e = chosen o.until_fault e
  where
    chosen : (b : Bool) → (b && nat_lt 0 (faults_in (found_in o (f ++ more)))) ≡ false
        → (b && nat_lt 0 (faults_in (found_in o f))) ≡ false
    chosen false h = refl
    chosen true h = elim (cases_lt 0 (faults_in (found_in o f))) [
      | inl some ↦
          let less = faults_before (fib_count o.mode) (count_step o.mode) o.period [] [] f more in
          absurd (false≢true (sym h ∙ lt-ltb 0 (faults_in (found_in o (f ++ more))) (omega (arith, some, less))))
      | inr none ↦ le-ltb 0 (faults_in (found_in o f)) none
    ]

-- ---- counters

damaged_few : (fibs : List Fib) → damaged_in fibs ≤ length fibs
damaged_few [] = omega arith
damaged_few (x ∷ xs) = let rest = damaged_few xs in let one = at_most (is_damaged x) in omega (arith, rest, one)
  where
    at_most : (b : Bool) → cond b 1 0 ≤ 1
    at_most true = omega arith
    at_most false = omega arith

frames_few : (size : ℕ) (frames : List (List Fib)) (rest : List Fib) → AreFrames size frames rest
    → length frames ≤ length (flat frames)
frames_few size [] rest cut = omega arith
frames_few size ([] ∷ frames) rest cut = absurd cut.0
frames_few size ((x ∷ xs) ∷ frames) rest cut = let more = frames_few size frames rest cut.3 in let len =
    length-append (x ∷ xs) (flat frames) in omega (arith, more, len)

-- a stream of fewer FIBs is not too long
pub not_long : (size : ℕ) (stream skipped : List Fib) (frames : List (List Fib)) (rest : List Fib)
    → IsFramed size stream skipped frames rest → length stream < most → IsTooLong skipped frames → ⊥
not_long size stream skipped frames rest framed short long =
    let len : length stream ≡ length skipped + (length (flat frames) + length rest) =
    cc (framed.whole, length-append skipped (flat frames ++ rest), length-append (flat frames) rest) in
    elim long [
      | inl a ↦ absurd (omega (arith, len, frames_few size frames rest framed.cut, short, a))
      | inr b ↦ elim b [
        | inl c ↦ absurd (omega (arith, len, short, c))
        | inr d ↦ absurd (omega (arith, len, damaged_few (flat frames), short, d))
      ]
    ]
