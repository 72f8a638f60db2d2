-- How an entry of the current configuration stays, and how often it is sent, in a stream without a fault
-- (EN 300 401 clauses 6.2.1, 6.3.1, 6.3.2 and 6.5).
use Rattle.std.specs.Prelude.{◌≡◌, ℕ, ◌+◌, ◌≤◌, if◌then◌else◌, false, List, [], ◌∷◌, ◌++◌, length, map, Contains, Some}
use Rattle.std.specs.List.{AllByRecursion}
use Rattle.fib_reader.specs.Raw.{Raw}
use Rattle.stream_check.specs.Frames.{Fib, Reading}
use Rattle.stream_check.specs.History.{Moment, Said, Ended, frames_ended, listener_after, is_swap}
use Rattle.stream_check.specs.Stream.{after_frames}
use Rattle.stream_laws.specs.Faultless.{IsFaultless}
use Rattle.stream_laws.specs.Keeping.{entry_like}
use Rattle.stream_laws.specs.Notices.{AreFibBytes, read_frames, row_of}
use Rattle.stream_laws.specs.Entries.{IsSent}

-- the number of the frame, from 1, in which the last swap was made; 0 if none was
abbrev pub last_swap : List Moment → ℕ
last_swap [] = 0
last_swap (Said i ∷ past) = if is_swap past i then frames_ended past + 1 else last_swap past
last_swap (Ended count ∷ past) = last_swap past

-- the last of these frames make no swap
abbrev pub MakeNoSwap : (step : ℕ) (before window : List (List Fib)) → Type 0
MakeNoSwap step before window = last_swap (after_frames step [] (before ++ window)) ≤ length before

-- a listener has this entry in its picture of the current configuration after these frames
abbrev pub IsCurrentAfter : (step : ℕ) (frames : List (List Fib)) (raw : Raw) → Type 0
IsCurrentAfter step frames raw = entry_like raw (listener_after (after_frames step [] frames)).current ≡ Some raw

-- the law of removals: only a swap takes an entry out of the current configuration, or changes it
abbrev pub CurrentStays : Type 0
CurrentStays =
    (r : Reading) (size step period : ℕ) (before window after : List (List (List ℕ))) (raw : Raw)
    → IsFaultless size step period (read_frames r (before ++ (window ++ after)))
    → MakeNoSwap step (read_frames r before) (read_frames r window)
    → IsCurrentAfter step (read_frames r before) raw → IsCurrentAfter step (read_frames r (before ++ window)) raw

-- the law of presence: each entry of the current configuration is in the bytes of any N successive frames without a
-- swap
abbrev pub CurrentIsSent : Type 0
CurrentIsSent =
    (r : Reading) (size step period : ℕ) (before window after : List (List (List ℕ))) (raw : Raw)
    → AllByRecursion AreFibBytes window → 1 ≤ period → length window ≡ period
    → IsFaultless size step period (read_frames r (before ++ (window ++ after)))
    → MakeNoSwap step (read_frames r before) (read_frames r window)
    → IsCurrentAfter step (read_frames r (before ++ window)) raw
    → (frame : List ℕ) × Contains (map row_of window) frame × IsSent false frame raw
