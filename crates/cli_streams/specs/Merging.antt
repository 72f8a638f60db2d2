-- The frames of a plan, filled with the FIGs of a multiplexer's frames, frame by frame.
use Rattle.std.specs.Prelude.{◌≡◌, ℕ, List, [], ◌∷◌, ◌++◌, map, flat_map, drop}
use Rattle.std.specs.List.{concat}
use Rattle.fib_reader.specs.Listening.{untuned}
use Rattle.stream_check.specs.Frames.{Reading}
use Rattle.stream_check.specs.Stream.{findings_of}
use Rattle.fig_merge.specs.Taking.{Merging, nothing_taken, after_take}
use Rattle.fig_merge.specs.Filling.{merged, after_fill}
use Rattle.fig_merge.specs.Steps.{Step, Take, Fill, after_steps, joined}
use Rattle.fig_merge.specs.Passing.{agreeing, AreFilledFrames, fibs_in, sent_in}

-- ---- the FIBs of a frame, each given by its bytes, one after the other

-- after the FIGs of a frame of the multiplexer were taken
abbrev pub after_taking : Reading → List (List ℕ) → Merging → Merging
after_taking r [] m = m
after_taking r (fib ∷ fibs) m = after_taking r fibs (after_take (r.read fib) m)

-- after a frame of the plan was filled
abbrev pub after_filling : Reading → List (List ℕ) → Merging → Merging
after_filling r [] m = m
after_filling r (fib ∷ fibs) m = after_filling r fibs (after_fill (r.read fib) m)

-- the filled frame
abbrev pub filled_frame : Reading → List (List ℕ) → Merging → List (List ℕ)
filled_frame r [] m = []
filled_frame r (fib ∷ fibs) m = merged fib (r.read fib) m ∷ filled_frame r fibs (after_fill (r.read fib) m)

-- ---- frames

-- the next frame of the multiplexer; no FIB where it has none
abbrev pub next_of : List (List (List ℕ)) → List (List ℕ)
next_of [] = []
next_of (frame ∷ frames) = frame

-- for each frame of the plan in order: after the FIGs of the multiplexer's next frame are taken, while it has one, the
-- plan's frame is filled
abbrev pub merged_frames : Reading → (plan other : List (List (List ℕ))) → Merging → List (List (List ℕ))
merged_frames r [] other m = []
merged_frames r (frame ∷ frames) other m =
    filled_frame r frame (after_taking r (next_of other) m)
    ∷ merged_frames r frames (drop 1 other) (after_filling r frame (after_taking r (next_of other) m))

-- and after them
abbrev pub after_merging : Reading → (plan other : List (List (List ℕ))) → Merging → Merging
after_merging r [] other m = m
after_merging r (frame ∷ frames) other m =
    after_merging r frames (drop 1 other) (after_filling r frame (after_taking r (next_of other) m))

-- the FIBs of frames, and their bytes
abbrev pub fibs_in_frames : List (List (List ℕ)) → List (List ℕ)
fibs_in_frames frames = flat_map (λ frame. frame) frames

abbrev pub bytes_of : List (List (List ℕ)) → List ℕ
bytes_of frames = concat (fibs_in_frames frames)

-- ---- laws

-- the calls of a merger for each frame of the plan: the FIBs of the multiplexer's next frame are taken, then those of
-- the plan's are filled
abbrev pub frame_calls : (plan other : List (List (List ℕ))) → List (List Step)
frame_calls [] other = []
frame_calls (frame ∷ frames) other = (map Take (next_of other) ++ map Fill frame) ∷ frame_calls frames (drop 1 other)

-- and for all of them, one after the other
abbrev pub calls_of : (plan other : List (List (List ℕ))) → List Step
calls_of plan other = joined (frame_calls plan other)

-- the FIBs of the merged frames are those that these calls of a merger fill
pub record IsByCalls (r : Reading) (plan other : List (List (List ℕ))) (m : Merging) : Type 0 where
  pub given : fibs_in r (calls_of plan other) ≡ map r.read (fibs_in_frames plan)
  pub sent : sent_in r (calls_of plan other) m ≡ fibs_in_frames (merged_frames r plan other m)
  pub after : after_steps r (calls_of plan other) m ≡ after_merging r plan other m

-- the law of calls, so that all laws of sequences of calls hold of merged frames
abbrev pub MergesByCalls : Type 0
MergesByCalls = (r : Reading) (plan other : List (List (List ℕ))) (m : Merging) → IsByCalls r plan other m

-- the law of frames: each merged frame has the FIGs of the plan's, with others behind those of each FIB that agree with
-- the current configuration, as far as it was heard with that FIB
abbrev pub MergedAreFilled : Type 0
MergedAreFilled =
    (r : Reading) (plan other : List (List (List ℕ)))
    → AreFilledFrames agreeing untuned (map (map r.read) plan)
    (map (map r.read) (merged_frames r plan other nothing_taken))

-- the law of findings: the checker finds in merged frames what it finds in the plan's
abbrev pub MergedAreCheckedAlike : Type 0
MergedAreCheckedAlike =
    (r : Reading) (plan other : List (List (List ℕ))) (size step period : ℕ)
    → findings_of size step period [] (map (map r.read) (merged_frames r plan other nothing_taken))
    ≡ findings_of size step period [] (map (map r.read) plan)
