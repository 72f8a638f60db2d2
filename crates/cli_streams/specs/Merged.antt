-- What `merge` writes of two streams of frames, as far as their bytes are known.
use Rattle.std.specs.Prelude.{◌≡◌, ℕ, ◌+◌, ◌<◌, ◌≤◌, ◌⊎◌, Bool, true, false, List, [], ◌++◌, length, map, take, drop}
use Rattle.std.specs.Prelude.{Option, Result, Ok, Err}
use Rattle.std.specs.List.{AllByRecursion, concat}
use Rattle.std.specs.Io.KnownBytes.{Appends, Consumes, IsAtEnd}
use Rattle.stream_check.specs.Frames.{Reading}
use Rattle.fig_merge.specs.Taking.{Merging, nothing_taken}
use Rattle.fig_merge.specs.Filling.{merged, after_fill}
use Rattle.console.specs.declared.exit.Status.{Status}
use Rattle.console.specs.declared.exit.Status.TheVariants.{Done, Refused, Misused, Faulty}
use Rattle.cli_streams.specs.Stream.{fibs_of_stream}
use Rattle.cli_streams.specs.Merging.{after_taking, after_filling, filled_frame, next_of, merged_frames, after_merging}
use Rattle.cli_streams.specs.Merging.{bytes_of}
use Rattle.cli_streams.specs.declared.merge.MergeFault.{MergeFault}
use Rattle.cli_streams.specs.declared.merge.MergeSummary.{MergeSummary}

-- ---- one frame, by its bytes

-- after the FIGs of a frame of the multiplexer were taken, and after a frame of the plan was filled
abbrev pub after_frame_taken : Reading → List ℕ → Merging → Merging
after_frame_taken r frame m = after_taking r (fibs_of_stream frame) m

abbrev pub after_frame_filled : Reading → List ℕ → Merging → Merging
after_frame_filled r frame m = after_filling r (fibs_of_stream frame) m

-- the bytes of the filled frame
abbrev pub frame_filled : Reading → List ℕ → Merging → List ℕ
frame_filled r frame m = concat (filled_frame r (fibs_of_stream frame) m)

-- the FIB at this offset of a frame is filled, in place
abbrev pub fib_from : ℕ → List ℕ → List ℕ
fib_from offset frame = take 32 (drop offset frame)

pub record FillsFib (offset : ℕ) (old new : List ℕ) (before after : Merging) : Type 0 where
  pub fib : List ℕ
  pub size : length fib ≡ 32
  pub bytes : new ≡ take offset old ++ (fib ++ drop (offset + 32) old)
  pub filled : (r : Reading) → fib ≡ merged (fib_from offset old) (r.read (fib_from offset old)) before
  pub merger : (r : Reading) → after ≡ after_fill (r.read (fib_from offset old)) before

-- a frame is read; or there is none; or the file ends within one, or can't be read on
abbrev pub ReadsFrame : (before left : Option (List ℕ)) → List ℕ → Result Bool MergeFault → Type 0
ReadsFrame before left frame (Ok true) = Consumes before left frame
ReadsFrame before left frame (Ok false) = Consumes before left [] × IsAtEnd left
ReadsFrame before left frame (Err fault) = (part : List ℕ) × Consumes before left part

-- ---- the multiplexer's frames

-- the FIGs of a frame are taken if it is whole
abbrev pub TakesAs : List ℕ → Result Bool MergeFault → (old new : Merging) → Type 0
TakesAs frame (Ok true) old new = (r : Reading) → new ≡ after_frame_taken r frame old
TakesAs frame (Ok false) old new = new ≡ old
TakesAs frame (Err fault) old new = new ≡ old

-- how many were taken while so many of the plan's were read: as many as long as there may be more; fewer once none is
-- left; fewer, and `Refused`, where what is left is less than a frame or can't be read
abbrev pub IsTaken : (is_open : Bool) → Status → (count taken : ℕ) → (cut : List ℕ) → (left : Option (List ℕ)) → Type 0
IsTaken true Done count taken cut left = (taken ≡ count) × (cut ≡ [])
IsTaken false Done count taken cut left = (taken < count) × (cut ≡ []) × IsAtEnd left
IsTaken true Refused count taken cut left = ⊥
IsTaken false Refused count taken cut left = taken < count
IsTaken is_open Misused count taken cut left = ⊥
IsTaken is_open Faulty count taken cut left = ⊥

-- whole frames of this size were taken, in order, and the bytes behind them that were read give none
pub record TakesFrames (size : ℕ) (before left : Option (List ℕ)) (is_open : Bool) (status : Status) (count : ℕ)
    (taken : List (List ℕ)) : Type 0 where
  pub cut : List ℕ
  pub whole : AllByRecursion (λ frame. length frame ≡ size) taken
  pub bytes : Consumes before left (concat taken ++ cut)
  pub ends : IsTaken is_open status count (length taken) cut left

-- after the next frame is taken, if there is one
pub record TakesNext (size : ℕ) (before left : Option (List ℕ)) (is_open : Bool) (status : Status) (count : ℕ)
    (taken : List (List ℕ)) (old new : Merging) : Type 0 where
  pub next : List (List ℕ)
  pub takes : TakesFrames size before left is_open status (count + 1) (taken ++ next)
  pub in_turn : (length taken ≡ count) ⊎ ((length taken ≤ count) × (next ≡ []))
  pub after : (r : Reading) → new ≡ after_taking r (next_of (map fibs_of_stream next)) old

-- ---- the plan's frames

-- what is reported at the end, after so many frames
abbrev pub summary_of : ℕ → Merging → MergeSummary
summary_of frames m = record {
  frames = frames;
  carried = m.carried;
  waiting = length m.waiting;
  dropped = m.dropped;
  stale = m.stale;
  damaged = m.damaged;
}

-- these frames of the plan, to its end, are merged with those that are taken of the multiplexer's, and written; `plan`
-- and `other` are the bytes of both, and `old` and `new` the writer's bytes before and after
pub record Merges (size : ℕ) (plan other old new : Option (List ℕ)) (status : Status)
    (summary : MergeSummary) : Type 0 where
  pub frames : List (List ℕ)
  pub taken : List (List ℕ)
  pub plan_left : Option (List ℕ)
  pub other_left : Option (List ℕ)
  pub is_open : Bool
  pub whole : AllByRecursion (λ frame. length frame ≡ size) frames
  pub bytes : Consumes plan plan_left (concat frames)
  pub end : IsAtEnd plan_left
  pub takes : TakesFrames size other other_left is_open status (length frames) taken
  pub counts : (r : Reading)
      → summary ≡ summary_of (length frames)
      (after_merging r (map fibs_of_stream frames) (map fibs_of_stream taken) nothing_taken)
  pub written : (r : Reading)
      → Appends old new
      (bytes_of (merged_frames r (map fibs_of_stream frames) (map fibs_of_stream taken) nothing_taken))
