-- What the checker knows and has reported after some FIBs.
use Rattle.std.specs.Prelude.{◌≡◌, ℕ, ◌+◌, ◌<◌, ◌≤◌, ◌⊎◌, ◌||◌, Bool, true, false, not, nat_lt, List, [], ◌∷◌, ◌++◌}
use Rattle.std.specs.Prelude.{length, map, flat_map}
use Rattle.fib_codec.specs.Modes.{fib_count, count_step}
use Rattle.fib_codec.specs.declared.modes.Mode.{Mode}
use Rattle.stream_check.specs.declared.checker_state.CheckerState.{CheckerState}
use Rattle.stream_check.specs.declared.checker.Summary.{Summary}
use Rattle.stream_check.specs.Frames.{Fib, Reading, IsFramed, damaged_in}
use Rattle.stream_check.specs.Stream.{findings_next, findings_of, after_frames, noted_in_frames, frames_full}
use Rattle.stream_check.specs.CheckerState.{IsSane, Knows, most}
use Rattle.stream_check.specs.Reported.{Reported, Unknown, with_more}

-- the checker between FIBs; the buffered FIBs are those of the current frame
pub record Checking : Type 0 where
  pub size : ℕ
  pub state : CheckerState
  pub held : List (List ℕ)
  pub skipped : ℕ
  pub damaged : ℕ

pub record IsChecking (c : Checking) : Type 0 where
  pub sane : IsSane c.state
  pub frames : c.state.frames ≤ most
  pub size : (3 ≤ c.size) × (c.size ≤ 4)
  pub room : length c.held < c.size
  pub skipped : c.skipped ≤ most
  pub damaged : c.damaged ≤ most + 4

-- nothing more is counted: there were 2^62 frames, skipped FIBs or damaged FIBs
abbrev pub IsAtLimit : Checking → Type 0
IsAtLimit c = (most ≤ c.state.frames) ⊎ (most ≤ c.skipped) ⊎ (most ≤ c.damaged)

-- whether a FIG 0/0 has been heard
abbrev pub is_empty : List (List ℕ) → Bool
is_empty [] = true
is_empty (x ∷ xs) = false

abbrev pub is_begun : Checking → Bool
is_begun c = nat_lt 0 c.state.frames || not (is_empty c.held)

-- with a FIB that is skipped; below, with one that is buffered
abbrev pub with_skip : Checking → Checking
with_skip c = record c { skipped = c.skipped + 1 }

abbrev pub with_fib : List ℕ → Checking → Checking
with_fib fib c = record c { held = c.held ++ fib ∷ [] }

-- after these FIBs: they are cut into frames, all of which were heard and whose findings were all reported
pub record Follows (r : Reading) (mode : Mode) (period : ℕ) (stream : List Fib) (start reported : Reported)
    (c : Checking) : Type 0 where
  pub skipped : List Fib
  pub frames : List (List Fib)
  pub framed : IsFramed (fib_count mode) stream skipped frames (map r.read c.held)
  pub size : c.size ≡ fib_count mode
  pub skips : c.skipped ≡ length skipped
  pub damages : c.damaged ≡ damaged_in (flat_map (λ f. f) frames)
  pub room : frames_full (count_step mode) period [] frames ≡ false
  pub knows : Knows (count_step mode) period (after_frames (count_step mode) [] frames) c.state
  pub noted : c.state.noted ≡ noted_in_frames (count_step mode) period [] [] frames
  pub findings : reported ≡ with_more start (findings_of (fib_count mode) (count_step mode) period [] frames)

-- or up to an entry for which there was no room: all findings before it were reported
pub record EndsFull (r : Reading) (mode : Mode) (period : ℕ) (stream : List Fib) (start reported : Reported) : Type
    0 where
  pub skipped : List Fib
  pub frames : List (List Fib)
  pub rest : List Fib
  pub framed : IsFramed (fib_count mode) stream skipped frames rest
  pub full : frames_full (count_step mode) period [] frames ≡ true
  pub findings : reported ≡ with_more start (findings_of (fib_count mode) (count_step mode) period [] frames)

-- what one more FIB adds: no frame, where a FIB that is skipped comes before all frames; or one frame, whose findings
-- were reported
abbrev pub Adds : (size step period : ℕ) (ends : Bool) (skipped later : List Fib) (frames more : List (List Fib))
    (reported after : Reported) → Type 0
Adds size step period false skipped later frames more reported after =
    (more ≡ frames) × ((later ≡ skipped) ⊎ (frames ≡ [])) × (after ≡ reported)
Adds size step period true skipped later frames more reported after =
    (frame : List Fib) × (more ≡ frames ++ frame ∷ []) × (later ≡ skipped)
    × (after ≡ with_more reported (findings_next size step period frames frame))

-- after one more FIB, from a state that follows a stream: the state follows the stream with it
abbrev pub FollowsFib : (r : Reading) (mode : Mode) (period : ℕ) (stream : List Fib) (fib : Fib) (ends : Bool)
    (reported after : Reported) (old new : Checking) → Type 0
FollowsFib r mode period stream fib ends reported after old new =
    (f : Follows r mode period stream Unknown Unknown old)
    → (g : Follows r mode period (stream ++ fib ∷ []) Unknown Unknown new)
    × Adds (fib_count mode) (count_step mode) period ends f.skipped g.skipped f.frames g.frames reported after

-- or the stream with it ends at an entry for which there was no room, in the frame that the FIB ends
abbrev pub EndsAtFib : (r : Reading) (mode : Mode) (period : ℕ) (stream : List Fib) (fib : Fib)
    (reported after : Reported) (old : Checking) → Type 0
EndsAtFib r mode period stream fib reported after old =
    (f : Follows r mode period stream Unknown Unknown old)
    → (g : EndsFull r mode period (stream ++ fib ∷ []) Unknown Unknown)
    × Adds (fib_count mode) (count_step mode) period true f.skipped g.skipped f.frames g.frames reported after

-- the totals of a stream
pub record IsSummary (skipped : List Fib) (frames : List (List Fib)) (rest : List Fib) (s : Summary) : Type 0 where
  pub frame_count : s.frames ≡ length frames
  pub skips : s.skipped ≡ length skipped
  pub left : s.left_over ≡ length rest
  pub damages : s.damaged ≡ damaged_in (flat_map (λ f. f) frames)
