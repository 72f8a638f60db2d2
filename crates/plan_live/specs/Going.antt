-- A live run from one point to the next. No public contract needs this to be believed.
use Rattle.std.specs.Prelude.{◌≡◌, ℕ, ◌+◌, ◌-◌, nat_lt, if◌then◌else◌, List, [], length}
use Rattle.std.specs.Io.KnownBytes.{Appends}
use Rattle.plan_runs.specs.declared.event.Event.{Event}
use Rattle.plan_player.specs.Playing.{Playing, played}
use Rattle.plan_player.specs.Delivery.{frames_of}
use Rattle.plan_session.specs.declared.step.Step.{Step}
use Rattle.plan_session.specs.Events.{events_of}
use Rattle.plan_live.specs.Lines.{LineDoes}
use Rattle.plan_live.specs.Living.{Streamed, kept_bytes, Reached}

-- the bytes of the frame of this number that are written
abbrev pub kept : ℕ → ℕ → List ℕ → List ℕ
kept skip n frame = if nat_lt n skip then [] else frame

-- a frame of this number and these bytes was written or skipped, and was counted
pub record FrameWent (skip : ℕ) (bytes : List ℕ) (n m : ℕ) (before after : Streamed) : Type 0 where
  pub count : m ≡ n + 1
  pub left : after.left ≡ before.left
  pub out : Appends before.written after.written (kept skip n bytes)

-- these events take a player whose next frame has number n to another, whose next frame has number m; their
-- frames were written, except those skipped
pub record Went (skip : ℕ) (old : Playing) (n : ℕ) (events : List Event) (new : Playing) (m : ℕ)
    (before after : Streamed)
    : Type 0 where
  pub state : new ≡ played old events
  pub count : m ≡ n + length (frames_of old events)
  pub left : after.left ≡ before.left
  pub out : Appends before.written after.written (kept_bytes (skip - n) old events)

-- a line was processed
pub record LineWent (skip : ℕ) (old : Playing) (n : ℕ) (line : List ℕ) (new : Playing) (m : ℕ) (before after : Streamed)
    : Type 0 where
  pub steps : List Step
  pub does : LineDoes line steps
  pub went : Went skip old n (events_of steps) new m before after

-- some lines are processed: this is the player, and its next frame has number m
pub record Going (skip : ℕ) (p : Playing) (old now : Streamed) (q : Playing) (m : ℕ) : Type 0 where
  pub lines : List (List ℕ)
  pub reached : Reached skip p old now lines
  pub player : q ≡ played p (events_of reached.steps)
  pub count : m ≡ length (frames_of p (events_of reached.steps))
