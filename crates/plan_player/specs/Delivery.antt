-- What a sink receives of a run, in full or up to where it fails.
use Rattle.std.specs.Prelude.{◌≡◌, ℕ, ◌<◌, List, [], ◌∷◌, ◌++◌, length, take, Option}
use Rattle.std.specs.List.{concat}
use Rattle.std.specs.Io.KnownBytes.{Appends}
use Rattle.plan_runs.specs.declared.event.Event.{Event}
use Rattle.plan_runs.specs.declared.event.Event.TheVariants.{Frame}
use Rattle.plan_runs.specs.Frames.{frame_bytes}
use Rattle.plan_runs.specs.Runs.{run_frames}
use Rattle.plan_player.specs.declared.fault.PlayFault.{PlayFault}
use Rattle.plan_player.specs.declared.fault.PlayFault.TheVariants.{Write}
use Rattle.plan_player.specs.Playing.{Playing, played}

-- the frames of these events; below, their bytes one after another
abbrev pub frames_of : Playing → List Event → List (List ℕ)
frames_of p events = run_frames p.code p.state events

abbrev pub played_bytes : Playing → List Event → List ℕ
played_bytes p events = concat (frames_of p events)

abbrev pub next_frame : Playing → List ℕ
next_frame p = frame_bytes p.code p.state

-- these events were played to the end: the player is in the state after them, the sink has their bytes, and this many
-- frames were written
pub record Delivered (old new : Playing) (events : List Event) (before after : Option (List ℕ)) (frames : ℕ) : Type
    0 where
  pub state : new ≡ played old events
  pub out : Appends before after (played_bytes old events)
  pub whole : frames ≡ length (frames_of old events)

-- playback stopped in a frame that the sink didn't accept in full: the events up to and including it were played, and
-- no later one; this many frames were written before it, and this many of its bytes, fewer than all
pub record Stopped (old new : Playing) (events : List Event) (before after : Option (List ℕ)) (frames bytes : ℕ) : Type
    0 where
  pub done : List Event
  pub rest : List Event
  pub cut : events ≡ done ++ Frame ∷ rest
  pub whole : frames ≡ length (frames_of old done)
  pub part : bytes < length (next_frame (played old done))
  pub state : new ≡ played old (done ++ Frame ∷ [])
  pub out : Appends before after (played_bytes old done ++ take bytes (next_frame (played old done)))

abbrev pub StoppedBy : Playing → Playing → List Event → Option (List ℕ) → Option (List ℕ) → PlayFault → Type 0
StoppedBy old new events before after (Write frames bytes) = Stopped old new events before after frames bytes
