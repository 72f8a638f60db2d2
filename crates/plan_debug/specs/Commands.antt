-- The debugger commands: how many frames each plays, and the debugger after it.
use Rattle.std.specs.Prelude.{◌≡◌, ◌≢◌, ◌↔◌, ◌⊎◌, ℕ, zero, suc, ◌<◌, ◌≤◌, List, [], ◌∷◌, ◌++◌, replicate, Option, Some}
use Rattle.std.specs.Prelude.{None, IsTrue}
use Rattle.circular_buffer.specs.Buffer.{keep_last}
use Rattle.plan_code.specs.Program.{Program, line_at}
use Rattle.plan_code.specs.Machine.{State}
use Rattle.plan_runs.specs.declared.event.Event.{Event}
use Rattle.plan_runs.specs.declared.event.Event.TheVariants.{Contact as ContactEvent, Frame}
use Rattle.plan_runs.specs.Frames.{frame_bytes}
use Rattle.plan_runs.specs.Runs.{run}
use Rattle.plan_player.specs.Playing.{Playing, played}
use Rattle.plan_debug.specs.declared.announcement.Announcement.{Announcement}
use Rattle.plan_debug.specs.declared.report.Report.{Report}
use Rattle.plan_session.specs.declared.command.Command.{Command}
use Rattle.plan_session.specs.declared.command.Command.TheVariants.{Contact, Run, Next, Break, Clear, Show}
use Rattle.plan_debug.specs.Announcements.{announced}

-- the view of a debugger: its player, its break line, and the recorded announcements, oldest first
pub record Debugging : Type 0 where
  pub player : Playing
  pub stop : Option ℕ
  pub announcements : List Announcement

-- ---- events

-- this many frames
abbrev pub frames : ℕ → List Event
frames n = replicate n Frame

abbrev pub after_frames : Program → State → ℕ → State
after_frames p s n = run p s (frames n)

-- the events of a command that plays this many frames
abbrev pub events_of_command : Command → ℕ → List Event
events_of_command (Contact c closed) n = ContactEvent c closed ∷ []
events_of_command (Run most) n = frames n
events_of_command Next n = frames n
events_of_command (Break line) n = frames n
events_of_command Clear n = frames n
events_of_command Show n = frames n

-- ---- how many frames

-- the most frames that a command plays
abbrev pub most_frames : Command → ℕ
most_frames (Contact c closed) = 0
most_frames (Run most) = most
most_frames Next = 5000
most_frames (Break line) = 0
most_frames Clear = 0
most_frames Show = 0

-- this line is the break line
abbrev pub IsStop : Option ℕ → Option ℕ → Type 0
IsStop None line = ⊥
IsStop (Some stop) line = line ≡ Some stop

-- a frame ends the command: it changes pc, and with `Run` pc is then in the break line
abbrev pub Ends : Option ℕ → Command → ℕ → ℕ → Option ℕ → Type 0
Ends stop (Contact c closed) before after line = ⊥
Ends stop (Run most) before after line = (after ≢ before) × IsStop stop line
Ends stop Next before after line = after ≢ before
Ends stop (Break other) before after line = ⊥
Ends stop Clear before after line = ⊥
Ends stop Show before after line = ⊥

-- the n-th frame from this state, counted from 1, ends the command
abbrev pub EndsAt : Program → Option ℕ → Command → State → ℕ → Type 0
EndsAt p stop command s zero = ⊥
EndsAt p stop command s (suc n) =
    let before = after_frames p s n in
    let after = after_frames p s (suc n) in
    Ends stop command before.pc after.pc (line_at p after.pc)

-- a command plays this many frames: up to and including the first that ends it, and at most its maximum
pub record IsCount (p : Program) (stop : Option ℕ) (command : Command) (s : State) (n : ℕ) : Type 0 where
  pub within : n ≤ most_frames command
  pub none_before : (m : ℕ) → m < n → EndsAt p stop command s m → ⊥
  pub ended : EndsAt p stop command s n ⊎ (n ≡ most_frames command)

-- the command plays up to the break line
abbrev pub IsRun : Command → Type 0
IsRun (Contact c closed) = ⊥
IsRun (Run most) = Unit {0}
IsRun Next = ⊥
IsRun (Break line) = ⊥
IsRun Clear = ⊥
IsRun Show = ⊥

-- the break line was reached by the last of these frames
abbrev pub IsBroken : Program → Option ℕ → Command → State → ℕ → Type 0
IsBroken p stop command s n = IsRun command × EndsAt p stop command s n

-- ---- after a command

-- the break line after a command
abbrev pub stop_after : Command → Option ℕ → Option ℕ
stop_after (Contact c closed) stop = stop
stop_after (Run most) stop = stop
stop_after Next stop = stop
stop_after (Break line) stop = Some line
stop_after Clear stop = None
stop_after Show stop = stop

-- the bytes of the last of this many frames
abbrev pub last_bytes : Program → State → ℕ → Option (List ℕ)
last_bytes p s zero = None
last_bytes p s (suc n) = Some (frame_bytes p (after_frames p s n))

-- the report has the views of this player
pub record IsView (p : Playing) (r : Report) : Type 0 where
  pub steps : r.steps ≡ p.steps
  pub pc : r.pc ≡ p.state.pc
  pub line : line_at p.code p.state.pc ≡ Some r.line
  pub count : r.count ≡ p.state.count
  pub remaining : r.remaining ≡ p.state.left

-- ---- a command as a whole

-- the report of a command, and the debugger after it
pub record Answers (before : Debugging) (command : Command) (after : Debugging) (r : Report) : Type 0 where
  pub count : IsCount before.player.code before.stop command before.player.state r.frames
  pub broke : IsTrue r.broke ↔ IsBroken before.player.code before.stop command before.player.state r.frames
  pub bytes : r.fibs ≡ last_bytes before.player.code before.player.state r.frames
  pub player : after.player ≡ played before.player (events_of_command command r.frames)
  pub views : IsView after.player r
  pub stop : after.stop ≡ stop_after command before.stop
  pub announcements : after.announcements ≡ keep_last 64
      (before.announcements ++ announced before.player.code before.player.state (events_of_command command r.frames))
