-- The checker's state, and how it agrees with the past of the stream.
use Rattle.std.specs.Prelude.{◌≡◌, ◌↔◌, ℕ, ◌+◌, ◌%◌, ◌<◌, ◌≤◌, ◌^◌, ◌==◌, ◌&&◌, ◌||◌, Bool, true, false, not}
use Rattle.std.specs.Prelude.{if◌then◌else◌, nat_lt, List, [], ◌∷◌, ◌++◌, length, take, drop, Contains, Option, Some}
use Rattle.std.specs.Prelude.{None, IfSome}
use Rattle.std.specs.List.{concat}
use Rattle.mux_types.specs.Entries.{EnsembleInformation}
use Rattle.fib_reader.specs.Raw.{Raw}
use Rattle.fib_reader.specs.Listening.{Listening}
use Rattle.stream_check.specs.declared.checker_state.CheckerState.{CheckerState}
use Rattle.stream_check.specs.declared.contradiction.Contradiction.{Contradiction}
use Rattle.stream_check.specs.declared.finding.Fault.TheVariants as faults
use Rattle.stream_check.specs.declared.finding.What.{What}
use Rattle.stream_check.specs.Reporting.{when}
use Rattle.stream_check.specs.Pictures.{Heard, HeardPicture, empty_picture, picture_of_heard, picture_kept, heard_since}
use Rattle.stream_check.specs.Pictures.{Each, HasKinds, keys_of}
use Rattle.stream_check.specs.Lookup.{lookup_in}
use Rattle.stream_check.specs.Cutting.{IsGreedy}
use Rattle.stream_check.specs.Pictures.{key_of}
use Rattle.stream_check.specs.History.{Moment, frames_ended, listening, due, last_eid, has_ensemble, has_begun}
use Rattle.stream_check.specs.History.{began_early, times_announced, last_flags, is_cut_off, rows, row_at_hand}
use Rattle.stream_check.specs.History.{settles_at, last_heard}
use Rattle.stream_check.specs.Rules.{KnownBefore, at_most, is_absent, has_flags, name_of}

abbrev pub listener_in : CheckerState → Listening
listener_in m = record {
  tuned = m.tuned;
  current = picture_of_heard m.current;
  next = picture_of_heard m.next;
  awaited = m.awaited;
}

-- what the state knows
abbrev pub known_in : CheckerState → KnownBefore
known_in m = record {
  step = m.step;
  listener = listener_in m;
  frames = m.frames;
  due = m.due;
  eid = m.eid;
  has_ensemble = m.has_ensemble;
  has_begun = m.has_begun;
  began_early = m.began_early;
  is_cut_off = m.is_cut_off;
  flags = m.flags;
  times = m.times;
  heard = m.parts;
  settles_at = m.settles_at;
}

-- ---- its numbers are far from their limits

abbrev pub most : ℕ
most = 2 ^ 62

pub record IsSane (m : CheckerState) : Type 0 where
  pub mode : (0 < m.step) × (m.step ≤ 4)
  pub page_index : m.period < 65536
  pub due : IfSome m.due (λ count. count < 5000)
  pub times : m.times ≤ 3
  pub rows : m.rows ≤ m.frames
  pub parts : m.parts ≤ m.rows

-- ---- updates of the state

abbrev pub with_swap : CheckerState → CheckerState
with_swap m = record m {
  current = m.next;
  next = empty_picture;
  awaited = None;
  settles_at = if m.is_cut_off then m.frames + m.period else 0;
  is_cut_off = false;
  swapped = m.frames + 1;
  times = 0;
  has_begun = false;
  rows = 0;
  since = 0;
  parts = 0;
  noted = [];
}

abbrev pub eid_after : Bool → EnsembleInformation → Option ℕ → Option ℕ
eid_after is_placed e None = Some e.eid
eid_after is_placed e (Some eid) = if is_placed then Some e.eid else Some eid

abbrev pub with_flags : EnsembleInformation → CheckerState → CheckerState
with_flags e m =
    if has_flags e
    then record m {
      is_cut_off = m.is_cut_off || not m.tuned;
      awaited = e.occurrence;
      flags = e.change;
      times = at_most 3 (m.times + 1);
      has_begun = true;
    }
    else m

abbrev pub with_ensemble : Bool → EnsembleInformation → CheckerState → CheckerState
with_ensemble first e m =
    record (with_flags e m) {
      eid = eid_after (first && (e.count % m.step == 0)) e m.eid;
      began_early = false;
      has_ensemble = true;
      tuned = true;
    }

abbrev pub with_current : Raw → CheckerState → CheckerState
with_current raw m = record m { current = picture_kept (record { raw = raw; at = m.frames + 1 }) m.current }

-- after an entry of the next configuration: it begins the notice if none has begun, and if its identifier is new the
-- parts are counted anew
abbrev pub with_begun : Bool → CheckerState → CheckerState
with_begun is_absent m = record m {
  began_early = if m.has_begun then m.began_early else not m.has_ensemble;
  has_begun = true;
  since = if is_absent then 0 else m.since;
  parts = if is_absent then 0 else m.parts;
}

abbrev pub with_next : Raw → CheckerState → CheckerState
with_next raw m =
    record (with_begun (is_absent (lookup_in raw (picture_of_heard m.next))) m) {
      next = picture_kept (record { raw = raw; at = m.rows + 1 }) m.next;
    }

abbrev pub with_noted : List Contradiction → CheckerState → CheckerState
with_noted noted m = record m { noted = noted }

abbrev pub with_row : CheckerState → CheckerState
with_row m =
    if heard_since m.since m.next then record m { rows = m.rows + 1; parts = m.parts + 1; since = m.rows + 1 }
    else record m { rows = m.rows + 1 }

abbrev pub with_frame : ℕ → CheckerState → CheckerState
with_frame count m =
    record (if m.has_begun then with_row m else m) {
      has_ensemble = false;
      frames = m.frames + 1;
      due = Some ((count + 1) % 5000);
    }

-- ---- agreement with the past of the stream

-- an entry of the current configuration has the time when it was last heard, unless the last swap is later
abbrev pub later : ℕ → ℕ → ℕ
later a b = if nat_lt a b then b else a

abbrev pub IsLastHeard : List Moment → ℕ → Heard → Type 0
IsLastHeard past swapped h = later h.at swapped ≡ last_heard (key_of h.raw) past

-- an entry that was last heard `period` frames before the current one
abbrev pub is_quiet : (swapped period frames : ℕ) → Heard → Bool
is_quiet swapped period frames h = later h.at swapped + period == frames + 1

abbrev pub quiet_findings : (swapped period frames : ℕ) → List Heard → List What
quiet_findings swapped period frames [] = []
quiet_findings swapped period frames (h ∷ hs) =
    when (is_quiet swapped period frames h) (faults.Silent (name_of h.raw)) ++ quiet_findings swapped period frames hs

abbrev pub silent_in : CheckerState → List What
silent_in m =
    quiet_findings m.swapped m.period m.frames m.current.subs
    ++ (quiet_findings m.swapped m.period m.frames m.current.services
    ++ quiet_findings m.swapped m.period m.frames m.current.packets)

-- an entry of the next configuration has the frame of the notice in which it was last heard
abbrev pub IsStamped : List (List ℕ) → List ℕ → Heard → Type 0
IsStamped frames frame h =
    (h.at ≤ length frames + 1)
    × ((s : ℕ) → s ≤ length frames → Contains (concat (drop s frames) ++ frame) (key_of h.raw) ↔ (s < h.at))

-- the frames of a notice that have ended, and the current one: they contain exactly the entries of the next
-- configuration; `parts` complete parts of them are a greedy cut
pub record HasNotice (frames : List (List ℕ)) (frame : List ℕ) (count since parts : ℕ) (next : HeardPicture)
    (begun : Bool) : Type 0 where
  pub count_is : count ≡ length frames
  pub part : since ≤ length frames
  pub stamps : Each (IsStamped frames frame) next
  pub only : (x : ℕ) → Contains (concat frames ++ frame) x → Contains (keys_of next) x
  pub greedy : IsGreedy (keys_of next) parts (take since frames) (drop since frames)
  pub idle : begun ≡ false → (frames ≡ []) × (frame ≡ [])

pub record Knows (step period : ℕ) (past : List Moment) (m : CheckerState) : Type 0 where
  pub mode : m.step ≡ step
  pub page_index : m.period ≡ period
  pub heard : listening past ≡ Some (listener_in m)
  pub frames : m.frames ≡ frames_ended past
  pub due : m.due ≡ due past
  pub eid : m.eid ≡ last_eid step past
  pub has_ensemble : m.has_ensemble ≡ has_ensemble past
  pub has_begun : m.has_begun ≡ has_begun past
  pub began_early : m.began_early ≡ began_early past
  pub is_cut_off : m.is_cut_off ≡ is_cut_off past
  pub flags : m.flags ≡ last_flags past
  pub times : m.times ≡ at_most 3 (times_announced past)
  pub settles_at : m.settles_at ≡ settles_at period past
  pub untuned : m.tuned ≡ false → (m.awaited ≡ None) × (m.is_cut_off ≡ false)
  pub few : length (rows past) ≤ frames_ended past
  pub swapped : m.swapped ≤ frames_ended past + 1
  pub kinds : HasKinds m.current × HasKinds m.next
  pub last : Each (IsLastHeard past m.swapped) m.current
  pub notice : HasNotice (rows past) (row_at_hand past) m.rows m.since m.parts m.next m.has_begun
