-- The findings at an entry, given what was known before it.
use Rattle.std.specs.Prelude.{ℕ, ◌+◌, ◌/◌, ◌%◌, ◌-◌, ◌==◌, ◌&&◌, ◌||◌, Bool, true, false, not, if◌then◌else◌, nat_lt}
use Rattle.std.specs.Prelude.{nat_le, List, [], ◌∷◌, ◌++◌, map, get_or, Option, Some, None, unwrap_or}
use Rattle.std.specs.List.{filter}
use Rattle.mux_types.specs.Entries.{EnsembleInformation}
use Rattle.fib_reader.specs.Raw.{Raw, u16_at_offset}
use Rattle.fib_reader.specs.Listening.{Pictured, Listening, identifier_of, is_made, all_entries}
use Rattle.stream_check.specs.declared.finding.EntryName.{EntryName}
use Rattle.stream_check.specs.declared.finding.EntryName.TheVariants as names
use Rattle.stream_check.specs.declared.finding.Fault.{Fault}
use Rattle.stream_check.specs.declared.finding.Fault.TheVariants as faults
use Rattle.stream_check.specs.declared.finding.StreamEvent.TheVariants as events
use Rattle.stream_check.specs.declared.finding.What.{What}
use Rattle.stream_check.specs.declared.finding.What.TheVariants as whats
use Rattle.stream_check.specs.declared.heard_table.Lookup.{Lookup}
use Rattle.stream_check.specs.declared.heard_table.Lookup.TheVariants as standings
use Rattle.stream_check.specs.Reporting.{when, as_list}
use Rattle.stream_check.specs.Lookup.{lookup_in, agree}
use Rattle.stream_check.specs.Parts.{most_parts}
use Rattle.stream_check.specs.Pictures.{key_of}
use Rattle.stream_check.specs.History.{Item, Moment, is_ensemble, ensemble_of_item, frames_ended, listener_after, due}
use Rattle.stream_check.specs.History.{last_eid, has_ensemble, has_begun, began_early, times_announced, last_flags}
use Rattle.stream_check.specs.History.{is_cut_off, rows, settles_at, last_heard}

-- what is known before an entry
pub record KnownBefore : Type 0 where
  pub step : ℕ
  -- the listener that heard everything before it
  pub listener : Listening
  -- the number of frames that have ended, and what is due in the current frame
  pub frames : ℕ
  pub due : Option ℕ
  pub eid : Option ℕ
  pub has_ensemble : Bool
  -- the notice: its flagged FIG 0/0, up to three, and how often the next configuration could be read
  pub has_begun : Bool
  pub began_early : Bool
  pub is_cut_off : Bool
  pub flags : ℕ
  pub times : ℕ
  pub heard : ℕ
  -- the frame from which on all entries of the current configuration should be known
  pub settles_at : ℕ

-- the keys of the entries of the next configuration
abbrev pub wanted : List Moment → List ℕ
wanted past = map key_of (all_entries (listener_after past).next)

-- how often the next configuration could be read in the frames of the notice
abbrev pub times_heard : List Moment → ℕ
times_heard past = most_parts (wanted past) (rows past)

-- limits a number
abbrev pub at_most : ℕ → ℕ → ℕ
at_most limit n = if nat_lt n limit then n else limit

-- what is known, from the past of the stream
abbrev pub known_of : (step period : ℕ) → List Moment → KnownBefore
known_of step period past = record {
  step = step;
  listener = listener_after past;
  frames = frames_ended past;
  due = due past;
  eid = last_eid step past;
  has_ensemble = has_ensemble past;
  has_begun = has_begun past;
  began_early = began_early past;
  is_cut_off = is_cut_off past;
  flags = last_flags past;
  times = at_most 3 (times_announced past);
  heard = times_heard past;
  settles_at = settles_at period past;
}

-- the name of an entry of FIG 0/1 to 0/3
abbrev pub name_of : Raw → EntryName
name_of raw =
    if raw.ext == 1 then names.Sub (identifier_of raw)
    else if raw.ext == 2
    then (if raw.long then names.LongService (identifier_of raw - 65536) else names.Service (identifier_of raw))
    else names.Packet (identifier_of raw)

abbrev pub occurrence_of : EnsembleInformation → ℕ
occurrence_of e = unwrap_or e.occurrence 0

abbrev pub awaited_low : KnownBefore → ℕ
awaited_low k = unwrap_or k.listener.awaited 0

abbrev pub has_low : Option ℕ → Bool
has_low None = false
has_low (Some low) = true

abbrev pub is_awaited : KnownBefore → Bool
is_awaited k = has_low k.listener.awaited

-- the listener makes a swap at this FIG 0/0
abbrev pub makes_swap : KnownBefore → EnsembleInformation → Bool
makes_swap k e = is_made k.listener.awaited e

abbrev pub has_flags : EnsembleInformation → Bool
has_flags e = not (e.change == 0)

-- ---- a FIG 0/0 in its frame

abbrev pub is_other : ℕ → Option ℕ → Bool
is_other n None = false
is_other n (Some m) = not (n == m)

-- the first FIG of its frame, at a count that is a multiple of the mode's step
abbrev pub is_placed : KnownBefore → Bool → EnsembleInformation → Bool
is_placed k first e = first && (e.count % k.step == 0)

-- in place, and of an ensemble other than the last one in place
abbrev pub is_of_other_ensemble : KnownBefore → Bool → EnsembleInformation → Bool
is_of_other_ensemble k first e = is_placed k first e && is_other e.eid k.eid

-- in place, at a count other than the one that was due
abbrev pub has_other_count : KnownBefore → Bool → EnsembleInformation → Bool
has_other_count k first e = is_placed k first e && is_other e.count k.due

abbrev pub place_faults : KnownBefore → Bool → EnsembleInformation → List What
place_faults k first e =
    when (is_of_other_ensemble k first e) (faults.OtherEnsemble e.eid)
    ++ (when (has_other_count k first e) (faults.Count (unwrap_or k.due 0))
    ++ when (not (is_placed k first e)) faults.OutOfPlace)

-- ---- announcements

-- a swap is awaited, and this announces another one
abbrev pub announces_another : KnownBefore → EnsembleInformation → Bool
announces_another k e =
    is_awaited k && (not (e.change == k.flags) || not (occurrence_of e == awaited_low k))

-- flags where no swap was awaited, or where the swap has just been made
abbrev pub announces_first : KnownBefore → EnsembleInformation → Bool
announces_first k e = has_flags e && (makes_swap k e || not (is_awaited k))

-- the counts on which a swap can fall are multiples of the mode's step: their low part is below 250, and even if
-- the step is even
abbrev pub can_fall_at : ℕ → ℕ → Bool
can_fall_at step low = nat_lt low 250 && (low % 2 == 0 || not (step % 2 == 0))

abbrev pub announcement : KnownBefore → EnsembleInformation → List What
announcement k e =
    if announces_first k e
    then whats.Event (events.Announced e.change (occurrence_of e))
    ∷ when (not (can_fall_at k.step (occurrence_of e))) (faults.NoSwapAt (occurrence_of e))
    else []

-- ---- a swap

abbrev pub are_same : List Raw → List Raw → Bool
are_same [] [] = true
are_same [] (b ∷ bs) = false
are_same (a ∷ xs) [] = false
are_same (a ∷ xs) (b ∷ bs) = agree a b && are_same xs bs

-- the change flags from one picture to the next: 1 where sub-channels differ, 2 where services or packet components
-- differ
abbrev pub change_between : Pictured → Pictured → ℕ
change_between a b =
    (if are_same a.subs b.subs then 0 else 1)
    + (if are_same a.services b.services && are_same a.packets b.packets then 0 else 2)

-- the capacity units of a sub-channel in the long form, from the first to the one after the last
abbrev pub is_long_form : Raw → Bool
is_long_form raw = get_or raw.bytes 2 0 / 128 == 1

abbrev pub first_unit : Raw → ℕ
first_unit raw = u16_at_offset 0 raw.bytes % 1024

abbrev pub end_unit : Raw → ℕ
end_unit raw = first_unit raw + u16_at_offset 2 raw.bytes % 1024

-- both are in the long form and have a unit in common
abbrev pub share_unit : Raw → Raw → Bool
share_unit a b =
    (is_long_form a && is_long_form b)
    && (nat_lt (first_unit a) (end_unit a)
    && (nat_lt (first_unit b) (end_unit b)
    && (nat_lt (first_unit a) (end_unit b) && nat_lt (first_unit b) (end_unit a))))

-- the first one that shares a unit with this one; below, the first pair that shares one, and the first that ends past
-- the last unit
abbrev pub partner : Raw → List Raw → Option ℕ
partner a [] = None
partner a (b ∷ bs) = if share_unit a b then Some (identifier_of b) else partner a bs

abbrev pub overlap_or : Option ℕ → Raw → Option Fault → Option Fault
overlap_or None a later = later
overlap_or (Some b) a later = Some (faults.Overlap (identifier_of a) b)

abbrev pub overlap : List Raw → Option Fault
overlap [] = None
overlap (a ∷ rest) = overlap_or (partner a rest) a (overlap rest)

abbrev pub ends_past : Raw → Bool
ends_past a = is_long_form a && nat_lt 864 (end_unit a)

abbrev pub past_end : List Raw → Option Fault
past_end [] = None
past_end (a ∷ rest) = if ends_past a then Some (faults.PastEnd (identifier_of a)) else past_end rest

abbrev pub changes : KnownBefore → ℕ
changes k = change_between k.listener.current k.listener.next

-- faults of the notice, unless its beginning was not heard
abbrev pub times_faults : KnownBefore → List What
times_faults k = when (not k.is_cut_off && nat_lt k.times 3) (faults.AnnouncedTimes k.times)

abbrev pub heard_faults : KnownBefore → List What
heard_faults k = when (not k.is_cut_off && nat_lt k.heard 3) (faults.NextHeard k.heard)

abbrev pub flags_faults : KnownBefore → List What
flags_faults k = when (not k.is_cut_off && not (k.flags == changes k)) (faults.Flags k.flags (changes k))

abbrev pub notice_faults : KnownBefore → List What
notice_faults k = times_faults k ++ (heard_faults k ++ flags_faults k)

-- faults in the capacity units of the next configuration
abbrev pub unit_faults : KnownBefore → List What
unit_faults k = as_list (overlap k.listener.next.subs) ++ as_list (past_end k.listener.next.subs)

-- a swap, and whether it was awaited at another count
abbrev pub count_findings : KnownBefore → EnsembleInformation → List What
count_findings k e = whats.Event events.Swap ∷ when (not (e.count % 250 == awaited_low k))
    (faults.AnnouncedFor (awaited_low k))

abbrev pub swap_findings : KnownBefore → EnsembleInformation → List What
swap_findings k e =
    whats.Event events.Swap
    ∷ (when (not (e.count % 250 == awaited_low k)) (faults.AnnouncedFor (awaited_low k))
    ++ (notice_faults k ++ unit_faults k))

-- ---- a FIG 0/0

abbrev pub swap_or_another : KnownBefore → EnsembleInformation → List What
swap_or_another k e =
    if makes_swap k e then swap_findings k e
    else when (announces_another k e) (faults.AnnouncedAgain e.change (occurrence_of e))

-- no change flags, where entries of the next configuration came before
abbrev pub unannounced_findings : KnownBefore → EnsembleInformation → List What
unannounced_findings k e = when (not (has_flags e) && k.began_early) faults.NextUnannounced

abbrev pub ensemble_findings : KnownBefore → Bool → EnsembleInformation → List What
ensemble_findings k first e =
    place_faults k first e
    ++ (swap_or_another k e
    ++ (announcement k e
    ++ when (not (has_flags e) && k.began_early) faults.NextUnannounced))

-- ---- an entry of FIG 0/1 to 0/3

abbrev pub is_other_one : Lookup → Bool
is_other_one standings.Same = false
is_other_one standings.Other = true
is_other_one standings.Absent = false
is_other_one standings.Full = false

abbrev pub is_absent : Lookup → Bool
is_absent standings.Same = false
is_absent standings.Other = false
is_absent standings.Absent = true
is_absent standings.Full = false

abbrev pub finds_no_room : Lookup → Bool
finds_no_room standings.Same = false
finds_no_room standings.Other = false
finds_no_room standings.Absent = false
finds_no_room standings.Full = true

abbrev pub is_settled : KnownBefore → Bool
is_settled k = nat_le k.settles_at k.frames

abbrev pub current_findings : KnownBefore → Raw → List What
current_findings k raw =
    when (is_other_one (lookup_in raw k.listener.current)) (faults.Changed (name_of raw))
    ++ when (is_absent (lookup_in raw k.listener.current) && is_settled k) (faults.Appeared (name_of raw))

abbrev pub next_findings : KnownBefore → Raw → List What
next_findings k raw =
    when (not k.has_begun && k.has_ensemble) faults.NextUnannounced
    ++ when (is_other_one (lookup_in raw k.listener.next)) (faults.NextChanged (name_of raw))

abbrev pub member_findings : KnownBefore → Bool → Raw → List What
member_findings k next raw =
    if k.listener.tuned then (if next then next_findings k raw else current_findings k raw) else []

-- the picture for this entry has 64 others of its kind, and none with its identifier
abbrev pub has_no_room : KnownBefore → Item → Bool
has_no_room k i =
    if is_ensemble i then false
    else k.listener.tuned && finds_no_room (lookup_in i.raw (if i.next then k.listener.next else k.listener.current))

-- ---- all findings at an entry

abbrev pub findings_at : KnownBefore → Item → List What
findings_at k i =
    if is_ensemble i then ensemble_findings k i.first (ensemble_of_item i) else member_findings k i.next i.raw

-- ---- the end of a frame

-- last heard `period` frames before the one that ends
abbrev pub is_silent : ℕ → List Moment → Raw → Bool
is_silent period past raw = last_heard (key_of raw) past + period == frames_ended past + 1

abbrev pub silence : Raw → What
silence raw = whats.Fault (faults.Silent (name_of raw))

abbrev pub silent_findings : ℕ → List Moment → List What
silent_findings period past = map silence (filter (is_silent period past) (all_entries (listener_after past).current))
