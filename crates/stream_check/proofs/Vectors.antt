-- The rules in small cases, computed by the checker from the definitions: for each, one that holds and one that fails.
use Rattle.stream_check.proofs.Words.{[], ◌∷◌, ◌≡◌, Ended, Item, List, Moment, None, Raw, Said, Some, can_fall_at, due}
use Rattle.stream_check.proofs.Words.{false, findings_at, has_begun, is_cut_off, known_of, most_parts, overlap}
use Rattle.stream_check.proofs.Words.{past_end, refl, share_unit, silent_findings, true, ℕ}
use Rattle.stream_check.specs.declared.finding.EntryName.TheVariants as names
use Rattle.stream_check.specs.declared.finding.Fault.TheVariants as faults
use Rattle.stream_check.specs.declared.finding.StreamEvent.TheVariants as events
use Rattle.stream_check.specs.declared.finding.What.TheVariants as whats

-- ---- parts

two_parts : most_parts (5 ∷ 9 ∷ []) ((5 ∷ []) ∷ (9 ∷ []) ∷ (9 ∷ 5 ∷ []) ∷ []) ≡ 2
two_parts = refl

no_part : most_parts (5 ∷ 9 ∷ []) ((5 ∷ []) ∷ (5 ∷ []) ∷ []) ≡ 0
no_part = refl

-- ---- counts at which a swap can fall

falls_in_mode_one : can_fall_at 4 28 ≡ true
falls_in_mode_one = refl

odd_in_mode_one : can_fall_at 4 29 ≡ false
odd_in_mode_one = refl

-- ---- sub-channels: 1 has the units 0 to 95, 2 starts at 95, 3 starts at 96, 4 ends past the last unit

abbrev sub : List ℕ → Raw
sub bytes = record { ext = 1; long = false; bytes = bytes }

abbrev one : Raw
one = sub (4 ∷ 0 ∷ 136 ∷ 96 ∷ [])

abbrev two : Raw
two = sub (8 ∷ 95 ∷ 136 ∷ 96 ∷ [])

abbrev three : Raw
three = sub (12 ∷ 96 ∷ 136 ∷ 96 ∷ [])

abbrev four : Raw
four = sub (19 ∷ 0 ∷ 136 ∷ 97 ∷ [])

shared : share_unit one two ≡ true
shared = refl

apart : share_unit one three ≡ false
apart = refl

overlapping : overlap (one ∷ two ∷ three ∷ []) ≡ Some (faults.Overlap 1 2)
overlapping = refl

none_overlapping : overlap (one ∷ three ∷ []) ≡ None
none_overlapping = refl

ends_past : past_end (one ∷ four ∷ []) ≡ Some (faults.PastEnd 4)
ends_past = refl

none_past : past_end (one ∷ two ∷ three ∷ []) ≡ None
none_past = refl

-- ---- a stream: FIG 0/0 at count 0, sub-channel 1, a notice for low 28, and the swap

abbrev tuned_in : Item
tuned_in = record { first = true; next = false; raw = record { ext = 0; long = false; bytes = 225 ∷ 197 ∷ 0 ∷ 0 ∷ [] } }

abbrev heard : Raw → Item
heard raw = record { first = false; next = false; raw = raw }

abbrev heard_next : Raw → Item
heard_next raw = record { first = false; next = true; raw = raw }

abbrev flagged : ℕ → Item
flagged count = record {
  first = true;
  next = false;
  raw = record { ext = 0; long = false; bytes = 225 ∷ 197 ∷ 64 ∷ count ∷ 28 ∷ [] };
}

abbrev first_frame : List Moment
first_frame = Ended 0 ∷ Said (heard one) ∷ Said tuned_in ∷ []

counted : due first_frame ≡ Some 1
counted = refl

-- the same entry again is no fault, a changed one is
same_again : findings_at (known_of 4 250 first_frame) (heard one) ≡ []
same_again = refl

changed_now : findings_at (known_of 4 250 first_frame) (heard (sub (4 ∷ 0 ∷ 136 ∷ 72 ∷ [])))
    ≡ whats.Fault (faults.Changed (names.Sub 1)) ∷ []
changed_now = refl

-- a new entry is no fault before the period is over, and is one afterwards
new_at_first : findings_at (known_of 4 250 first_frame) (heard three) ≡ []
new_at_first = refl

new_later : findings_at (known_of 4 1 first_frame) (heard three) ≡ whats.Fault (faults.Appeared (names.Sub 3)) ∷ []
new_later = refl

-- silent in the second frame with a period of one frame, but not with a period of two
silent_soon : silent_findings 1 first_frame ≡ whats.Fault (faults.Silent (names.Sub 1)) ∷ []
silent_soon = refl

silent_later : silent_findings 2 first_frame ≡ []
silent_later = refl

-- FIG 0/0 at the count that is due; below, at another
in_time : findings_at (known_of 1 250 first_frame)
    (record { first = true; next = false; raw = record { ext = 0; long = false; bytes = 225 ∷ 197 ∷ 0 ∷ 1 ∷ [] } }) ≡ []
in_time = refl

jumped : findings_at (known_of 1 250 first_frame)
    (record { first = true; next = false; raw = record { ext = 0; long = false; bytes = 225 ∷ 197 ∷ 0 ∷ 2 ∷ [] } })
    ≡ whats.Fault (faults.Count 1) ∷ []
jumped = refl

-- an announcement, and a swap immediately after it
announced : findings_at (known_of 1 250 first_frame) (flagged 1) ≡ whats.Event (events.Announced 1 28) ∷ []
announced = refl

abbrev announced_once : List Moment
announced_once = Ended 1 ∷ Said (heard_next two) ∷ Said (flagged 1) ∷ first_frame

begun : has_begun announced_once ≡ true
begun = refl

not_cut_off : is_cut_off announced_once ≡ false
not_cut_off = refl

swapped_early : findings_at (known_of 1 250 announced_once)
    (record { first = true; next = false; raw = record { ext = 0; long = false; bytes = 225 ∷ 197 ∷ 0 ∷ 2 ∷ [] } })
    ≡ whats.Event events.Swap ∷ whats.Fault (faults.AnnouncedFor 28) ∷ whats.Fault (faults.AnnouncedTimes 1)
    ∷ whats.Fault (faults.NextHeard 1) ∷ []
swapped_early = refl
