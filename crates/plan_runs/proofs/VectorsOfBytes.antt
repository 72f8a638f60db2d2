-- Frames of one sub-channel, and of a notice that lowers its rate: what is heard in them, and what is not.
use Rattle.plan_runs.proofs.Words.{[], ◌<◌, ◌∙◌, ◌∷◌, ◌≡◌, AllByRecursion, AnnouncesOnly, BeginsNoPhase, Bool, Contains}
use Rattle.plan_runs.proofs.Words.{EnsembleInformation, EnsembleOf, Fig, Frame, FrameIsAllowed, FrameRuns, HasHeader, I}
use Rattle.plan_runs.proofs.Words.{II, IsAnnounced, IsAnnouncedIn, IsEnsembleFig, IsEnsembleHeardInRow, IsEnsembleOf}
use Rattle.plan_runs.proofs.Words.{IsFlagged, IsHeadedBy, IsHeardInSome, IsHeardWhole, IsInFig, IsNoHeader, IsOnePhase}
use Rattle.plan_runs.proofs.Words.{IsPageable, IsRight, IsUnheaded, KeepsCount, List, Marked, Mode, None, Open, Other}
use Rattle.plan_runs.proofs.Words.{Plan, Program, Runs, Some, State, SwapsAt, Whole, after_frame, ap, arith}
use Rattle.plan_runs.proofs.Words.{ensemble_is_heard, ensemble_sent, false, fib_at, frame_bytes, lower_is, marked}
use Rattle.plan_runs.proofs.Words.{one_fib, one_sub_is, page_entries, page_set, page_sets_are_pageable, pages_are_heard}
use Rattle.plan_runs.proofs.Words.{refl, sent_entries, shown_bytes, slice_get_within, sub_at_rate, sub_entry, subst}
use Rattle.plan_runs.proofs.Words.{suc, sym, true, with_sub, zero, ℕ}
use Rattle.mux_config.proofs.Sounding.{sound_told}
use Rattle.plan_runs.proofs.Samples.{short_plan, ended, lowering, unflagged, flagged, flagged_is}
use Rattle.plan_runs.proofs.Passing.{some_is}
use Rattle.plan_runs.proofs.Tracked.{Airs}
use Rattle.plan_runs.proofs.Right.{page_laws, frame_right, ensemble_right}

abbrev plan : Mode → Plan
plan mode = short_plan mode 12 20

abbrev code : Mode → Program
code mode = ended (plan mode)

-- ---- FIGs

a_header : IsEnsembleFig (Open 0 [])
a_header = refl

-- FIG 0/1
no_header : IsEnsembleFig (Open 1 []) → ⊥
no_header h = let e : 1 ≡ 0 = h in omega (arith, e)

other_extension : IsNoHeader (Open 1 [])
other_extension = no_header

is_one : IsNoHeader (Open 0 []) → ⊥
is_one h = h a_header

-- ---- the information of FIG 0/0, with a swap 12 frames later

in_the_notice : IsEnsembleOf (plan I) (lowering (Some 12) 988) (flagged 988 0)
in_the_notice = ensemble_right (plan I) (lowering (Some 12) 988)

unflagged_in_the_notice : IsEnsembleOf (plan I) (lowering (Some 12) 988) (unflagged 988) → ⊥
unflagged_in_the_notice h = let e : 0 ≡ 1 = (h.flagged refl).0 in omega (arith, e)

-- ---- phases

swap_first : IsOnePhase (code II) (lowering (Some 0) 7) (Frame ∷ Frame ∷ [])
swap_first = (refl, tt)

swap_second : IsOnePhase (code II) (lowering (Some 1) 7) (Frame ∷ Frame ∷ []) → ⊥
swap_second h = let e : true ≡ false = h.0 in absurd cc

neither_notice_nor_swap : BeginsNoPhase (code II) (lowering (Some 14) 7) (Frame ∷ [])
neither_notice_nor_swap = (refl, tt)

notice_begins : BeginsNoPhase (code II) (lowering (Some 13) 7) (Frame ∷ Frame ∷ []) → ⊥
notice_begins h = let e : true ≡ false = h.1.0 in absurd cc

-- ---- what is heard in the bytes of a frame: page 0 of the current configuration, with FIG 0/0 on a count of 8

abbrev IsSendableBy : Plan → State → Type 0
IsSendableBy plan s = IsPageable (ensemble_sent plan s) (sent_entries plan s)

without_header : IsSendableBy (plan I) (lowering None 9)
without_header = page_sets_are_pageable (with_sub 128) None None one_sub_is tt tt

-- the bytes of page 0
abbrev headed : List ℕ
headed = shown_bytes (plan I) (lowering None 8)

abbrev bare : List ℕ
bare = shown_bytes (plan I) (lowering None 9)

abbrev next_sub : Marked
next_sub = marked true (sub_entry (sub_at_rate 96))

-- ---- FIG 0/0 in a frame

has_no_header : HasHeader bare → ⊥
has_no_header h =
    let said = (ensemble_is_heard (Whole I) (ensemble_sent (plan I) (lowering None 9)) 0
    (sent_entries (plan I) (lowering None 9)) without_header h.0 h.1).0 h.2 in
    let e : None ≡ Some h.1 = said.1 in
    absurd cc

-- ---- correct frames

airs : (count : ℕ) → count < 5000 → Airs (plan I) (lowering None count)
airs count below = record {
  count = below;
  eid = omega arith;
  current = one_sub_is;
  next = lower_is;
  ahead = tt;
  on_air = record { sound = sound_told (with_sub 128) refl; within_period = omega arith };
  committed = tt;
  swaps = tt;
  page_index = omega arith;
}

frame_of_8 : IsRight (plan I) (lowering None 8) headed
frame_of_8 = frame_right page_laws (plan I) (lowering None 8) (airs 8 (omega arith))

begins_with_its_header : IsHeadedBy (plan I) (lowering None 8) (fib_at headed 0)
begins_with_its_header = frame_of_8.headed refl

no_header_in_its_second : IsUnheaded (fib_at headed 1)
no_header_in_its_second = frame_of_8.others_unheaded 1 (omega arith) (omega arith)

-- a FIG with ensemble information is a FIG 0/0
says_header : (fig : Fig) (e : EnsembleInformation) → IsInFig fig (marked false (EnsembleOf e)) → IsEnsembleFig fig
says_header (Open second es) e h = h.2.ext
says_header (Other bytes) e h = h

-- the same bytes can't both begin with FIG 0/0 and be without it
not_both : (plan : Plan) (s : State) (fib : List ℕ) → IsHeadedBy plan s fib → IsUnheaded fib → ⊥
not_both plan s fib h u =
    let same : u.0 ≡ h.header ∷ h.others = one_fib fib u.0 (h.header ∷ h.others) u.1 h.first in
    let each : AllByRecursion IsNoHeader (h.header ∷ h.others) =
    subst (λ (figs : List Fig). AllByRecursion IsNoHeader figs) same u.2 in
    each.0 (says_header h.header h.information h.says)

unheaded_with_one : IsUnheaded (fib_at headed 0) → ⊥
unheaded_with_one h = not_both (plan I) (lowering None 8) (fib_at headed 0) begins_with_its_header h

-- ---- a notice in mode II: the swap falls on count 10

abbrev noticed : ℕ → ℕ → State
noticed count left = lowering (Some left) count

abbrev notice_frame : ℕ → ℕ → List ℕ
notice_frame count left = shown_bytes (plan II) (noticed count left)

-- what is sent in a frame of it: FIG 0/0 with the count of the swap, and the next sub-channel
record IsNoticeFrame (count left : ℕ) : Type 0 where
  sendable : IsSendableBy (plan II) (noticed count left)
  header : ensemble_sent (plan II) (noticed count left) ≡ Some (flagged count 10)
  next : Contains (page_entries (Whole II) 0 (sent_entries (plan II) (noticed count left))) next_sub

sendable_to_96 : (count low : ℕ) → count < 5000 → low < 256
    → IsPageable (Some (flagged count low)) (page_set (with_sub 128) (Some (with_sub 96)))
sendable_to_96 count low below last =
    page_sets_are_pageable (with_sub 128) (Some (with_sub 96)) (Some (flagged count low)) one_sub_is lower_is
    (flagged_is count low below last)

three_before : IsNoticeFrame 7 3
three_before = record {
  sendable = sendable_to_96 7 10 (omega arith) (omega arith);
  header = refl;
  next = (1, omega arith, refl);
}

two_before : IsNoticeFrame 8 2
two_before = record {
  sendable = sendable_to_96 8 10 (omega arith) (omega arith);
  header = refl;
  next = (1, omega arith, refl);
}

one_before : IsNoticeFrame 9 1
one_before = record {
  sendable = sendable_to_96 9 10 (omega arith) (omega arith);
  header = refl;
  next = (1, omega arith, refl);
}

header_of : (count left : ℕ) → IsNoticeFrame count left
    → IsEnsembleHeardInRow (notice_frame count left) false (flagged count 10)
header_of count left h =
    (ensemble_is_heard (Whole II) (ensemble_sent (plan II) (noticed count left)) 0
    (sent_entries (plan II) (noticed count left)) h.sendable false (flagged count 10)).1
    (refl, h.header)

only_header : (count left : ℕ) → IsNoticeFrame count left → (next : Bool) (e : EnsembleInformation)
    → IsEnsembleHeardInRow (notice_frame count left) next e → flagged count 10 ≡ e
only_header count left h next e heard =
    let said = (ensemble_is_heard (Whole II) (ensemble_sent (plan II) (noticed count left)) 0
    (sent_entries (plan II) (noticed count left)) h.sendable next e).0 heard in
    cc (h.header, said.1)

has_its_header : (count left : ℕ) → IsNoticeFrame count left → HasHeader (notice_frame count left)
has_its_header count left h = (false, flagged count 10, header_of count left h)

next_in : (count left : ℕ) → IsNoticeFrame count left → IsHeardInSome (notice_frame count left ∷ []) next_sub
next_in count left h = (
  notice_frame count left,
  (0, omega arith, refl),
  (pages_are_heard (Whole II) (ensemble_sent (plan II) (noticed count left)) 0
      (sent_entries (plan II) (noticed count left)) h.sendable next_sub).1 h.next,
)

whole_next : (count left : ℕ) → IsNoticeFrame count left
    → IsHeardWhole (with_sub 96) true (notice_frame count left ∷ [])
whole_next count left h m (zero, lt, same) =
    subst (λ (x : Marked). IsHeardInSome (notice_frame count left ∷ []) x) same (next_in count left h)
whole_next count left h m (suc n, lt, same) = absurd (omega (arith, lt))

abbrev notice : List (List ℕ)
notice = notice_frame 7 3 ∷ notice_frame 8 2 ∷ notice_frame 9 1 ∷ []

flagged_by : (count left : ℕ) → IsNoticeFrame count left → (next : Bool) (e : EnsembleInformation) (frame : List ℕ)
    → notice_frame count left ≡ frame
    → IsEnsembleHeardInRow frame next e → IsFlagged (with_sub 128) (with_sub 96) 10 e
flagged_by count left h next e frame here heard =
    let there : IsEnsembleHeardInRow (notice_frame count left) next e =
    subst (λ (bytes : List ℕ). IsEnsembleHeardInRow bytes next e) (sym here) heard in
    subst (λ (x : EnsembleInformation). IsFlagged (with_sub 128) (with_sub 96) 10 x)
    (only_header count left h next e there) (refl, refl)

all_flagged : (frame : List ℕ) (next : Bool) (e : EnsembleInformation) → Contains notice frame
    → IsEnsembleHeardInRow frame next e → IsFlagged (with_sub 128) (with_sub 96) 10 e
all_flagged frame next e (zero, lt, same) heard = flagged_by 7 3 three_before next e frame same heard
all_flagged frame next e (suc zero, lt, same) heard = flagged_by 8 2 two_before next e frame same heard
all_flagged frame next e (suc (suc zero), lt, same) heard = flagged_by 9 1 one_before next e frame same heard
all_flagged frame next e (suc (suc (suc n)), lt, same) heard = absurd (omega (arith, lt))

announced : IsAnnounced (with_sub 128) (with_sub 96) 10 notice
announced = record {
  first = notice_frame 7 3 ∷ [];
  second = notice_frame 8 2 ∷ [];
  third = notice_frame 9 1 ∷ [];
  cut = refl;
  whole_in_first = whole_next 7 3 three_before;
  whole_in_second = whole_next 8 2 two_before;
  whole_in_third = whole_next 9 1 one_before;
  headers = record {
    first = 0;
    second = 1;
    third = 2;
    before_second = omega arith;
    before_third = omega arith;
    in_first = (notice_frame 7 3, refl, has_its_header 7 3 three_before);
    in_second = (notice_frame 8 2, refl, has_its_header 8 2 two_before);
    in_third = (notice_frame 9 1, refl, has_its_header 9 1 one_before);
  };
  flagged = all_flagged;
}

-- and two frames alone announce no swap
announced_by_two : IsAnnounced (with_sub 128) (with_sub 96) 10 (notice_frame 8 2 ∷ notice_frame 9 1 ∷ []) → ⊥
announced_by_two h =
    let within : h.headers.third < 2 =
    slice_get_within (notice_frame 8 2 ∷ notice_frame 9 1 ∷ []) h.headers.third h.headers.in_third.0
    h.headers.in_third.1 in
    omega (arith, within, h.headers.before_second, h.headers.before_third)

-- ---- the count that a frame announces

announces_10 : IsAnnouncedIn (notice_frame 9 1) 10
announces_10 = (false, flagged 9 10, header_of 9 1 one_before, refl)

announces_only_10 : AnnouncesOnly 10 (notice_frame 9 1)
announces_only_10 low h =
    some_is low 10 (sym (ap (λ (e : EnsembleInformation). e.occurrence) (only_header 9 1 one_before h.0 h.1 h.2) ∙ h.3))

announces_only_11 : AnnouncesOnly 11 (notice_frame 9 1) → ⊥
announces_only_11 h = let e : 10 ≡ 11 = h 10 announces_10 in omega (arith, e)

-- a swap falls on the frame after the one that announces it
keeps_its_count : KeepsCount (code II) (noticed 9 1) (Frame ∷ Frame ∷ [])
keeps_its_count = ((λ low h. at_10 low (announces_only_10 low h)), ((λ low h. tt), tt))
  where
    at_10 : (low : ℕ) → low ≡ 10 → SwapsAt low (code II) (after_frame (code II) (noticed 9 1)) (Frame ∷ [])
    at_10 low same = subst (λ (x : ℕ). SwapsAt x (code II) (after_frame (code II) (noticed 9 1)) (Frame ∷ []))
        (sym same) refl

-- a notice of 251 frames, which no plan has: its first frame would name the count of the second, without a swap
abbrev too_long : Program
too_long = ended (short_plan II 251 20)

first_of_251 : IsSendableBy too_long.plan (noticed 0 251)
first_of_251 = sendable_to_96 0 1 (omega arith) (omega arith)

names_the_second : IsAnnouncedIn (frame_bytes too_long (noticed 0 251)) 1
names_the_second = (
  false,
  flagged 0 1,
  (ensemble_is_heard (Whole II) (ensemble_sent too_long.plan (noticed 0 251)) 0
      (sent_entries too_long.plan (noticed 0 251)) first_of_251 false (flagged 0 1)).1 (refl, refl),
  refl,
)

not_its_swap : KeepsCount too_long (noticed 0 251) (Frame ∷ Frame ∷ []) → ⊥
not_its_swap h = let e : false ≡ true = h.0 1 names_the_second in absurd cc

-- ---- the frame of an announced swap

abbrev swapping : State
swapping = lowering (Some 0) 10

swap_allowed : FrameIsAllowed (code II) swapping
swap_allowed = record { steps = 0; within = omega arith; executes = (refl, refl); counted = refl }

swap_was_announced : FrameRuns (code II) swapping notice
swap_was_announced = record { allowed = swap_allowed; announced = λ due. announced }

swap_was_not : FrameRuns (code II) swapping (notice_frame 8 2 ∷ notice_frame 9 1 ∷ []) → ⊥
swap_was_not h = announced_by_two (h.announced refl)

runs_over_the_swap : Runs (code II) swapping notice (Frame ∷ [])
runs_over_the_swap = (swap_was_announced, tt)

runs_without_notice : Runs (code II) swapping (notice_frame 8 2 ∷ notice_frame 9 1 ∷ []) (Frame ∷ []) → ⊥
runs_without_notice h = swap_was_not h.0
