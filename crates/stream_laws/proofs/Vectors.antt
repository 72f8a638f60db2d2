-- Small streams, computed by the checker from the definitions: for each, examples that hold and examples that fail.
use Rattle.stream_laws.proofs.Words.{[], ◌∷◌, ◌≡◌, BeginsUnflagged, EnsembleInformation, Fib, Fig, HaveOwnUnits}
use Rattle.stream_laws.proofs.Words.{IsCurrentAfter, IsFaultless, IsKept, IsNoFault, IsSaidIn, IsUnitOf, Item, List}
use Rattle.stream_laws.proofs.Words.{MakeNoSwap, Moment, None, Open, Raw, Some, after_frames, ap, arith, end_unit}
use Rattle.stream_laws.proofs.Words.{false, first_unit, get_or, last_of, last_swap, refl, sym, true, ℕ}
use Rattle.stream_laws.specs.Notices.{notice_frames}
use Rattle.stream_check.specs.declared.finding.Fault.TheVariants as faults
use Rattle.stream_check.specs.declared.finding.StreamEvent.TheVariants as events
use Rattle.stream_check.specs.declared.finding.What.TheVariants as whats
use Rattle.stream_laws.proofs.OwnUnits.{own_units}

event_is_none : IsNoFault (whats.Event events.Swap)
event_is_none = tt

fault_is_one : IsNoFault (whats.Fault faults.OutOfPlace) → ⊥
fault_is_one h = h

-- ---- a stream of mode II, and a period of 250 frames: FIG 0/0 at each count, and sub-channel 1

abbrev header : ℕ → Fig
header count = Open 0 ((225 ∷ 197 ∷ 0 ∷ count ∷ []) ∷ [])

-- change flags 1, for low 4
abbrev flagged : ℕ → Fig
flagged count = Open 0 ((225 ∷ 197 ∷ 64 ∷ count ∷ 4 ∷ []) ∷ [])

-- with 96 capacity units, and with 72
abbrev before : List ℕ
before = 4 ∷ 0 ∷ 136 ∷ 96 ∷ []

abbrev after : List ℕ
after = 4 ∷ 0 ∷ 136 ∷ 72 ∷ []

abbrev frame_of : List Fig → List Fib
frame_of figs = Some figs ∷ Some [] ∷ Some [] ∷ []

abbrev first : List Fib
first = frame_of (header 0 ∷ Open 1 (before ∷ []) ∷ [])

abbrev noticed : ℕ → List Fib
noticed count = frame_of (flagged count ∷ Open 1 (before ∷ []) ∷ Open 129 (after ∷ []) ∷ [])

abbrev swapped : List Fib
swapped = frame_of (header 4 ∷ Open 1 (after ∷ []) ∷ [])

abbrev stream : List (List Fib)
stream = first ∷ noticed 1 ∷ noticed 2 ∷ noticed 3 ∷ swapped ∷ []

faultless : IsFaultless 3 1 250 stream
faultless = record { room = refl; plain = (tt, (tt, (tt, tt))) }

-- an entry that changes without a notice
silent_change : IsFaultless 3 1 250 (first ∷ frame_of (header 1 ∷ Open 1 (after ∷ []) ∷ []) ∷ []) → ⊥
silent_change h = h.plain.1.0

-- ---- the swap of this stream

abbrev swap_header : Item
swap_header = record {
  first = true;
  next = false;
  raw = record { ext = 0; long = false; bytes = 225 ∷ 197 ∷ 0 ∷ 4 ∷ [] };
}

abbrev past : List Moment
past = after_frames 1 [] (first ∷ noticed 1 ∷ noticed 2 ∷ noticed 3 ∷ [])

said_there : IsSaidIn 1 stream past swap_header
said_there = record {
  before = first ∷ noticed 1 ∷ noticed 2 ∷ noticed 3 ∷ [];
  frame = swapped;
  after = [];
  front = [];
  back = record { first = false; next = false; raw = record { ext = 1; long = false; bytes = after } } ∷ [];
  frames_are = refl;
  items_are = refl;
  past_is = refl;
}

its_frames : notice_frames past (((10 ∷ []) ∷ []) ∷ ((11 ∷ []) ∷ (12 ∷ []) ∷ []) ∷ ((20 ∷ []) ∷ []) ∷ ((30 ∷ []) ∷ [])
    ∷ ((40 ∷ []) ∷ []) ∷ []) ≡ (11 ∷ 12 ∷ []) ∷ (20 ∷ []) ∷ (30 ∷ []) ∷ []
its_frames = refl

last_two : last_of {X = ℕ} 2 (1 ∷ 2 ∷ 3 ∷ []) ≡ 2 ∷ 3 ∷ []
last_two = refl

-- ---- entries with C/N 0

abbrev now : List ℕ → Item
now bytes = record { first = false; next = false; raw = record { ext = 1; long = false; bytes = bytes } }

abbrev heard : List Moment
heard = after_frames 1 [] (first ∷ [])

as_it_was : IsKept 250 heard (now before)
as_it_was = record { agrees = λ known e. cc; there = λ settled. refl }

otherwise : IsKept 250 heard (now after) → ⊥
otherwise h =
    let same = ap (λ (r : Raw). get_or r.bytes 3 0)
    (h.agrees (record { ext = 1; long = false; bytes = before }) refl) in
    let wrong : 96 ≡ 72 = same in
    omega (arith, wrong)

-- ---- swaps

in_the_fifth : last_swap (after_frames 1 [] stream) ≡ 5
in_the_fifth = refl

not_yet : last_swap (after_frames 1 [] (first ∷ noticed 1 ∷ [])) ≡ 0
not_yet = refl

none_in_the_notice : MakeNoSwap 1 (first ∷ []) (noticed 1 ∷ noticed 2 ∷ noticed 3 ∷ [])
none_in_the_notice = (let none : last_swap (after_frames 1 [] (first ∷ noticed 1 ∷ noticed 2 ∷ noticed 3 ∷ [])) ≡ 0 =
    refl in omega (arith, none))

one_after_it : MakeNoSwap 1 (first ∷ []) (noticed 1 ∷ noticed 2 ∷ noticed 3 ∷ swapped ∷ []) → ⊥
one_after_it h = (let fifth : last_swap (after_frames 1 [] stream) ≡ 5 = refl in omega (arith, fifth, h))

-- ---- the current configuration

abbrev sub : List ℕ → Raw
sub bytes = record { ext = 1; long = false; bytes = bytes }

is_current : IsCurrentAfter 1 (first ∷ []) (sub before)
is_current = refl

not_any_more : IsCurrentAfter 1 stream (sub before) → ⊥
not_any_more h =
    let some : Some (sub after) ≡ Some (sub before) = h in
    let same : sub after ≡ sub before = cc in
    let wrong : 72 ≡ 96 = ap (λ (r : Raw). get_or r.bytes 3 0) same in
    omega (arith, wrong)

-- ---- capacity units: 96 from 0 on, then 72, and 72 from 0 on

abbrev beside : List ℕ
beside = 8 ∷ 96 ∷ 136 ∷ 72 ∷ []

abbrev within_it : List ℕ
within_it = 8 ∷ 0 ∷ 136 ∷ 72 ∷ []

last_unit : IsUnitOf (sub before) 95
last_unit =
    let from : first_unit (sub before) ≡ 0 = refl in
    let to : end_unit (sub before) ≡ 96 = refl in
    record { long_form = refl; from = omega (arith, from); to = omega (arith, to) }

one_too_far : IsUnitOf (sub before) 96 → ⊥
one_too_far h = (let end : end_unit (sub before) ≡ 96 = refl in let to = h.to in omega (arith, end, to))

unit_of_the_other : IsUnitOf (sub within_it) 5
unit_of_the_other =
    let from : first_unit (sub within_it) ≡ 0 = refl in
    let to : end_unit (sub within_it) ≡ 72 = refl in
    record { long_form = refl; from = omega (arith, from); to = omega (arith, to) }

unit_of_both : IsUnitOf (sub before) 5
unit_of_both =
    let from : first_unit (sub before) ≡ 0 = refl in
    let to : end_unit (sub before) ≡ 96 = refl in
    record { long_form = refl; from = omega (arith, from); to = omega (arith, to) }

side_by_side : HaveOwnUnits (sub before ∷ sub beside ∷ [])
side_by_side = own_units (sub before ∷ sub beside ∷ []) tt

one_in_the_other : HaveOwnUnits (sub before ∷ sub within_it ∷ []) → ⊥
one_in_the_other h = (let same : 0 ≡ 1 =
    h.apart 0 1 (sub before) (sub within_it) 5 refl refl unit_of_both unit_of_the_other in omega (arith, same))

-- ---- the first FIG 0/0

abbrev bare : EnsembleInformation
bare = record { eid = 57797; change = 0; al = false; count = 0; occurrence = None }

begins_bare : BeginsUnflagged stream
begins_bare e is = by e is
  where
    by : (x : EnsembleInformation) → Some bare ≡ Some x → x.change ≡ 0
    by x k = (let same : bare ≡ x = cc in sym (ap (λ (y : EnsembleInformation). y.change) same))

begins_flagged : BeginsUnflagged (noticed 1 ∷ []) → ⊥
begins_flagged h = (let none : 1 ≡ 0 = h _ refl in omega (arith, none))
