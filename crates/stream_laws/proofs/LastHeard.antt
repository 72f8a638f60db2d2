-- When an entry was last heard, along the entries of a frame.
use Rattle.stream_laws.proofs.Words.{[], ◌%◌, ◌&&◌, ◌*◌, ◌+◌, ◌<◌, ◌==◌, ◌||◌, ◌∙◌, ◌∷◌, ◌≡◌, ◌≤◌, Bool, Contains}
use Rattle.stream_laws.proofs.Words.{Ended, EnsembleInformation, Entry, FibHas32Bytes, Fig, FrameLayout, IsFib}
use Rattle.stream_laws.proofs.Words.{IsHeardInRow, IsInFig, IsSaid, Item, List, Listening, Marked, Moment, None}
use Rattle.stream_laws.proofs.Words.{OneList, Open, Option, Other, Pictured, Raw, Reading, Said, Some, after_is, ap}
use Rattle.stream_laws.proofs.Words.{arith, at_ensemble, cases_lt, cond, contains_cases, contains_first, contains_later}
use Rattle.stream_laws.proofs.Words.{contains_none, drop_all, ensemble_in, entry_bytes, eq-eqb, eqb-true, ext_of, false}
use Rattle.stream_laws.proofs.Words.{fib_at, fibs_from, frame_fibs, frame_items, frames_ended, hear_entry, inl, inr}
use Rattle.stream_laws.proofs.Words.{into, is_ensemble, is_long, is_long_entry, is_made, is_member, is_next, is_swap}
use Rattle.stream_laws.proofs.Words.{key_of, last_heard, length, listener_after, listening, member_heard, member_last}
use Rattle.stream_laws.proofs.Words.{not, picture_of, pictured, raw_entry, raw_of, refl, said, some_is, subst, suc}
use Rattle.stream_laws.proofs.Words.{swapped, sym, take, true, where_heard, zero, ℕ}
use Rattle.mux_types.specs.declared.entry.Entry.TheVariants.{Ensemble as EnsembleOf, Sub as SubOf, Short as ShortOf}
use Rattle.mux_types.specs.declared.entry.Entry.TheVariants.{Service as ServiceOf, Packet as PacketOf}
use Rattle.stream_laws.proofs.Framing.{read_frame}
use Rattle.stream_laws.proofs.Bytes.{fibs_said, is_read}
use Rattle.stream_laws.proofs.Clean.{said_ended}

-- ---- the time never decreases, and is at most the current frame

pub last_at_most : (key : ℕ) (past : List Moment) → last_heard key past ≤ frames_ended past + 1
last_at_most key [] = omega arith
last_at_most key (Said i ∷ past) =
    elim (is_swap past i || (is_member past i && (not i.next && (key_of i.raw == key))))
    as (λ b. cond b (frames_ended past + 1) (last_heard key past) ≤ frames_ended past + 1) [
      | true ↦ omega arith
      | false ↦ last_at_most key past
    ]
last_at_most key (Ended count ∷ past) = let before = last_at_most key past in omega (arith, before)

pub last_grows : (key : ℕ) (items : List Item) (past : List Moment)
    → last_heard key past ≤ last_heard key (said items past)
last_grows key [] past = omega arith
last_grows key (i ∷ is) past =
    let one : last_heard key past ≤ last_heard key (Said i ∷ past) =
    elim (is_swap past i || (is_member past i && (not i.next && (key_of i.raw == key))))
    as (λ b. last_heard key past ≤ cond b (frames_ended past + 1) (last_heard key past)) [
      | true ↦ (last_at_most key past)
      | false ↦ omega arith
    ] in
    omega (arith, last_grows key is (Said i ∷ past), one)

-- once heard in the current frame, it stays so
pub last_stays : (key : ℕ) (items : List Item) (past : List Moment) → last_heard key past ≡ frames_ended past + 1
    → last_heard key (said items past) ≡ frames_ended past + 1
last_stays key items past now =
    omega (arith, now, last_grows key items past, last_at_most key (said items past), said_ended items past)

-- ---- a tuned listener stays tuned

heard_some : (o : Option Listening) (f : Listening → Option Listening) (m : Listening) → where_heard o f ≡ Some m
    → (l : Listening) × (o ≡ Some l)
heard_some None f m e = absurd cc
heard_some (Some l) f m e = (l, refl)

pub some_before : (items : List Item) (past : List Moment) (after : Listening)
    → listening (said items past) ≡ Some after → (m : Listening) × (listening past ≡ Some m)
some_before [] past after e = (after, e)
some_before (i ∷ is) past after e =
    let next = some_before is (Said i ∷ past) after e in
    heard_some (listening past) (hear_entry i.next i.raw) next.0 next.1

awaiting_tuned : (b : Bool) (e : EnsembleInformation) (x : Listening) → x.tuned ≡ true
    → (cond b x (let r : Listening =
    record { tuned = x.tuned; current = x.current; next = x.next; awaited = e.occurrence } in r)).tuned ≡ true
awaiting_tuned true e x t = t
awaiting_tuned false e x t = t

pub at_tuned : (e : EnsembleInformation) (l : Listening) → (at_ensemble e l).tuned ≡ true
at_tuned e l =
    let r : Listening = cond (is_made l.awaited e) (swapped l) l in
    let x : Listening = record { tuned = true; current = r.current; next = r.next; awaited = r.awaited } in
    awaiting_tuned (e.change == 0) e x refl

into_tuned : (next : Bool) (l : Listening) (o : Option Pictured) (m : Listening) → l.tuned ≡ true
    → into next l o ≡ Some m → m.tuned ≡ true
into_tuned true l (Some p) m t e =
    let a : Listening = record { tuned = l.tuned; current = l.current; next = p; awaited = l.awaited } in
    sym (ap (λ (x : Listening). x.tuned) (some_is a m e)) ∙ t
into_tuned false l (Some p) m t e =
    let a : Listening = record { tuned = l.tuned; current = p; next = l.next; awaited = l.awaited } in
    sym (ap (λ (x : Listening). x.tuned) (some_is a m e)) ∙ t
into_tuned _ l None m t e = absurd cc

stays_by : (b t : Bool) (next : Bool) (raw : Raw) (l m : Listening) → l.tuned ≡ true
    → cond b (Some (at_ensemble (ensemble_in raw) l)) (cond t (into next l (pictured raw (picture_of next l))) (Some l))
    ≡ Some m → m.tuned ≡ true
stays_by true t next raw l m is e = cc (some_is (at_ensemble (ensemble_in raw) l) m e, at_tuned (ensemble_in raw) l)
stays_by false true next raw l m is e = into_tuned next l (pictured raw (picture_of next l)) m is e
stays_by false false next raw l m is e = sym (ap (λ (x : Listening). x.tuned) (some_is l m e)) ∙ is

pub stays_tuned : (next : Bool) (raw : Raw) (l m : Listening) → l.tuned ≡ true → hear_entry next raw l ≡ Some m
    → m.tuned ≡ true
stays_tuned next raw l m is e = stays_by (raw.ext == 0) l.tuned next raw l m is e

-- an entry of the current configuration among these is heard
pub last_member : (key : ℕ) (items : List Item) (past : List Moment) (l after : Listening) → listening past ≡ Some l
    → l.tuned ≡ true → listening (said items past) ≡ Some after
    → (i : Item) → Contains items i → is_ensemble i ≡ false → i.next ≡ false → key_of i.raw ≡ key
    → last_heard key (said items past) ≡ frames_ended past + 1
last_member key [] past l after is t all i inside e n k = absurd (contains_none i inside)
last_member key (j ∷ js) past l after is t all i inside e n k = elim (contains_cases j js i inside) [
  | inl same ↦ (
      let tuned : (listener_after past).tuned ≡ true = ap (λ (x : Listening). x.tuned) (after_is past l is) ∙ t in
      let next : j.next ≡ false = ap (λ (x : Item). x.next) same ∙ n in
      let keys : (key_of j.raw == key) ≡ true = eq-eqb (key_of j.raw) key (ap (λ (x : Item). key_of x.raw) same ∙ k) in
      let now : last_heard key (Said j ∷ past) ≡ frames_ended past + 1 =
      cc (member_last key past j (ap is_ensemble same ∙ e), tuned, next, keys) in
      last_stays key js (Said j ∷ past) now
      )
  | inr more ↦ (
      let next = some_before js (Said j ∷ past) after all in
      let heard : hear_entry j.next j.raw l ≡ Some next.0 = sym (member_heard past j l is) ∙ next.1 in
      last_member key js (Said j ∷ past) next.0 after next.1 (stays_tuned j.next j.raw l next.0 t heard) all i more e n
      k
      )
]

-- ---- an entry that is heard in the bytes of a frame is among its entries

pub record IsSaidOf (items : List Item) (m : Marked) : Type 0 where
  pub item : Item
  pub inside : Contains items item
  pub next : item.next ≡ m.next
  pub raw : item.raw ≡ raw_entry m.entry

from_contains : (count n place : ℕ) (frame : List ℕ) → n ≤ place → place < n + count
    → Contains (fibs_from count n frame) (fib_at frame place)
from_contains zero n place frame from to = absurd (omega (arith, from, to))
from_contains (suc count) n place frame from to = elim (cases_lt n place) [
  | inl lt ↦ contains_later (fib_at frame n) (fibs_from count (n + 1) frame) (fib_at frame place)
      (from_contains count (n + 1) place frame (omega (arith, lt)) (omega (arith, to)))
  | inr ge ↦ (
      let same : n ≡ place = omega (arith, from, ge) in
      subst (λ (k : ℕ). Contains (fib_at frame n ∷ fibs_from count (n + 1) frame) (fib_at frame k)) same
      (contains_first (fib_at frame n) (fibs_from count (n + 1) frame))
      )
]

place_below : FibHas32Bytes → (layout : FrameLayout) (frame : List ℕ) (place : ℕ) (figs : List Fig)
    → length frame ≡ 32 * frame_fibs layout → IsFib (fib_at frame place) figs → place < frame_fibs layout
place_below size layout frame place figs long is = elim (cases_lt place (frame_fibs layout)) [
  | inl lt ↦ lt
  | inr ge ↦ (
      let none : fib_at frame place ≡ [] = ap (take 32) (drop_all (32 * place) frame (omega (arith, long, ge))) in
      absurd (omega (arith, ap length (sym none) ∙ size (fib_at frame place) figs is))
      )
]

long_same : (n : ℕ) (a b t : Bool) → (n == 2) ≡ t → (n ≡ 2 → a ≡ b) → (t && a) ≡ (t && b)
long_same n a b true e h = h (eqb-true n 2 e)
long_same n a b false e h = refl

long_alone : (e : Entry) → (ext_of e == 2 && is_long_entry e) ≡ is_long_entry e
long_alone (EnsembleOf e) = refl
long_alone (SubOf s) = refl
long_alone (ShortOf s) = refl
long_alone (ServiceOf s) = refl
long_alone (PacketOf p) = refl

raw_said : (second : ℕ) (bytes : List ℕ) (m : Marked) → IsSaid second bytes m
    → raw_of (second % 32) (is_long second) bytes ≡ raw_entry m.entry
raw_said second bytes m h =
    let long : (ext_of m.entry == 2 && is_long second) ≡ is_long_entry m.entry =
    long_same _ _ _ _ refl h.long ∙ long_alone _ in
    let with_long : Bool → Raw = λ b. record { ext = ext_of m.entry; long = b; bytes = entry_bytes m.entry } in
    cc (h.ext, h.spelled, long)

fig_said : OneList → (r : Reading) (layout : FrameLayout) (frame : List ℕ) (place : ℕ) (figs : List Fig) (fig : Fig)
    (m : Marked) → place < frame_fibs layout → IsFib (fib_at frame place) figs → Contains figs fig → IsInFig fig m
    → IsSaidOf (frame_items (read_frame r layout frame)) m
fig_said one r layout frame place figs (Other given) m below is f h = absurd h
fig_said one r layout frame place figs (Open second es) m below is f h =
    let there = fibs_said r true (fibs_from (frame_fibs layout) 0 frame) (fib_at frame place) figs second es h.0
    (from_contains _ 0 place frame (omega arith) (omega (arith, below))) (is_read one r _ figs is) f h.1 in
    record {
      item = record { first = there.0; next = is_next second; raw = raw_of (second % 32) (is_long second) h.0 };
      inside = there.1;
      next = h.2.next;
      raw = raw_said second h.0 m h.2;
    }

pub row_said : OneList → FibHas32Bytes → (r : Reading) (layout : FrameLayout) (frame : List ℕ) (m : Marked)
    → length frame ≡ 32 * frame_fibs layout → IsHeardInRow frame m
    → IsSaidOf (frame_items (read_frame r layout frame)) m
row_said one size r layout frame m long (place, heard) =
    let inside = heard.inside in
    fig_said one r layout frame place inside.0 inside.1 m (place_below size layout frame place inside.0 long inside.2)
    inside.2 inside.3 inside.4
