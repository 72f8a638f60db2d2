-- FIG 0/0 and other entries, in the bytes of a frame and among its entries.
use Rattle.stream_laws.proofs.Words.{[], ◌%◌, ◌*◌, ◌++◌, ◌+◌, ◌<◌, ◌∙◌, ◌∷◌, ◌≡◌, ◌≤◌, AllByRecursion, AreEntries}
use Rattle.stream_laws.proofs.Words.{AreFibBytes, AreFigs, Bool, Contains, Contains-append_cases, Contains-append_left}
use Rattle.stream_laws.proofs.Words.{Contains-append_right, EnsembleInformation, EnsembleIsHeard, Entry, EntryIsSpelled}
use Rattle.stream_laws.proofs.Words.{Fib, FibHas32Bytes, Fig, Head, IsByte, IsCounted, IsEnsembleHeardInRow}
use Rattle.stream_laws.proofs.Words.{IsEnsembleInformation, IsEntry, IsFib, IsFibBytes, IsFig, IsInFig, IsSaid, IsUnder}
use Rattle.stream_laws.proofs.Words.{IsWithin, Item, List, None, OneList, Open, Other, Raw, Reading, Reads, Some, ap}
use Rattle.stream_laws.proofs.Words.{arith, cases_lt, contains_cases, contains_first, contains_later, contains_none}
use Rattle.stream_laws.proofs.Words.{drop-append-add, drop_all, each_contains, ensemble_bytes, ensemble_in}
use Rattle.stream_laws.proofs.Words.{ensemble_of_item, entries_in, entry_bytes, eq-eqb, eqb-true, false, fib_at}
use Rattle.stream_laws.proofs.Words.{fib_items, fibs_items, fig_items, figs_items, frame_items, get_or, inl, inr}
use Rattle.stream_laws.proofs.Words.{is_ensemble, is_long, is_next, items_of, length, length-append, map, mapped_from}
use Rattle.stream_laws.proofs.Words.{mapped_to, raw_of, refl, row_of, subst, suc, sym, take, take-append_seam, true}
use Rattle.stream_laws.proofs.Words.{zero, ℕ}
use Rattle.mux_types.specs.declared.entry.Entry.TheVariants.{Ensemble as EnsembleOf, Service as ServiceOf}
use Rattle.stream_laws.proofs.Clean.{all_left, all_right}

-- ---- the FIBs of a row

pub at_place : (fibs : List (List ℕ)) (place : ℕ) (d : List ℕ) → AreFibBytes fibs → place < length fibs
    → fib_at (row_of fibs) place ≡ get_or fibs place d
at_place [] place d all lt = absurd (omega (arith, lt))
at_place (f ∷ fs) zero d all lt =
    ap (λ n. take n (f ++ row_of fs)) (sym all.0.0) ∙ take-append_seam f (row_of fs)
at_place (f ∷ fs) (suc p) d all lt =
    let far : 32 * suc p ≡ length f + 32 * p = omega arith in
    cc (far, drop-append-add f (row_of fs) (32 * p), at_place fs p d all.1 (omega (arith, lt)))

row_length : (fibs : List (List ℕ)) → AreFibBytes fibs → length (row_of fibs) ≡ 32 * length fibs
row_length [] all = refl
row_length (f ∷ fs) all =
    length-append f (row_of fs) ∙ omega (arith, row_length fs all.1)

past_end : (fibs : List (List ℕ)) (place : ℕ) → AreFibBytes fibs → length fibs ≤ place → fib_at (row_of fibs) place ≡ []
past_end fibs place all le =
    ap (take 32) (drop_all (32 * place) (row_of fibs) (let len = row_length fibs all in omega (arith, len, le)))

pub in_row : FibHas32Bytes → (fibs : List (List ℕ)) (place : ℕ) (figs : List Fig) → AreFibBytes fibs
    → IsFib (fib_at (row_of fibs) place) figs → Contains fibs (fib_at (row_of fibs) place)
in_row size fibs place figs all is = elim (cases_lt place (length fibs)) [
  | inl lt ↦ (place, lt, sym (at_place fibs place (fib_at (row_of fibs) place) all lt))
  | inr ge ↦ (let none : 0 ≡ 32 = ap length (sym (past_end fibs place all ge))
      ∙ size (fib_at (row_of fibs) place) figs is in absurd (omega (arith, none)))
]

-- ---- an entry, and the FIB that has it

pub record IsFrom (r : Reading) (fibs : List (List ℕ)) (i : Item) : Type 0 where
  pub fib : List ℕ
  pub figs : List Fig
  pub second : ℕ
  pub es : List (List ℕ)
  pub bytes : List ℕ
  pub inside : Contains fibs fib
  pub read : r.read fib ≡ Some figs
  pub fig_in : Contains figs (Open second es)
  pub entry_in : Contains es bytes
  pub raw_is : raw_of (second % 32) (is_long second) bytes ≡ i.raw
  pub next_is : is_next second ≡ i.next

record InFigs (figs : List Fig) (i : Item) : Type 0 where
  second : ℕ
  es : List (List ℕ)
  bytes : List ℕ
  fig_in : Contains figs (Open second es)
  entry_in : Contains es bytes
  raw_is : raw_of (second % 32) (is_long second) bytes ≡ i.raw
  next_is : is_next second ≡ i.next

figs_later : (f : Fig) (fs : List Fig) (i : Item) → InFigs fs i → InFigs (f ∷ fs) i
figs_later f fs i h = record {
  second = h.second;
  es = h.es;
  bytes = h.bytes;
  fig_in = contains_later f fs (Open h.second h.es) h.fig_in;
  entry_in = h.entry_in;
  raw_is = h.raw_is;
  next_is = h.next_is;
}

abbrev pub item_of : Bool → Bool → Raw → Item
item_of first next raw = record { first = first; next = next; raw = raw }

in_fig : (first : Bool) (f : Fig) (fs : List Fig) (i : Item) → Contains (fig_items first f) i → InFigs (f ∷ fs) i
in_fig first (Open second es) fs i h =
    let one = mapped_to (item_of first (is_next second)) (entries_in (Open second es)) i h in
    let two = mapped_to (raw_of (second % 32) (is_long second)) es one.0 one.1 in
    record {
      second = second;
      es = es;
      bytes = two.0;
      fig_in = contains_first (Open second es) fs;
      entry_in = two.1;
      raw_is = two.2 ∙ ap (λ (j : Item). j.raw) one.2;
      next_is = ap (λ (j : Item). j.next) one.2;
    }
in_fig first (Other given) fs i h = absurd (contains_none i h)

in_figs : (first : Bool) (fs : List Fig) (i : Item) → Contains (figs_items first fs) i → InFigs fs i
in_figs first [] i h = absurd (contains_none i h)
in_figs first (f ∷ fs) i h = elim (Contains-append_cases (fig_items first f) (figs_items false fs) i h) [
  | inl here ↦ in_fig first f fs i here
  | inr later ↦ figs_later f fs i (in_figs false fs i later)
]

from_later : (r : Reading) (fib : List ℕ) (fibs : List (List ℕ)) (i : Item) → IsFrom r fibs i → IsFrom r (fib ∷ fibs) i
from_later r fib fibs i h = record {
  fib = h.fib;
  figs = h.figs;
  second = h.second;
  es = h.es;
  bytes = h.bytes;
  inside = contains_later fib fibs h.fib h.inside;
  read = h.read;
  fig_in = h.fig_in;
  entry_in = h.entry_in;
  raw_is = h.raw_is;
  next_is = h.next_is;
}

from_first : (r : Reading) (first : Bool) (fib : List ℕ) (fibs : List (List ℕ)) (i : Item) (read : Fib)
    → r.read fib ≡ read → Contains (fib_items first read) i → IsFrom r (fib ∷ fibs) i
from_first r first fib fibs i None e h = absurd (contains_none i h)
from_first r first fib fibs i (Some figs) e h =
    let one = in_figs first figs i h in
    record {
      fib = fib;
      figs = figs;
      second = one.second;
      es = one.es;
      bytes = one.bytes;
      inside = contains_first fib fibs;
      read = e;
      fig_in = one.fig_in;
      entry_in = one.entry_in;
      raw_is = one.raw_is;
      next_is = one.next_is;
    }

from_fibs : (r : Reading) (first : Bool) (fibs : List (List ℕ)) (i : Item)
    → Contains (fibs_items first (map r.read fibs)) i → IsFrom r fibs i
from_fibs r first [] i h = absurd (contains_none i h)
from_fibs r first (fib ∷ fibs) i h =
    elim (Contains-append_cases (fib_items first (r.read fib)) (fibs_items false (map r.read fibs)) i h) [
      | inl here ↦ from_first r first fib fibs i (r.read fib) refl here
      | inr later ↦ from_later r fib fibs i (from_fibs r false fibs i later)
    ]

pub item_from : (r : Reading) (fibs : List (List ℕ)) (i : Item) → Contains (frame_items (map r.read fibs)) i
    → IsFrom r fibs i
item_from r fibs i h = from_fibs r true fibs i h

pub read_fib : (r : Reading) (fib : List ℕ) (figs : List Fig) → r.read fib ≡ Some figs → IsFib fib figs
read_fib r fib figs e = subst (Reads fib) e (r.right fib)

-- ---- an entry of a FIB is an entry of the frame

fig_said : (first next : Bool) (raw : Raw) (raws : List Raw) → Contains raws raw
    → Contains (items_of first next raws) (item_of first next raw)
fig_said first next raw raws h = mapped_from (item_of first next) raws raw h

figs_said : (first : Bool) (figs : List Fig) (second : ℕ) (es : List (List ℕ)) (bytes : List ℕ)
    → Contains figs (Open second es) → Contains es bytes
    → (b : Bool) × Contains (figs_items first figs)
    (item_of b (is_next second) (raw_of (second % 32) (is_long second) bytes))
figs_said first [] second es bytes h e = absurd (contains_none (Open second es) h)
figs_said first (f ∷ fs) second es bytes h e = elim (contains_cases f fs (Open second es) h) [
  | inl same ↦ (
    first,
    subst (λ (g : Fig). Contains (fig_items first g ++ figs_items false fs)
        (item_of first (is_next second) (raw_of (second % 32) (is_long second) bytes))) (sym same)
        (Contains-append_left (fig_items first (Open second es)) (figs_items false fs)
        (item_of first (is_next second) (raw_of (second % 32) (is_long second) bytes))
        (fig_said first (is_next second) (raw_of (second % 32) (is_long second) bytes) (entries_in (Open second es))
        (mapped_from (raw_of (second % 32) (is_long second)) es bytes e))),
  )
  | inr more ↦ (let there = figs_said false fs second es bytes more e in (
    there.0,
    Contains-append_right (fig_items first f) (figs_items false fs)
        (item_of there.0 (is_next second) (raw_of (second % 32) (is_long second) bytes)) there.1,
  ))
]

pub fibs_said : (r : Reading) (first : Bool) (fibs : List (List ℕ)) (fib : List ℕ) (figs : List Fig) (second : ℕ)
    (es : List (List ℕ)) (bytes : List ℕ)
    → Contains fibs fib → r.read fib ≡ Some figs → Contains figs (Open second es) → Contains es bytes
    → (b : Bool) × Contains (fibs_items first (map r.read fibs))
    (item_of b (is_next second) (raw_of (second % 32) (is_long second) bytes))
fibs_said r first [] fib figs second es bytes inside read f e = absurd (contains_none fib inside)
fibs_said r first (g ∷ gs) fib figs second es bytes inside read f e = elim (contains_cases g gs fib inside) [
  | inl same ↦ (let there = figs_said first figs second es bytes f e in
      let is : Some figs ≡ r.read g = sym read ∙ ap r.read (sym same) in (
        there.0,
        Contains-append_left (fib_items first (r.read g)) (fibs_items false (map r.read gs))
            (item_of there.0 (is_next second) (raw_of (second % 32) (is_long second) bytes))
            (subst (λ (x : Fib). Contains (fib_items first x)
            (item_of there.0 (is_next second) (raw_of (second % 32) (is_long second) bytes))) is there.1),
      ))
  | inr more ↦ (let there = fibs_said r false gs fib figs second es bytes more read f e in (
    there.0,
    Contains-append_right (fib_items first (r.read g)) (fibs_items false (map r.read gs))
        (item_of there.0 (is_next second) (raw_of (second % 32) (is_long second) bytes)) there.1,
  ))
]

read_as : OneList → (r : Reading) (bytes : List ℕ) (figs : List Fig) → IsFib bytes figs → (read : Fib)
    → r.read bytes ≡ read → Reads bytes read → r.read bytes ≡ Some figs
read_as one r bytes figs is None e h = absurd (h figs is)
read_as one r bytes figs is (Some found) e h = e ∙ ap Some (one bytes found figs h is)

pub is_read : OneList → (r : Reading) (bytes : List ℕ) (figs : List Fig) → IsFib bytes figs → r.read bytes ≡ Some figs
is_read one r bytes figs is = read_as one r bytes figs is (r.read bytes) refl (r.right bytes)

-- an entry in a FIB of the row
pub said_in : FibHas32Bytes → OneList → (r : Reading) (fibs : List (List ℕ)) (place : ℕ) (figs : List Fig) (second : ℕ)
    (es : List (List ℕ)) (bytes : List ℕ) → AreFibBytes fibs
    → IsFib (fib_at (row_of fibs) place) figs → Contains figs (Open second es) → Contains es bytes
    → (b : Bool) × Contains (frame_items (map r.read fibs))
    (item_of b (is_next second) (raw_of (second % 32) (is_long second) bytes))
said_in size one r fibs place figs second es bytes all is f e =
    let fib : List ℕ = fib_at (row_of fibs) place in
    fibs_said r true fibs fib figs second es bytes (in_row size fibs place figs all is) (is_read one r fib figs is) f e

-- ---- a FIG, and an entry of it

pub each_take : {X : Type 0} (P : X → Type 0) (n : ℕ) (xs : List X) → AllByRecursion P xs → AllByRecursion P (take n xs)
each_take P (suc n) (x ∷ xs) all = (all.0, each_take P n xs all.1)
each_take P _ _ all = tt

pub record IsFigOf (f : Fig) : Type 0 where
  pub bytes : List ℕ
  pub is : IsFig bytes f
  pub small : AllByRecursion IsByte bytes

fig_among : (bytes : List ℕ) (figs : List Fig) (f : Fig) → AreFigs bytes figs → AllByRecursion IsByte bytes
    → Contains figs f → IsFigOf f
fig_among bytes [] f are small h = absurd (contains_none f h)
fig_among bytes (g ∷ gs) f are small h =
    let both : AllByRecursion IsByte (are.0 ++ are.1) = subst (AllByRecursion IsByte) are.2 small in
    elim (contains_cases g gs f h) [
      | inl same ↦ record {
        bytes = are.0;
        is = subst (IsFig are.0) same are.3;
        small = all_left IsByte are.0 are.1 both;
      }
      | inr more ↦ fig_among are.1 gs f are.4 (all_right IsByte are.0 are.1 both) more
    ]

pub fig_of_fib : (fib : List ℕ) (figs : List Fig) (f : Fig) → IsFib fib figs → IsFibBytes fib → Contains figs f
    → IsFigOf f
fig_of_fib fib figs f is bytes h = fig_among (take 30 fib) figs f is.1 (each_take IsByte 30 fib bytes.1) h

entry_among : (ext : ℕ) (long : Bool) (bytes : List ℕ) (es : List (List ℕ)) (e : List ℕ) → AreEntries ext long bytes es
    → AllByRecursion IsByte bytes → Contains es e
    → IsEntry ext long e × AllByRecursion IsByte e
entry_among ext long bytes [] e are small h = absurd (contains_none e h)
entry_among ext long bytes (x ∷ xs) e are small h =
    let both : AllByRecursion IsByte (x ++ are.0) = subst (AllByRecursion IsByte) are.1 small in
    elim (contains_cases x xs e h) [
      | inl same ↦ (
        subst (IsEntry ext long) same are.2,
        subst (AllByRecursion IsByte) same (all_left IsByte x are.0 both),
      )
      | inr more ↦ entry_among ext long are.0 xs e are.3 (all_right IsByte x are.0 both) more
    ]

-- the bytes of a FIG 0/0
pub record IsEnsembleBytes (bytes : List ℕ) : Type 0 where
  pub whole : IsEntry 0 false bytes
  pub counted : IsCounted bytes
  pub small : AllByRecursion IsByte bytes

pub ensemble_among : (second : ℕ) (es : List (List ℕ)) (e : List ℕ) → IsFigOf (Open second es) → second % 32 ≡ 0
    → Contains es e → IsEnsembleBytes e
ensemble_among second es e f ext h =
    let small = subst (AllByRecursion IsByte) (sym (sym f.is.1)) f.small in
    let one = entry_among (second % 32) (is_long second) f.is.0 es e f.is.4.0 small.1.1 h in
    let alone = f.is.4.1 ext in
    let same : alone.0 ≡ e = elim (contains_cases _ [] e (subst (λ (xs : List (List ℕ)). Contains xs e) alone.1 h))
    [ inl s ↦ s | inr none ↦ absurd (contains_none e none) ] in
    record {
      whole = subst (λ (n : ℕ). IsEntry n (is_long second) e) ext one.0;
      counted = subst IsCounted same alone.2;
      small = one.1;
    }

-- ---- FIG 0/0

-- the laws of FIBs that are used
pub record FibLaws : Type 0 where
  pub one : OneList
  pub size : FibHas32Bytes
  pub spelled : EntryIsSpelled
  pub ensemble : EnsembleIsHeard

pub fib_laws : OneList → FibHas32Bytes → EntryIsSpelled → EnsembleIsHeard → FibLaws
fib_laws one size spelled ensemble = record { one = one; size = size; spelled = spelled; ensemble = ensemble }

-- ---- ensemble information

abbrev bare : List ℕ → Raw
bare bytes = record { ext = 0; long = false; bytes = bytes }

record IsEnsembleSpelled (bytes : List ℕ) : Type 0 where
  information : EnsembleInformation
  within : IsEnsembleInformation information
  spelled : ensemble_bytes information ≡ bytes

abbrev plain_head : Head
plain_head = record { next = false; oe = false; long = false; ext = 0 }

of_spelled : (bytes : List ℕ) (e : Entry) → IsUnder plain_head e → IsWithin e → entry_bytes e ≡ bytes
    → IsEnsembleSpelled bytes
of_spelled bytes (EnsembleOf e) under within is = record { information = e; within = within; spelled = is }
of_spelled bytes (ServiceOf s) under within is = (let wrong : 0 ≡ 2 = under.0 in absurd (omega (arith, wrong)))
of_spelled bytes _ under within is = absurd (omega (arith, under))

-- the bytes of a FIG 0/0 are those of its content
pub record IsInformation (bytes : List ℕ) : Type 0 where
  pub within : IsEnsembleInformation (ensemble_in (record { ext = 0; long = false; bytes = bytes }))
  pub spelled : bytes ≡ ensemble_bytes (ensemble_in (record { ext = 0; long = false; bytes = bytes }))

pub information : FibLaws → (bytes : List ℕ) → IsEnsembleBytes bytes → IsInformation bytes
information laws bytes h =
    let found = laws.spelled plain_head bytes (omega arith) h.small h.whole (λ e. h.counted) in
    let one = of_spelled bytes found.0 found.1 found.2 found.3 in
    let heard = ap (λ bs. ensemble_in (bare bs)) (sym one.spelled) ∙ laws.ensemble one.information one.within in
    record {
      within = subst IsEnsembleInformation (sym heard) one.within;
      spelled = sym one.spelled ∙ ap ensemble_bytes (sym heard);
    }

-- ---- from the entries to the bytes

pub header_heard : FibLaws → (r : Reading) (fibs : List (List ℕ)) (i : Item) → AreFibBytes fibs → is_ensemble i ≡ true
    → Contains (frame_items (map r.read fibs)) i
    → IsEnsembleHeardInRow (row_of fibs) i.next (ensemble_of_item i)
header_heard laws r fibs i all e h =
    let from = item_from r fibs i h in
    let is_fib : IsFib from.fib from.figs = read_fib r from.fib from.figs from.read in
    let here = at_place fibs from.inside.0 from.fib all from.inside.1 ∙ from.inside.2 in
    let ext : from.second % 32 ≡ 0 = ap (λ (x : Raw). x.ext) from.raw_is ∙ (eqb-true i.raw.ext 0 e) in
    let bytes_is : from.bytes ≡ i.raw.bytes = ap (λ (x : Raw). x.bytes) from.raw_is in
    let fine = ensemble_among _ _ _ (fig_of_fib _ _ _ is_fib (each_contains _ _ _ all from.inside) from.fig_in) ext
    from.entry_in in
    let says = information laws from.bytes fine in
    let same : ensemble_in (bare from.bytes) ≡ ensemble_of_item i = ap (λ bs. ensemble_in (bare bs)) bytes_is in
    let said : IsSaid from.second from.bytes (record { next = i.next; entry = EnsembleOf (ensemble_of_item i) }) =
    record {
      ext = ext;
      next = from.next_is;
      long = λ two. absurd (omega (arith, two));
      spelled = says.spelled ∙ ap ensemble_bytes same;
      within = subst IsEnsembleInformation same says.within;
    } in (
      from.inside.0,
      (
        from.figs,
        Open from.second from.es,
        subst (λ (b : List ℕ). IsFib b from.figs) (sym here) is_fib,
        from.fig_in,
        (from.bytes, from.entry_in, said),
      ),
    )

-- ---- from the bytes to the entries

pub record IsHeaderSaid (r : Reading) (fibs : List (List ℕ)) (e : EnsembleInformation) : Type 0 where
  pub item : Item
  pub inside : Contains (frame_items (map r.read fibs)) item
  pub ensemble : is_ensemble item ≡ true
  pub says : ensemble_of_item item ≡ e

header_in : FibLaws → (r : Reading) (fibs : List (List ℕ)) (place : ℕ) (figs : List Fig) (fig : Fig) (next : Bool)
    (e : EnsembleInformation) → AreFibBytes fibs
    → IsFib (fib_at (row_of fibs) place) figs → Contains figs fig
    → IsInFig fig (record { next = next; entry = EnsembleOf e }) → IsHeaderSaid r fibs e
header_in laws r fibs place figs (Other given) next e all is f h = absurd h
header_in laws r fibs place figs (Open second es) next e all is f h =
    let said = said_in laws.size laws.one r fibs place figs second es h.0 all is f h.1 in
    record {
      item = record { first = said.0; next = is_next second; raw = raw_of (second % 32) (is_long second) h.0 };
      inside = said.1;
      ensemble = eq-eqb (second % 32) 0 h.2.ext;
      says = (ap (λ bs. ensemble_in (bare bs)) h.2.spelled ∙ laws.ensemble e h.2.within);
    }

pub header_said : FibLaws → (r : Reading) (fibs : List (List ℕ)) (next : Bool) (e : EnsembleInformation)
    → AreFibBytes fibs → IsEnsembleHeardInRow (row_of fibs) next e → IsHeaderSaid r fibs e
header_said laws r fibs next e all h = header_in laws r fibs h.0 h.1.0 h.1.1 next e all h.1.2 h.1.3 h.1.4
