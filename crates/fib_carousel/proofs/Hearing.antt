-- What a receiver decodes from the bytes of a page.
use Rattle.fib_carousel.proofs.Words.{[], ◌%◌, ◌*◌, ◌++◌, ◌+◌, ◌-◌, ◌/◌, ◌<◌, ◌==◌, ◌↔◌, ◌∙◌, ◌∷◌, ◌≡◌, ◌≤◌, ◌⊎◌}
use Rattle.fib_carousel.proofs.Words.{AllByRecursion, AreFibs, AreSendable, Bool, Configuration, Contains}
use Rattle.fib_carousel.proofs.Words.{Contains-append_cases, Contains-append_left, Contains-append_right}
use Rattle.fib_carousel.proofs.Words.{EnsembleInformation, FrameLayout, Head, IfSome, IsConfiguration}
use Rattle.fib_carousel.proofs.Words.{IsEnsembleHeardInRow, IsEnsembleInformation, IsHeardInRow, IsInFib, IsPacking}
use Rattle.fib_carousel.proofs.Words.{IsPageable, IsSome, IsWritten, List, Marked, None, Option, PagesKeepReserve, Some}
use Rattle.fib_carousel.proofs.Words.{Written, ap, append-nil, append_assoc, arith, drop, drop-drop, drop_all, drop_at}
use Rattle.fib_carousel.proofs.Words.{empty_fib, ensemble_figs, entries_where, ext_of, false, fib_at, fib_bytes}
use Rattle.fib_carousel.proofs.Words.{fib_entries, fib_is, fig_bytes, figs_by, figs_bytes, figs_of, filled, first_fib}
use Rattle.fib_carousel.proofs.Words.{flat_map, frame_fibs, head_of, if◌then◌else◌, inl, inr, later_fibs, length}
use Rattle.fib_carousel.proofs.Words.{length-append, length-filled, length-map, length-replicate, map, marked}
use Rattle.fib_carousel.proofs.Words.{marked_of, occurrence_bytes, packing, page_bytes, page_entries, page_figs}
use Rattle.fib_carousel.proofs.Words.{page_set, refl, replicate, reserved_fibs, reserved_figs, same_head, subst, suc}
use Rattle.fib_carousel.proofs.Words.{sym, take, take_at, true, used_fibs, used_figs, valid_is, with_entry_first, zero}
use Rattle.fib_carousel.proofs.Words.{ℕ, each_contains, AllByRecursion-append}
use Rattle.std.proofs.lemmas.Grind.{flat_map-append}
use Rattle.fib_codec.specs.Grammar.{Fig, Open, Other, IsFig, AreFigs, IsValid, IsOurs, fig_of}
use Rattle.fib_codec.proofs.Sent.{heard_is_written}
use Rattle.fib_codec.proofs.Layouts.{layouts_divide}
use Rattle.std.proofs.lemmas.List.FromFn.{length-range_with_len}
use Rattle.mux_types.specs.declared.entry.Entry.TheVariants.{Ensemble as EnsembleOf}
use Rattle.fib_carousel.proofs.Widths.{some_fibs, first_of_page}
use Rattle.fib_carousel.proofs.Least.{of_packing}
use Rattle.fib_carousel.proofs.Pieces.{page_is_fibs}
use Rattle.fib_carousel.proofs.Sharing.{same_head_is, figs_cost, written_of}
use Rattle.fib_carousel.proofs.Sendable.{sendable_page_set}
use Rattle.fib_carousel.proofs.Sent.{written_figs, fib_fits, fib_room}

-- the FIGs of entries contain exactly these entries
joined_says : (m : Marked) (fs : List Written) → AllByRecursion IsOurs fs
    → marked_of (with_entry_first m fs) ≡ m ∷ marked_of fs
joined_says m [] ours = refl
joined_says m (f ∷ fs) ours = by (same_head (head_of m) f.head) refl
  where
    by : (b : Bool) → same_head (head_of m) f.head ≡ b
        → marked_of (with_entry_first m (f ∷ fs)) ≡ m ∷ marked_of (f ∷ fs)
    by true e =
        let next : f.head.next ≡ m.next = ap (λ (g : Head). g.next) (sym (same_head_is (head_of m) f.head e)) in
        let whole : marked_of (written_of f.head (m.entry ∷ f.entries) ∷ fs) ≡ m ∷ marked_of (f ∷ fs) =
        rw (ours.0) (ap (λ (b : Bool). marked b m.entry ∷ (map (marked f.head.next) f.entries ++ marked_of fs)) next) in
        rw e whole
    by false e =
        rw e refl

ours_joined : (m : Marked) (fs : List Written) → AllByRecursion IsOurs fs
    → AllByRecursion IsOurs (with_entry_first m fs)
ours_joined m [] ours = (refl, tt)
ours_joined m (f ∷ fs) ours = by (same_head (head_of m) f.head) refl
  where
    by : (b : Bool) → same_head (head_of m) f.head ≡ b → AllByRecursion IsOurs (with_entry_first m (f ∷ fs))
    by true e = let all : AllByRecursion IsOurs (written_of f.head (m.entry ∷ f.entries) ∷ fs) = (ours.0, ours.1) in
        rw e all
    by false e = let all : AllByRecursion IsOurs (written_of (head_of m) (m.entry ∷ []) ∷ f ∷ fs) = (refl, ours) in
        rw e all

ours_figs : (ms : List Marked) → AllByRecursion IsOurs (figs_of ms)
ours_figs [] = tt
ours_figs (m ∷ ms) = ours_joined m (figs_of ms) (ours_figs ms)

figs_say : (ms : List Marked) → marked_of (figs_of ms) ≡ ms
figs_say [] = refl
figs_say (m ∷ ms) = joined_says m (figs_of ms) (ours_figs ms) ∙ ap (λ xs. m ∷ xs) (figs_say ms)

-- a selection of sendable entries is sendable
pub sendable_where : (test : ℕ → Bool) (ms : List Marked) (ns : List ℕ) → AreSendable ms
    → AreSendable (entries_where test ms ns)
sendable_where test [] ns h = tt
sendable_where test (m ∷ ms) [] h = tt
sendable_where test (m ∷ ms) (n ∷ ns) h = by (test n) (sendable_where test ms ns h.1)
  where
    by : (b : Bool) → AreSendable (entries_where test ms ns)
        → AreSendable (if b then m ∷ entries_where test ms ns else entries_where test ms ns)
    by true again = (h.0, again)
    by false again = again

-- FIG 0/0, if given
ensemble_written : (o : Option EnsembleInformation) → IfSome o IsEnsembleInformation
    → AllByRecursion IsWritten (ensemble_figs o)
ensemble_written None h = tt
ensemble_written (Some e) h = (
  record {
    formed = record { some = omega arith; under = (refl, tt); alone = λ z. refl };
    within = (h, tt);
  },
  tt,
)

ensemble_ours : (o : Option EnsembleInformation) → AllByRecursion IsOurs (ensemble_figs o)
ensemble_ours None = tt
ensemble_ours (Some e) = (refl, tt)

occurrence_low : (o : Option ℕ) → suc (suc (suc (suc (suc (suc (length (occurrence_bytes o ++ [] ++ []))))))) ≤ 7
occurrence_low None = omega arith
occurrence_low (Some low) = omega arith

ensemble_none : (o : Option EnsembleInformation) → o ≡ None → length (figs_bytes (ensemble_figs o)) ≡ 0
ensemble_none None h = refl
ensemble_none (Some e) h = cc

pub ensemble_low : (o : Option EnsembleInformation) → length (figs_bytes (ensemble_figs o)) ≤ 7
ensemble_low None = omega arith
ensemble_low (Some e) = occurrence_low e.occurrence

-- the FIGs of a FIB of a page
pub record Fits (figs : List Written) : Type 0 where
  pub written : AllByRecursion IsWritten figs
  pub ours : AllByRecursion IsOurs figs
  pub short : length (figs_bytes figs) ≤ 30

length-figs_bytes : (xs ys : List Written) → length (figs_bytes (xs ++ ys)) ≡ length (figs_bytes xs)
    + length (figs_bytes ys)
length-figs_bytes [] ys = omega arith
length-figs_bytes (f ∷ xs) ys =
    length-append (fig_bytes f.head f.entries) (figs_bytes (xs ++ ys))
    ∙ omega (arith, length-figs_bytes xs ys, length-append (fig_bytes f.head f.entries) (figs_bytes xs))

fits_in : (layout : FrameLayout) (o : Option EnsembleInformation) (n : ℕ) (ms : List Marked) → IsPageable o ms
    → (IsSome o → n % used_fibs layout ≡ 0) → Fits (ensemble_figs o ++ figs_of (fib_entries layout n ms))
fits_in layout o n ms h first =
    let here : List Marked = fib_entries layout n ms in
    record {
      written = AllByRecursion-append IsWritten (ensemble_figs o) (figs_of here) (ensemble_written o h.ensemble_within)
          (written_figs here (sendable_where (λ m. m == n) ms (packing layout ms) h.entries));
      ours = AllByRecursion-append IsOurs (ensemble_figs o) (figs_of here) (ensemble_ours o) (ours_figs here);
      short = rw (length-figs_bytes (ensemble_figs o) (figs_of here))
          (fib_room layout o n (length (figs_bytes (ensemble_figs o))) (length (figs_bytes (figs_of here)))
          (ensemble_low o) (ensemble_none o) first (rw (figs_cost here) (fib_fits layout ms n h.entries)));
    }

-- the FIBs of a page
each_of : {A B : Type 0} (P : B → Type 0) (f : A → B) → ((x : A) → P (f x)) → (xs : List A)
    → AllByRecursion P (map f xs)
each_of P f h [] = tt
each_of P f h (x ∷ xs) = (h x, each_of P f h xs)

each_replicate : {A : Type 0} (P : A → Type 0) (x : A) → P x → (n : ℕ) → AllByRecursion P (replicate n x)
each_replicate P x h zero = tt
each_replicate P x h (suc n) = (h, each_replicate P x h n)

each_front : {A : Type 0} (P : A → Type 0) (xs ys : List A) → AllByRecursion P (xs ++ ys) → AllByRecursion P xs
each_front P [] ys h = tt
each_front P (x ∷ xs) ys h = (h.0, each_front P xs ys h.1)

pub page_fits : (layout : FrameLayout) (o : Option EnsembleInformation) (k : ℕ) (ms : List Marked) → IsPageable o ms
    → AllByRecursion Fits (page_figs layout o k ms)
page_fits layout o k ms h =
    let first = fits_in layout o (first_fib layout k) ms h (λ _. first_of_page layout k) in
    let other : (n : ℕ) → Fits (figs_of (fib_entries layout n ms)) =
    λ n. fits_in layout None n ms (record { entries = h.entries; ensemble_within = tt }) (λ e. absurd (cc e)) in
    AllByRecursion-append Fits (used_figs layout (packing layout ms) o k ms) (reserved_figs layout)
    (first, each_of Fits (λ n. figs_of (fib_entries layout n ms)) other (later_fibs layout k))
    (each_replicate Fits [] (record { written = tt; ours = tt; short = omega arith }) (reserved_fibs layout))

pub length-fib_bytes : (figs : List Written) → Fits figs → length (fib_bytes figs) ≡ 32
length-fib_bytes figs f =
    length-append (filled (figs_bytes figs)) _
    ∙ omega (arith, length-filled (figs_bytes figs) f.short)

-- FIBs one after another
are_fibs : (all : List (List Written)) → AllByRecursion Fits all → AreFibs all (flat_map fib_bytes all)
are_fibs [] f = refl
are_fibs (figs ∷ rest) f =
    let long = length-fib_bytes figs f.0 in (
      subst (λ (bytes : List ℕ). IsValid bytes (map fig_of figs))
          (sym (take_at (fib_bytes figs) (flat_map fib_bytes rest) 32 long))
          (valid_is figs f.0.written f.0.short f.0.ours),
      subst (λ (bytes : List ℕ). AreFibs rest bytes) (sym (drop_at (fib_bytes figs) (flat_map fib_bytes rest) 32 long))
          (are_fibs rest f.1),
    )

length-fibs : (all : List (List Written)) → AllByRecursion Fits all → length (flat_map fib_bytes all) ≡ 32 * length all
length-fibs [] f = refl
length-fibs (figs ∷ rest) f =
    length-append (fib_bytes figs) (flat_map fib_bytes rest)
    ∙ omega (arith, length-fib_bytes figs f.0, length-fibs rest f.1)

pub length-used_figs : (layout : FrameLayout) (o : Option EnsembleInformation) (k : ℕ) (ms : List Marked)
    → length (used_figs layout (packing layout ms) o k ms) ≡ used_fibs layout
length-used_figs layout o k ms =
    let later : length (map (λ n. figs_of (fib_entries layout n ms)) (later_fibs layout k)) ≡ used_fibs layout - 1 =
    length-map (later_fibs layout k) (λ n. figs_of (fib_entries layout n ms))
    ∙ length-range_with_len (first_fib layout k + 1) (used_fibs layout - 1) in
    omega (arith, later, some_fibs layout)

length-page_figs : (layout : FrameLayout) (o : Option EnsembleInformation) (k : ℕ) (ms : List Marked)
    → length (page_figs layout o k ms) ≡ frame_fibs layout
length-page_figs layout o k ms =
    let reserved : length (reserved_figs layout) ≡ reserved_fibs layout = length-replicate (reserved_fibs layout) [] in
    omega (
      arith,
      length-append (used_figs layout (packing layout ms) o k ms) (reserved_figs layout),
      length-used_figs layout o k ms,
      reserved,
      (layouts_divide layout).0,
    )

pub pages_are_valid : (layout : FrameLayout) (o : Option EnsembleInformation) (k : ℕ) (ms : List Marked)
    → IsPageable o ms → AreFibs (page_figs layout o k ms) (page_bytes layout o k ms)
    × (length (page_bytes layout o k ms) ≡ 32 * frame_fibs layout)
pages_are_valid layout o k ms h = (
  are_fibs (page_figs layout o k ms) (page_fits layout o k ms h),
  length-fibs (page_figs layout o k ms) (page_fits layout o k ms h) ∙ ap (λ n. 32 * n) (length-page_figs layout o k ms),
)

-- the entries in a FIB with such FIGs
fib_says : (figs : List Written) (m : Marked) → Fits figs → IsInFib (fib_bytes figs) m ↔ Contains (marked_of figs) m
fib_says figs m f = heard_is_written (fib_bytes figs) figs f.written (fib_is figs f.written f.short) m

-- there is no entry in no bytes
front_empty : (xs ys : List ℕ) → [] ≡ xs ++ ys → xs ≡ []
front_empty [] ys h = refl
front_empty (x ∷ xs) ys h = cc

no_fig : (fig : Fig) → IsFig [] fig → ⊥
no_fig (Open second es) h = let e = h.1 in cc
no_fig (Other given) h = h.1

nothing_said : (m : Marked) → IsInFib [] m → ⊥
nothing_said m (figs, fig, fib, in_list, said) = by figs in_list fib.1
  where
    by : (fs : List Fig) → Contains fs fig → AreFigs [] fs → ⊥
    by [] inside are = omega (arith, inside.1)
    by (f ∷ fs) inside are = no_fig f (subst (λ (front : List ℕ). IsFig front f) (front_empty are.0 are.1 are.2) are.3)

-- the entries in a sequence of FIBs are those of their FIGs
fib_front : (figs : List Written) (rest : List ℕ) → Fits figs → fib_at (fib_bytes figs ++ rest) 0 ≡ fib_bytes figs
fib_front figs rest f = take_at (fib_bytes figs) rest 32 (length-fib_bytes figs f)

fib_later : (figs : List Written) (rest : List ℕ) (place : ℕ) → Fits figs
    → fib_at (fib_bytes figs ++ rest) (suc place) ≡ fib_at rest place
fib_later figs rest place f =
    ap (λ n. take 32 (drop n (fib_bytes figs ++ rest))) (omega arith)
    ∙ ap (λ xs. take 32 xs) (sym (drop-drop (32 * place) 32 (fib_bytes figs ++ rest)))
    ∙ ap (λ xs. take 32 (drop (32 * place) xs)) (drop_at (fib_bytes figs) rest 32 (length-fib_bytes figs f))

abbrev IsSentIn : List ℕ → Marked → Type 0
IsSentIn bytes m = (place : ℕ) × IsInFib (fib_at bytes place) m

row_heard : (all : List (List Written)) (m : Marked) → AllByRecursion Fits all → (place : ℕ)
    → IsInFib (fib_at (flat_map fib_bytes all) place) m → Contains (flat_map marked_of all) m
row_heard [] m f place h = absurd (nothing_said m (subst (λ (bytes : List ℕ). IsInFib bytes m)
    (ap (λ xs. take 32 xs) (drop_all (32 * place) [] (omega arith))) h))
row_heard (figs ∷ rest) m f zero h =
    Contains-append_left (marked_of figs) (flat_map marked_of rest) m
    ((fib_says figs m f.0).0 (subst (λ (bytes : List ℕ). IsInFib bytes m) (fib_front figs (flat_map fib_bytes rest) f.0)
    h))
row_heard (figs ∷ rest) m f (suc place) h =
    Contains-append_right (marked_of figs) (flat_map marked_of rest) m
    (row_heard rest m f.1 place
    (subst (λ (bytes : List ℕ). IsInFib bytes m) (fib_later figs (flat_map fib_bytes rest) place f.0) h))

row_sent : (all : List (List Written)) (m : Marked) → AllByRecursion Fits all → Contains (flat_map marked_of all) m
    → IsSentIn (flat_map fib_bytes all) m
row_sent [] m f h = absurd (omega (arith, h.1))
row_sent (figs ∷ rest) m f h =
    elim (Contains-append_cases (marked_of figs) (flat_map marked_of rest) m h) [
      | inl here ↦ (
        0,
        subst (λ (bytes : List ℕ). IsInFib bytes m) (sym (fib_front figs (flat_map fib_bytes rest) f.0))
            ((fib_says figs m f.0).1 here),
      )
      | inr later ↦
          let found : IsSentIn (flat_map fib_bytes rest) m = row_sent rest m f.1 later in (
            suc found.0,
            subst (λ (bytes : List ℕ). IsInFib bytes m)
                (sym (fib_later figs (flat_map fib_bytes rest) found.0 f.0)) found.1,
          )
    ]

-- the FIGs of a page contain the ensemble information given and the entries of the page
abbrev ensemble_marked : Option EnsembleInformation → List Marked
ensemble_marked None = []
ensemble_marked (Some e) = marked false (EnsembleOf e) ∷ []

first_says : (o : Option EnsembleInformation) (ms : List Marked)
    → marked_of (ensemble_figs o ++ figs_of ms) ≡ ensemble_marked o ++ ms
first_says None ms = figs_say ms
first_says (Some e) ms = ap (λ xs. marked false (EnsembleOf e) ∷ xs) (figs_say ms)

later_say : (layout : FrameLayout) (ms : List Marked) (ns : List ℕ)
    → flat_map marked_of (map (λ n. figs_of (fib_entries layout n ms)) ns) ≡ flat_map (λ n. fib_entries layout n ms) ns
later_say layout ms [] = refl
later_say layout ms (n ∷ ns) =
    ap (λ xs. xs ++ flat_map marked_of (map (λ n. figs_of (fib_entries layout n ms)) ns))
    (figs_say (fib_entries layout n ms))
    ∙ ap (λ xs. fib_entries layout n ms ++ xs) (later_say layout ms ns)

reserved_say : (n : ℕ) → flat_map marked_of (replicate n []) ≡ []
reserved_say zero = refl
reserved_say (suc n) = reserved_say n

page_says : (layout : FrameLayout) (o : Option EnsembleInformation) (k : ℕ) (ms : List Marked)
    → flat_map marked_of (page_figs layout o k ms) ≡ ensemble_marked o ++ page_entries layout k ms
page_says layout o k ms =
    let first : List Marked = fib_entries layout (first_fib layout k) ms in
    let used : List (List Written) = used_figs layout (packing layout ms) o k ms in
    flat_map-append marked_of used (reserved_figs layout)
    ∙ ap (λ xs. flat_map marked_of used ++ xs) (reserved_say (reserved_fibs layout))
    ∙ append-nil (flat_map marked_of used)
    ∙ ap (λ xs. xs ++ flat_map marked_of (map (λ n. figs_of (fib_entries layout n ms)) (later_fibs layout k)))
    (first_says o first)
    ∙ ap (λ xs. (ensemble_marked o ++ first) ++ xs) (later_say layout ms (later_fibs layout k))
    ∙ append_assoc (ensemble_marked o) first (flat_map (λ n. fib_entries layout n ms) (later_fibs layout k))
    ∙ ap (λ xs. ensemble_marked o ++ xs) (sym (page_is_fibs layout ms k))

in_page : (layout : FrameLayout) (o : Option EnsembleInformation) (k : ℕ) (ms : List Marked) (m : Marked)
    → IsPageable o ms → IsSentIn (page_bytes layout o k ms) m → Contains (ensemble_marked o) m
    ⊎ Contains (page_entries layout k ms) m
in_page layout o k ms m h (place, inside) =
    Contains-append_cases (ensemble_marked o) (page_entries layout k ms) m
    (subst (λ (xs : List Marked). Contains xs m) (page_says layout o k ms)
    (row_heard (page_figs layout o k ms) m (page_fits layout o k ms h) place inside))

of_page : (layout : FrameLayout) (o : Option EnsembleInformation) (k : ℕ) (ms : List Marked) (m : Marked)
    → IsPageable o ms → Contains (ensemble_marked o ++ page_entries layout k ms) m
    → IsSentIn (page_bytes layout o k ms) m
of_page layout o k ms m h inside =
    row_sent (page_figs layout o k ms) m (page_fits layout o k ms h)
    (subst (λ (xs : List Marked). Contains xs m) (sym (page_says layout o k ms)) inside)

organized : (layout : FrameLayout) (k : ℕ) (ms : List Marked) (m : Marked) → AreSendable ms
    → Contains (page_entries layout k ms) m → 1 ≤ ext_of m.entry
organized layout k ms m h inside =
    (each_contains _ _ m (sendable_where (λ n. n / used_fibs layout == k) ms _ h) inside).organization

ensemble_is : (o : Option EnsembleInformation) (m : Marked) → Contains (ensemble_marked o) m → (e : EnsembleInformation)
    × (o ≡ Some e) × (m ≡ marked false (EnsembleOf e))
ensemble_is None m inside = absurd (omega (arith, inside.1))
ensemble_is (Some e) m (zero, lt, is) = (e, refl, sym is)
ensemble_is (Some e) m (suc i, lt, is) = absurd (omega (arith, lt))

pub pages_are_heard : (layout : FrameLayout) (o : Option EnsembleInformation) (k : ℕ) (ms : List Marked)
    → IsPageable o ms → (m : Marked) → IsHeardInRow (page_bytes layout o k ms) m ↔ Contains (page_entries layout k ms) m
pages_are_heard layout o k ms h m = (
  λ heard.
      elim (in_page layout o k ms m h (heard.0, heard.1.inside)) [
        | inl first ↦
            absurd (omega (arith, ap (λ (n : Marked). ext_of n.entry) (ensemble_is o m first).2, heard.1.organization))
        | inr here ↦ here
      ],
  λ here.
      let found = of_page _ o k ms m h (Contains-append_right (ensemble_marked o) (page_entries layout k ms) m here) in
      (found.0, record { organization = organized layout k ms m h.entries here; inside = found.1 }),
)

pub ensemble_is_heard : (layout : FrameLayout) (o : Option EnsembleInformation) (k : ℕ) (ms : List Marked)
    → IsPageable o ms → (next : Bool) (e : EnsembleInformation) → IsEnsembleHeardInRow (page_bytes layout o k ms) next e
    ↔ ((next ≡ false) × (o ≡ Some e))
ensemble_is_heard layout o k ms h next e = (
  λ heard.
      elim (in_page layout o k ms (marked next (EnsembleOf e)) h (heard.0, heard.1)) [
        | inl first ↦
            let found = ensemble_is o (marked next (EnsembleOf e)) first in
            let same : e ≡ found.0 = cc (ap (λ (n : Marked). n.entry) found.2) in
            ((ap (λ (n : Marked). n.next) found.2), found.1 ∙ ap (λ (x : EnsembleInformation). Some x) (sym same))
        | inr here ↦ absurd (omega (arith, organized layout k ms (marked next (EnsembleOf e)) h.entries here))
      ],
  λ told.
      let marks : ensemble_marked o ≡ marked next (EnsembleOf e) ∷ [] =
      ap (λ (x : Option EnsembleInformation). ensemble_marked x) told.1
      ∙ ap (λ (b : Bool). marked b (EnsembleOf e) ∷ []) (sym told.0) in
      let inside : Contains (ensemble_marked o) (marked next (EnsembleOf e)) = rw marks (0, omega arith, refl) in
      let found = of_page layout o k ms (marked next (EnsembleOf e)) h
      (Contains-append_left (ensemble_marked o) (page_entries layout k ms) (marked next (EnsembleOf e)) inside) in
      (found.0, found.1),
)

pub page_sets_are_pageable : (c : Configuration) (n : Option Configuration) (o : Option EnsembleInformation)
    → IsConfiguration c → IfSome n IsConfiguration → IfSome o IsEnsembleInformation → IsPageable o (page_set c n)
page_sets_are_pageable c n o h next e = record { entries = sendable_page_set c n h next; ensemble_within = e }

-- the bytes of a page, if its entries are given by an equal list
pub valid_page : (layout : FrameLayout) (o : Option EnsembleInformation) (k : ℕ) (ms known : List Marked)
    (bytes : List ℕ) → known ≡ ms → IsPageable o known → bytes ≡ page_bytes layout o k known
    → AreFibs (page_figs layout o k ms) bytes
valid_page layout o k ms known bytes e h b =
    subst (λ (xs : List Marked). AreFibs (page_figs layout o k xs) bytes) e
    (subst (λ (xs : List ℕ). AreFibs (page_figs layout o k known) xs) (sym b) (pages_are_valid layout o k known h).0)

pub packed_page : (layout : FrameLayout) (o : Option EnsembleInformation) (k : ℕ) (ms : List Marked) (bytes : List ℕ)
    → AreFibs (page_figs layout o k ms) bytes → (ns : List ℕ) → IsPacking layout ms ns
    → AreFibs (figs_by layout ns o k ms) bytes
packed_page layout o k ms bytes valid ns p =
    subst (λ (numbers : List ℕ). AreFibs (figs_by layout numbers o k ms) bytes)
    (of_packing layout (λ (numbers : List ℕ). numbers) ms ns p) valid

-- the FIBs after those that carry FIGs
fib_in_rest : (all : List (List Written)) (rest : List ℕ) (place : ℕ) → AllByRecursion Fits all
    → fib_at (flat_map fib_bytes all ++ rest) (length all + place) ≡ fib_at rest place
fib_in_rest [] rest place f = let same : 0 + place ≡ place = omega arith in ap (λ n. fib_at rest n) same
fib_in_rest (figs ∷ all) rest place f =
    ap (λ n. fib_at ((fib_bytes figs ++ flat_map fib_bytes all) ++ rest) n) (omega arith)
    ∙ ap (λ xs. fib_at xs (suc (length all + place))) (append_assoc (fib_bytes figs) (flat_map fib_bytes all) rest)
    ∙ fib_later figs (flat_map fib_bytes all ++ rest) (length all + place) f.0
    ∙ fib_in_rest all rest place f.1

empty_at : (count place : ℕ) → place < count → fib_at (flat_map fib_bytes (replicate count [])) place ≡ empty_fib
empty_at zero place few = absurd (omega (arith, few))
empty_at (suc count) zero few =
    fib_front [] (flat_map fib_bytes (replicate count [])) (record { written = tt; ours = tt; short = omega arith })
empty_at (suc count) (suc place) few =
    fib_later [] (flat_map fib_bytes (replicate count [])) place
    (record { written = tt; ours = tt; short = omega arith })
    ∙ empty_at count place (omega (arith, few))

pub pages_keep_reserve : PagesKeepReserve
pages_keep_reserve layout o k ms h n from to =
    let used : List (List Written) = used_figs layout (packing layout ms) o k ms in
    let all : AllByRecursion Fits used = each_front Fits used (reserved_figs layout) (page_fits layout o k ms h) in
    let at : n ≡ length used + (n - used_fibs layout) = omega (arith, length-used_figs layout o k ms, from) in
    ap (λ xs. fib_at xs n) (flat_map-append fib_bytes used (reserved_figs layout))
    ∙ ap (λ i. fib_at (flat_map fib_bytes used ++ flat_map fib_bytes (reserved_figs layout)) i) at
    ∙ fib_in_rest used (flat_map fib_bytes (reserved_figs layout)) (n - used_fibs layout) all
    ∙ empty_at (reserved_fibs layout) (n - used_fibs layout) (omega (arith, from, to, (layouts_divide layout).0))
