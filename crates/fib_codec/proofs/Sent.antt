-- A receiver decodes from a FIB what was written into it.
use Rattle.fib_codec.proofs.Words.{[], ◌<◌, ◌↔◌, ◌∙◌, ◌∷◌, ◌≡◌, ◌⊎◌, AllByRecursion, Bool, Contains, Entry, Fig, Head}
use Rattle.fib_codec.proofs.Words.{HeardIsWritten, IsFib, IsInFib, IsInFig, IsSaid, IsUnder, IsWithin, IsWritten, List}
use Rattle.fib_codec.proofs.Words.{Open, Other, Written, arith, cond, entry_bytes, ext_of, false, fig_bytes, fig_of}
use Rattle.fib_codec.proofs.Words.{head_byte, inl, inr, is_long_entry, map, marked_by, marked_of, refl, subst, suc, sym}
use Rattle.fib_codec.proofs.Words.{true, zero, ℕ}
use Rattle.std.proofs.lemmas.List.Elements.{Contains-append_left, Contains-append_right, Contains-append_cases}
use Rattle.mux_types.specs.Facts.{Marked, marked}
use Rattle.mux_types.specs.declared.entry.Entry.TheVariants.{Service as ServiceOf}
use Rattle.fib_codec.proofs.Lengths.{ext_small}
use Rattle.fib_codec.proofs.Finished.{head_ext, head_long, head_next}
use Rattle.fib_codec.proofs.Determined.{entry_told}
use Rattle.fib_codec.proofs.Uniqueness.{one_fib}

-- ---- members of lists
contains_cases : {T : Type 0} (x : T) (xs : List T) (y : T) → Contains (x ∷ xs) y → (x ≡ y) ⊎ Contains xs y
contains_cases x xs y (zero, lt, here) = inl here
contains_cases x xs y (suc k, lt, here) = inr (k, omega arith, here)

contains_first : {T : Type 0} (x : T) (xs : List T) → Contains (x ∷ xs) x
contains_first x xs = (0, omega arith, refl)

contains_later : {T : Type 0} (x : T) (xs : List T) (y : T) → Contains xs y → Contains (x ∷ xs) y
contains_later x xs y (k, lt, here) = (suc k, omega arith, here)

contains_none : {T : Type 0} (y : T) → Contains [] y → ⊥
contains_none y (k, lt, here) = omega arith

-- ---- the P/D flag is for services alone
long_or : (e : Entry) → (ext_of e ≡ 2) ⊎ (is_long_entry e ≡ false)
long_or (ServiceOf s) = inl refl
long_or _ = inr refl

same_long : (e f : Entry) → ext_of e ≡ ext_of f → (ext_of f ≡ 2 → is_long_entry e ≡ is_long_entry f)
    → is_long_entry e ≡ is_long_entry f
same_long e f ext given =
    elim (long_or f) [
      | inl two ↦ given two
      | inr none ↦ elim (long_or e) [
        | inl two ↦ given (sym ext ∙ two)
        | inr not_one ↦ not_one ∙ sym none
      ]
    ]

under_ext : (head : Head) (e : Entry) → IsUnder head e → head.ext ≡ ext_of e
under_ext head (ServiceOf s) h = h.0
under_ext head _ h = h

under_long : (head : Head) (e : Entry) → IsUnder head e → ext_of e ≡ 2 → head.long ≡ is_long_entry e
under_long head (ServiceOf s) h two = h.1
under_long head _ h two = absurd (omega arith)

-- ---- one entry
written_said : (head : Head) (e : Entry) → head.ext < 4 → IsUnder head e → IsWithin e
    → IsSaid (head_byte head) (entry_bytes e) (marked head.next e)
written_said head e small under within =
    record {
      ext = head_ext head small ∙ under_ext head e under;
      next = head_next head small;
      long = λ two. head_long head small ∙ under_long head e under two;
      spelled = refl;
      within = within;
    }

said_written : (head : Head) (e : Entry) (m : Marked) → head.ext < 4 → IsUnder head e → IsWithin e
    → IsSaid (head_byte head) (entry_bytes e) m → marked head.next e ≡ m
said_written head e m small under within said =
    let ext : ext_of e ≡ ext_of m.entry = sym (under_ext head e under) ∙ sym (head_ext head small) ∙ said.ext in
    let long : is_long_entry e ≡ is_long_entry m.entry =
    same_long e _ ext (λ two. sym (under_long head e under (ext ∙ two)) ∙ sym (head_long head small) ∙ said.long two) in
    let entry : e ≡ m.entry = entry_told e m.entry within said.within ext long said.spelled in
    let next : head.next ≡ m.next = sym (head_next head small) ∙ said.next in
    λ i. record { next = next i; entry = entry i }

-- ---- one FIG
said_in_list : (head : Head) (es : List Entry) (bytes : List ℕ) (m : Marked) → head.ext < 4
    → AllByRecursion (IsUnder head) es → AllByRecursion IsWithin es
    → Contains (map entry_bytes es) bytes → IsSaid (head_byte head) bytes m → Contains (map (marked head.next) es) m
said_in_list head [] bytes m small under within in_list said = absurd (contains_none bytes in_list)
said_in_list head (e ∷ es) bytes m small under within in_list said =
    elim (contains_cases (entry_bytes e) (map entry_bytes es) bytes in_list) [
      | inl here ↦
          let same : marked head.next e ≡ m = said_written head e m small under.0 within.0 (rw (here) said) in
          subst (λ (n : Marked). Contains (map (marked head.next) (e ∷ es)) n) same
          (contains_first (marked head.next e) (map (marked head.next) es))
      | inr later ↦ contains_later (marked head.next e) (map (marked head.next) es) m
          (said_in_list head es bytes m small under.1 within.1 later said)
    ]

moved_later : (head : Head) (e : Entry) (es : List Entry) (m : Marked)
    → (bytes : List ℕ) × Contains (map entry_bytes es) bytes × IsSaid (head_byte head) bytes m
    → (bytes : List ℕ) × Contains (map entry_bytes (e ∷ es)) bytes × IsSaid (head_byte head) bytes m
moved_later head e es m (bytes, in_list, said) =
    (bytes, contains_later (entry_bytes e) (map entry_bytes es) bytes in_list, said)

list_said : (head : Head) (es : List Entry) (m : Marked) → head.ext < 4 → AllByRecursion (IsUnder head) es
    → AllByRecursion IsWithin es
    → Contains (map (marked head.next) es) m → (bytes : List ℕ) × Contains (map entry_bytes es) bytes
    × IsSaid (head_byte head) bytes m
list_said head [] m small under within in_list = absurd (contains_none m in_list)
list_said head (e ∷ es) m small under within in_list =
    elim (contains_cases (marked head.next e) (map (marked head.next) es) m in_list) [
      | inl here ↦ (
        entry_bytes e,
        contains_first (entry_bytes e) (map entry_bytes es),
        subst (λ (n : Marked). IsSaid (head_byte head) (entry_bytes e) n) here
            (written_said head e small under.0 within.0),
      )
      | inr later ↦ moved_later head e es m (list_said head es m small under.1 within.1 later)
    ]

fig_says : (oe : Bool) (w : Written) (m : Marked) → IsWritten w
    → IsInFig (cond oe (Other (fig_bytes w.head w.entries)) (Open (head_byte w.head) (map entry_bytes w.entries))) m
    ↔ Contains (cond oe [] (map (marked w.head.next) w.entries)) m
fig_says true w m h = ((λ none. absurd none), λ none. absurd (contains_none m none))
fig_says false w m h =
    let small = ext_small w.head w.entries h.formed in (
      (λ found. said_in_list w.head w.entries found.0 m small h.formed.under h.within found.1 found.2),
      λ in_list. list_said w.head w.entries m small h.formed.under h.within in_list,
    )

-- ---- all FIGs
figs_say : (figs : List Written) (fig : Fig) (m : Marked) → AllByRecursion IsWritten figs
    → Contains (map fig_of figs) fig → IsInFig fig m
    → Contains (marked_of figs) m
figs_say [] fig m written in_list said = absurd (contains_none fig in_list)
figs_say (w ∷ ws) fig m written in_list said =
    elim (contains_cases (fig_of w) (map fig_of ws) fig in_list) [
      | inl here ↦ Contains-append_left (marked_by w) (marked_of ws) m
          ((fig_says w.head.oe w m written.0).0 (subst (λ (f : Fig). IsInFig f m) (sym here) said))
      | inr later ↦ Contains-append_right (marked_by w) (marked_of ws) m (figs_say ws fig m written.1 later said)
    ]

fig_later : (w : Written) (ws : List Written) (m : Marked) → (fig : Fig) × Contains (map fig_of ws) fig × IsInFig fig m
    → (fig : Fig) × Contains (map fig_of (w ∷ ws)) fig × IsInFig fig m
fig_later w ws m (fig, in_list, said) = (fig, contains_later (fig_of w) (map fig_of ws) fig in_list, said)

figs_said : (figs : List Written) (m : Marked) → AllByRecursion IsWritten figs → Contains (marked_of figs) m
    → (fig : Fig) × Contains (map fig_of figs) fig × IsInFig fig m
figs_said [] m written in_list = absurd (contains_none m in_list)
figs_said (w ∷ ws) m written in_list =
    elim (Contains-append_cases (marked_by w) (marked_of ws) m in_list) [
      | inl here ↦ (fig_of w, contains_first (fig_of w) (map fig_of ws), (fig_says w.head.oe w m written.0).1 here)
      | inr later ↦ fig_later w ws m (figs_said ws m written.1 later)
    ]

fib_says : (bytes : List ℕ) (figs : List Written) (m : Marked) → IsFib bytes (map fig_of figs)
    → (fig : Fig) × Contains (map fig_of figs) fig × IsInFig fig m → IsInFib bytes m
fib_says bytes figs m fib (fig, in_list, said) = (map fig_of figs, fig, fib, in_list, said)

pub heard_is_written : HeardIsWritten
heard_is_written bytes figs written fib m = (
  (λ found. figs_say figs found.1 m written
      (subst (λ (fs : List Fig). Contains fs found.1) (one_fib bytes found.0 (map fig_of figs) found.2 fib) found.3)
      found.4),
  λ in_list. fib_says bytes figs m fib (figs_said figs m written in_list),
)
