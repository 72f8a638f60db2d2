-- A listener hearing the FIGs of some entries hears the entries one after another.
use Rattle.plan_runs.proofs.Words.{[], ◌%◌, ◌++◌, ◌/◌, ◌==◌, ◌∙◌, ◌∷◌, ◌≡◌, Bool, EnsembleInformation, EnsembleIsHeard}
use Rattle.plan_runs.proofs.Words.{EnsembleOf, Entry, IfSome, IsEnsembleInformation, List, Listening, Marked, None}
use Rattle.plan_runs.proofs.Words.{Option, Raw, Some, Written, ap, arith, at_ensemble, bit_of, cond, ensemble_figs}
use Rattle.plan_runs.proofs.Words.{entry_bytes, ext_of, false, fig_of, figs_of, head_byte, head_of, hear_entries}
use Rattle.plan_runs.proofs.Words.{hear_entry, hear_fig, hear_figs, is_long, is_long_entry, is_next, map, marked}
use Rattle.plan_runs.proofs.Words.{raw_entry, raw_of, refl, same_head, true, where_heard, with_entry_first, ℕ}
use Rattle.fib_carousel.proofs.Sharing.{same_head_is}
use Rattle.plan_runs.proofs.Right.{ext_low, flag_le}

abbrev pub hear_marked : List Marked → Listening → Option Listening
hear_marked [] l = Some l
hear_marked (m ∷ ms) l = where_heard (hear_entry m.next (raw_entry m.entry) l) (hear_marked ms)

-- ---- one after another

then_last : (o : Option Listening) (f g : Listening → Option Listening) → ((l : Listening) → f l ≡ g l)
    → where_heard o f ≡ where_heard o g
then_last None f g h = refl
then_last (Some l) f g h = h l

then_nothing : (o : Option Listening) (f : Listening → Option Listening) → ((l : Listening) → f l ≡ Some l)
    → where_heard o f ≡ o
then_nothing None f h = refl
then_nothing (Some l) f h = h l

pub then_joined : (o : Option Listening) (f g h : Listening → Option Listening)
    → ((l : Listening) → where_heard (f l) g ≡ h l) → where_heard (where_heard o f) g ≡ where_heard o h
then_joined None f g h e = refl
then_joined (Some l) f g h e = e l

-- ---- the head of a FIG

flag_is : (b : Bool) → (bit_of b == 1) ≡ b
flag_is true = refl
flag_is false = refl

second_ext : (m : Marked) → head_byte (head_of m) % 32 ≡ ext_of m.entry
second_ext m = omega (arith, ext_low m.entry, flag_le m.next, flag_le (is_long_entry m.entry))

pub second_next : (m : Marked) → is_next (head_byte (head_of m)) ≡ m.next
second_next m =
    let n : head_byte (head_of m) / 128 ≡ bit_of m.next =
    omega (arith, ext_low m.entry, flag_le m.next, flag_le (is_long_entry m.entry)) in
    ap (λ (k : ℕ). k == 1) n ∙ flag_is m.next

second_long : (m : Marked) → is_long (head_byte (head_of m)) ≡ is_long_entry m.entry
second_long m =
    let n : head_byte (head_of m) / 32 % 2 ≡ bit_of (is_long_entry m.entry) =
    omega (arith, ext_low m.entry, flag_le m.next, flag_le (is_long_entry m.entry)) in
    ap (λ (k : ℕ). k == 1) n ∙ flag_is (is_long_entry m.entry)

raw_said : (e : Entry) → raw_of (ext_of e) (is_long_entry e) (entry_bytes e) ≡ raw_entry e
raw_said (EnsembleOf e) = refl
raw_said _ = refl

pub raw_is : (m : Marked) → raw_of (head_byte (head_of m) % 32) (is_long (head_byte (head_of m))) (entry_bytes m.entry)
    ≡ raw_entry m.entry
raw_is m = cc (second_ext m, second_long m, raw_said m.entry)

-- an entry in a FIG with its own head
entry_heard : (m : Marked) (l : Listening)
    → hear_entry (is_next (head_byte (head_of m)))
    (raw_of (head_byte (head_of m) % 32) (is_long (head_byte (head_of m))) (entry_bytes m.entry)) l
    ≡ hear_entry m.next (raw_entry m.entry) l
entry_heard m l = cc (second_next m, raw_is m)

-- ---- FIGs

abbrev under : Marked → List Entry → Written
under m es = record { head = head_of m; entries = es }

fig_more : (m : Marked) (es : List Entry) (l : Listening)
    → hear_fig (fig_of (under m (m.entry ∷ es))) l ≡ where_heard (hear_entry m.next (raw_entry m.entry) l)
    (hear_fig (fig_of (under m es)))
fig_more m es l =
    let second : ℕ = head_byte (head_of m) in
    let rest : List Raw = map (raw_of (second % 32) (is_long second)) (map entry_bytes es) in
    ap (λ (o : Option Listening). where_heard o (hear_entries (is_next second) rest)) (entry_heard m l)
    ∙ then_last (hear_entry m.next (raw_entry m.entry) l) (hear_entries (is_next second) rest)
    (hear_fig (fig_of (under m es))) (λ k. refl)

fig_one : (m : Marked) (l : Listening) → hear_fig (fig_of (under m (m.entry ∷ []))) l
    ≡ hear_entry m.next (raw_entry m.entry) l
fig_one m l = fig_more m [] l ∙ then_nothing (hear_entry m.next (raw_entry m.entry) l) (hear_fig (fig_of (under m [])))
    (λ k. refl)

joined_by : (m : Marked) (f : Written) (fs : List Written) (l : Listening) (b : Bool) → same_head (head_of m) f.head ≡ b
    → hear_figs (map fig_of (cond b ((let w : Written = record { head = f.head; entries = m.entry ∷ f.entries } in w)
    ∷ fs) (under m (m.entry ∷ []) ∷ f ∷ fs))) l
    ≡ where_heard (hear_entry m.next (raw_entry m.entry) l) (hear_figs (map fig_of (f ∷ fs)))
joined_by m f fs l true e =
    let same : head_of m ≡ f.head = same_head_is (head_of m) f.head e in
    let one : hear_fig (fig_of (record { head = f.head; entries = m.entry ∷ f.entries })) l ≡ where_heard
    (hear_entry m.next (raw_entry m.entry) l) (hear_fig (fig_of f)) = rw (← same) (fig_more m f.entries l) in
    ap (λ (o : Option Listening). where_heard o (hear_figs (map fig_of fs))) one
    ∙ then_joined (hear_entry m.next (raw_entry m.entry) l) (hear_fig (fig_of f)) (hear_figs (map fig_of fs))
    (hear_figs (map fig_of (f ∷ fs))) (λ k. refl)
joined_by m f fs l false e =
    ap (λ (o : Option Listening). where_heard o (hear_figs (map fig_of (f ∷ fs)))) (fig_one m l)

joined_heard : (m : Marked) (fs : List Written) (l : Listening)
    → hear_figs (map fig_of (with_entry_first m fs)) l
    ≡ where_heard (hear_entry m.next (raw_entry m.entry) l) (hear_figs (map fig_of fs))
joined_heard m [] l =
    ap (λ (o : Option Listening). where_heard o (hear_figs [])) (fig_one m l)
joined_heard m (f ∷ fs) l = joined_by m f fs l (same_head (head_of m) f.head) refl

pub figs_heard : (ms : List Marked) (l : Listening) → hear_figs (map fig_of (figs_of ms)) l ≡ hear_marked ms l
figs_heard [] l = refl
figs_heard (m ∷ ms) l = joined_heard m _ l ∙ then_last _ _ _ (figs_heard ms)

-- ---- FIG 0/0 before the entries

abbrev pub headed : Option EnsembleInformation → Listening → Listening
headed None l = l
headed (Some e) l = at_ensemble e l

pub first_heard : EnsembleIsHeard → (o : Option EnsembleInformation) → IfSome o IsEnsembleInformation
    → (ms : List Marked) (l : Listening)
    → hear_figs (map fig_of (ensemble_figs o ++ figs_of ms)) l ≡ hear_marked ms (headed o l)
first_heard law None h ms l = figs_heard ms l
first_heard law (Some e) h ms l = cc (fig_one (marked false (EnsembleOf e)) l, law e h, figs_heard ms (at_ensemble e l))
