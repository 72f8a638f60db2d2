-- The walk over FIGs stops where the data bytes are at fault, and only there; so there is at most one fault, and there
-- is one exactly if there are no FIGs.
use Rattle.fib_reader.proofs.Words.{[], ◌%◌, ◌++◌, ◌+◌, ◌-◌, ◌<◌, ◌==◌, ◌∙◌, ◌∷◌, ◌≡◌, ◌≢◌, ◌≤◌, ◌⊎◌, AreWhole, Bool}
use Rattle.fib_reader.proofs.Words.{Crc, Entry, FibFault, Fig, IsBodyFault, IsEntryFault, IsFib, IsFibFault, IsFig}
use Rattle.fib_reader.proofs.Words.{IsFigFault, IsOverrun, LeadsToHeader, List, None, Option, Overrun, Some, ap}
use Rattle.fib_reader.proofs.Words.{append_assoc, arith, body_fault, cond, drop, drop-append_seam, entry_at_fault}
use Rattle.fib_reader.proofs.Words.{eqb-false, eqb-true, false, fig_fault, fig_of_bytes, figs_of_bytes, get_or, inl}
use Rattle.fib_reader.proofs.Words.{inr, is_long, is_open, le-ltb, length, length-append, length-drop, length-take-le}
use Rattle.fib_reader.proofs.Words.{lt-ltb, ltb-false, ltb-true, nat_lt, ne_eqb, or_else, refl, subst, suc, sym, take}
use Rattle.fib_reader.proofs.Words.{take-append-drop, take-append_seam, true, zero, ℕ}
use Rattle.fib_codec.specs.Crc.{IsChecked, bits_of_bytes, check_bits}
use Rattle.fib_reader.specs.FirstFault.{figs_fault}
use Rattle.fib_reader.proofs.EntryFaults.{body_found, body_given}
use Rattle.fib_reader.proofs.FaultSteps.{no_fault_in_nothing}
use Rattle.fib_reader.proofs.FigLists.{fig_header, sound_fig, sound_figs, past_tests, complete_fig, no_fault_twice}

-- a fault of data bytes with a good CRC
abbrev pub IsDataFault : List ℕ → FibFault → Type 0
IsDataFault bytes Crc = ⊥
IsDataFault bytes (Overrun place) = IsOverrun bytes place
IsDataFault bytes (Entry place) = IsEntryFault bytes place

abbrev moved : ℕ → FibFault → FibFault
moved n Crc = Crc
moved n (Overrun place) = Overrun (n + place)
moved n (Entry place) = Entry (n + place)

moved_twice : (k m n : ℕ) (f : FibFault) → k ≡ m + n → moved k f ≡ moved m (moved n f)
moved_twice k m n Crc h = refl
moved_twice k m n (Overrun place) h = let same : k + place ≡ m + (n + place) = omega arith in ap Overrun same
moved_twice k m n (Entry place) h = let same : k + place ≡ m + (n + place) = omega arith in ap Entry same

-- ---- what the walk finds is a fault

stands_on :
    (one rest more : List ℕ) (place header : ℕ) (f : Fig) → IsFig one f → LeadsToHeader rest place header more
    → LeadsToHeader (one ++ rest) (length one + place) header more
stands_on one rest more place header f is h = record {
  front = one ++ h.front;
  figs = f ∷ h.figs;
  split = rw (h.split) (sym (append_assoc one h.front (header ∷ more)));
  whole = (one, h.front, refl, is, h.whole);
  place_is = rw (← h.place_is) (length-append one h.front);
  no_marker = h.no_marker;
}

fig_fault_on :
    (one rest : List ℕ) (place : ℕ) (f : Fig) → IsFig one f → IsFigFault rest place
    → IsFigFault (one ++ rest) (length one + place)
fig_fault_on one rest place f is h =
    let place_is = h.place_is in
    record {
      at = length one + h.at;
      second = h.second;
      body = h.body;
      after = h.after;
      within = h.within;
      stands = stands_on one rest (h.second ∷ (h.body ++ h.after)) h.at (1 + length h.body) f is h.stands;
      short = h.short;
      looked_into = h.looked_into;
      fault = h.fault;
      place_is = omega arith;
    }

fault_on : (one rest : List ℕ) (f : Fig) (e : FibFault) → IsFig one f → IsDataFault rest e
    → IsDataFault (one ++ rest) (moved (length one) e)
fault_on one rest f Crc is h = absurd h
fault_on one rest f (Overrun place) is h = (h.0, h.1, stands_on one rest h.1 place h.0 f is h.2, h.3)
fault_on one rest f (Entry place) is h =
    elim h [
      | inl bare ↦ inl (bare.0, stands_on one rest bare.0 place 0 f is bare.1)
      | inr fault ↦ inr (fig_fault_on one rest place f is fault)
    ]

pub stands_first : (header : ℕ) (rest : List ℕ) → header ≢ 255 → LeadsToHeader (header ∷ rest) 0 header rest
stands_first header rest no_marker =
    record { front = []; figs = []; split = refl; whole = refl; place_is = refl; no_marker = no_marker }

-- a fault of bytes at an offset
abbrev DataFault : ℕ → List ℕ → FibFault → Type 0
DataFault place bytes e = (f : FibFault) × (e ≡ moved place f) × IsDataFault bytes f

body_at_fault :
    (place h s : ℕ) (more : List ℕ) (x : Option ℕ) (e : FibFault) → h ≢ 255 → h ≢ 0 → h ≤ 31
    → h % 32 ≤ suc (length more)
    → is_open s ≡ true → body_fault (s % 32) (is_long s) (place + 2) (take (h - 1) more) ≡ x → entry_at_fault x ≡ Some e
    → DataFault place (h ∷ s ∷ more) e
body_at_fault place h s more None e no_marker positive low fits looked_into is found = absurd (cc)
body_at_fault place h s more (Some at) e no_marker positive low fits looked_into is found =
    let body : List ℕ = take (h - 1) more in
    let after : List ℕ = drop (h - 1) more in
    let inner = body_found (s % 32 == 0) (s % 32) (is_long s) (place + 2) body at refl is in
    let size : length body ≡ h - 1 = length-take-le (h - 1) more (omega arith) in
    let header : h ≡ 1 + length body = omega arith in
    let place_is : at ≡ place + (2 + inner.0) = omega arith in
    let is_header : 1 + length body ≢ 255 = λ e. no_marker (header ∙ e) in (
      Entry (2 + inner.0),
      sym (let both : Some (Entry at) ≡ Some e = found in (cc)) ∙ ap Entry place_is,
      inr (record {
        at = 0;
        second = s;
        body = body;
        after = after;
        within = inner.0;
        stands = record {
          front = [];
          figs = [];
          split = ap (λ n. n ∷ s ∷ more) header ∙ ap (λ t. (1 + length body) ∷ s ∷ t)
              (sym (take-append-drop (h - 1) more));
          whole = refl;
          place_is = refl;
          no_marker = is_header;
        };
        short = omega arith;
        looked_into = looked_into;
        fault = inner.2;
        place_is = omega arith;
      }),
    )

fig_cases :
    (a b c d : Bool) (place h : ℕ) (bs : List ℕ) (e : FibFault) → h ≢ 255 → nat_lt (length bs) (h % 32) ≡ a
    → nat_lt 31 h ≡ b → (h == 0) ≡ c
    → is_open (get_or bs 0 0) ≡ d
    → cond a (Some (Overrun place)) (cond b None (cond c (Some (Entry place)) (cond d
    (entry_at_fault (body_fault (get_or bs 0 0 % 32) (is_long (get_or bs 0 0)) (place + 2) (take (h - 1) (drop 1 bs))))
    None))) ≡ Some e
    → DataFault place (h ∷ bs) e
fig_cases true b c d place h bs e no_marker p q r s found =
    let here : place ≡ place + 0 = omega arith in
    (Overrun 0, sym (cc) ∙ ap Overrun here, (h, bs, stands_first h bs no_marker, ltb-true _ _ p))
fig_cases false true c d place h bs e no_marker p q r s found = absurd (cc)
fig_cases false false true d place h bs e no_marker p q r s found =
    let named : Entry place ≡ e = (cc) in
    let here : place ≡ place + 0 = omega arith in
    let none : h ≡ 0 = eqb-true h 0 r in (
      Entry 0,
      sym named ∙ ap Entry here,
      inl (bs, subst (λ (n : ℕ). LeadsToHeader (h ∷ bs) 0 n bs) none (stands_first h bs no_marker)),
    )
fig_cases false false false true place h [] e no_marker p q r s found =
    let fits : h % 32 ≤ 0 = ltb-false _ _ p in
    let low : h ≤ 31 = ltb-false _ _ q in
    absurd (eqb-false h 0 r (omega arith))
fig_cases false false false true place h (x ∷ more) e no_marker p q r s found =
    body_at_fault place h x more _ e no_marker (eqb-false h 0 r) (ltb-false _ _ q) (ltb-false _ _ p) s refl found
fig_cases false false false false place h bs e no_marker p q r s found = absurd (cc)

fig_found : (place h : ℕ) (bs : List ℕ) (e : FibFault) → h ≢ 255 → fig_fault place h bs ≡ Some e
    → DataFault place (h ∷ bs) e
fig_found place h bs e no_marker found =
    fig_cases (nat_lt (length bs) (h % 32)) (nat_lt 31 h) (h == 0) (is_open (get_or bs 0 0)) place h bs e no_marker refl
    refl refl refl found

figs_or :
    (o : Option FibFault) (n place h : ℕ) (bs : List ℕ) (e : FibFault) → h ≢ 255 → fig_fault place h bs ≡ o
    → or_else o (figs_fault n (place + 1 + h % 32) (drop (h % 32) bs)) ≡ Some e
    → (figs_fault n (place + 1 + h % 32) (drop (h % 32) bs) ≡ Some e
    → DataFault (place + 1 + h % 32) (drop (h % 32) bs) e)
    → DataFault place (h ∷ bs) e
figs_or (Some d) n place h bs e no_marker is found more = fig_found place h bs e no_marker (is ∙ found)
figs_or None n place h bs e no_marker is found more =
    let one = sound_fig place h bs no_marker is in
    let later = more found in
    let piece : List ℕ = h ∷ take (h % 32) bs in
    let size : length (take (h % 32) bs) ≡ h % 32 = length-take-le (h % 32) bs one.0 in
    let far : place + 1 + h % 32 ≡ place + length piece = omega arith in (
      moved (length piece) later.0,
      later.1 ∙ moved_twice (place + 1 + h % 32) place (length piece) later.0 far,
      subst (λ (x : List ℕ). IsDataFault (h ∷ x) (moved (length piece) later.0)) (take-append-drop (h % 32) bs)
          (fault_on piece (drop (h % 32) bs) (fig_of_bytes piece) later.0 one.1 later.2),
    )

figs_at :
    (t : Bool) (n place h : ℕ) (bs : List ℕ) (e : FibFault) → (h == 255) ≡ t
    → cond t None (or_else (fig_fault place h bs) (figs_fault n (place + 1 + h % 32) (drop (h % 32) bs))) ≡ Some e
    → (figs_fault n (place + 1 + h % 32) (drop (h % 32) bs) ≡ Some e
    → DataFault (place + 1 + h % 32) (drop (h % 32) bs) e)
    → DataFault place (h ∷ bs) e
figs_at true n place h bs e is found more = absurd (cc)
figs_at false n place h bs e is found more =
    figs_or (fig_fault place h bs) n place h bs e (eqb-false h 255 is) refl found more

figs_found :
    (n place : ℕ) (bytes : List ℕ) (e : FibFault) → length bytes ≤ n → figs_fault n place bytes ≡ Some e
    → DataFault place bytes e
unfolding figs_fault
figs_found n place [] e enough found =
    let none : figs_fault n place [] ≡ None = no_fault_in_nothing n place in absurd (cc)
figs_found zero place (h ∷ bs) e enough found = absurd (omega arith)
figs_found (suc n) place (h ∷ bs) e enough found =
    let fewer : length (drop (h % 32) bs) ≡ length bs - h % 32 = length-drop (h % 32) bs in
    figs_at (h == 255) n place h bs e refl found
    (λ later. figs_found n (place + 1 + h % 32) (drop (h % 32) bs) e (omega arith) later)

-- ---- if there is a fault, the walk finds it

past_fig :
    (n place : ℕ) (bytes one rest : List ℕ) (f : Fig) → bytes ≡ one ++ rest → IsFig one f
    → figs_fault (suc n) place bytes ≡ figs_fault n (place + length one) rest
unfolding figs_fault
past_fig n place [] one rest f split fig =
    let at = fig_header one f fig in
    let wrong : [] ≡ at.header ∷ (at.after ++ rest) = split ∙ ap (λ x. x ++ rest) at.split in
    absurd (cc)
past_fig n place (b ∷ bs) one rest f split fig =
    let at = fig_header one f fig in
    let header : b ≡ at.header = (cc) in
    let others : bs ≡ at.after ++ rest = (cc) in
    let no_marker : b ≢ 255 = λ e. at.no_marker (sym header ∙ e) in
    let fine : fig_fault place b bs ≡ None = rw (header) (ap (fig_fault place at.header) others
    ∙ complete_fig place at.header at.after rest one f at.split fig) in
    let left : drop (b % 32) bs ≡ rest = rw (header) (ap (drop (at.header % 32)) others
    ∙ ap (λ k. drop k (at.after ++ rest)) (sym at.len) ∙ drop-append_seam at.after rest) in
    let size : length one ≡ suc (length at.after) = ap length at.split in
    let far : place + 1 + b % 32 ≡ place + length one = omega arith in
    rw (ne_eqb b 255 no_marker, fine) (rw (← far) (ap (figs_fault n (place + 1 + b % 32)) left))

-- the walk has reached what follows whole FIGs
record ComesTo (n place : ℕ) (bytes front rest : List ℕ) : Type 0 where
  pub left : ℕ
  pub enough : length rest ≤ left
  pub same : figs_fault n place bytes ≡ figs_fault left (place + length front) rest

past_figs :
    (n place : ℕ) (bytes front rest : List ℕ) (fs : List Fig) → bytes ≡ front ++ rest → AreWhole front fs
    → length bytes ≤ n
    → ComesTo n place bytes front rest
past_figs n place bytes front rest [] split whole enough =
    let same : bytes ≡ rest = split ∙ ap (λ x. x ++ rest) whole in
    let size : length bytes ≡ length rest = ap length same in
    let here : place ≡ place + length front = (let none : length front ≡ 0 = ap length whole in omega arith) in
    record { left = n; enough = omega arith; same = ap (figs_fault n place) same ∙ ap (λ p. figs_fault n p rest) here }
past_figs zero place bytes front rest (f ∷ fs) split whole enough =
    let at = fig_header whole.0 f whole.3 in
    let one : length whole.0 ≡ suc (length at.after) = ap length at.split in
    let size : length front ≡ length whole.0 + length whole.1 = ap length whole.2 ∙ length-append whole.0 whole.1 in
    let all : length bytes ≡ length front + length rest = ap length split ∙ length-append front rest in
    absurd (omega arith)
past_figs (suc n) place bytes front rest (f ∷ fs) split whole enough =
    let one : List ℕ = whole.0 in
    let more : List ℕ = whole.1 in
    let at = fig_header one f whole.3 in
    let some : length one ≡ suc (length at.after) = ap length at.split in
    let all : bytes ≡ one ++ (more ++ rest) = split ∙ ap (λ x. x ++ rest) whole.2 ∙ append_assoc one more rest in
    let size : length bytes ≡ length one + length (more ++ rest) = ap length all ∙ length-append one (more ++ rest) in
    let fronts : length front ≡ length one + length more = ap length whole.2 ∙ length-append one more in
    let later = past_figs n (place + length one) (more ++ rest) more rest fs refl whole.4 (omega arith) in
    record {
      left = later.left;
      enough = later.enough;
      same = past_fig n place bytes one (more ++ rest) f all whole.3 ∙ later.same
          ∙ ap (λ p. figs_fault later.left p rest) (omega arith);
    }

at_header :
    (n place h : ℕ) (rest : List ℕ) (e : FibFault) → h ≢ 255 → fig_fault place h rest ≡ Some e → suc (length rest) ≤ n
    → figs_fault n place (h ∷ rest) ≡ Some e
unfolding figs_fault
at_header zero place h rest e no_marker is enough = absurd (omega arith)
at_header (suc n) place h rest e no_marker is enough = rw (ne_eqb h 255 no_marker, is) refl

found_where_it_stands :
    (bytes : List ℕ) (place h : ℕ) (rest : List ℕ) (e : FibFault) → LeadsToHeader bytes place h rest
    → fig_fault place h rest ≡ Some e
    → figs_fault (length bytes) 0 bytes ≡ Some e
found_where_it_stands bytes place h rest e stands is =
    let comes = past_figs (length bytes) 0 bytes stands.front (h ∷ rest) stands.figs stands.split stands.whole
    (omega arith) in
    let here : 0 + length stands.front ≡ place = (let place_is = stands.place_is in omega arith) in
    cc (comes.same, here, at_header comes.left place h rest e stands.no_marker is comes.enough)

overrun_given : (place h : ℕ) (rest : List ℕ) → length rest < h % 32 → fig_fault place h rest ≡ Some (Overrun place)
overrun_given place h rest few =
    rw (lt-ltb _ _ few) refl

bare_given : (place : ℕ) (rest : List ℕ) → fig_fault place 0 rest ≡ Some (Entry place)
bare_given place rest = rw (le-ltb (length rest) 0 (omega arith)) refl

body_of_fig_given :
    (place second : ℕ) (body after : List ℕ) (within : ℕ) → length body < 31 → is_open second ≡ true
    → IsBodyFault (second % 32) (is_long second) body within
    → fig_fault place (1 + length body) (second ∷ (body ++ after)) ≡ Some (Entry (place + 2 + within))
body_of_fig_given place second body after within few is fault =
    let size : length (body ++ after) ≡ length body + length after = length-append body after in
    let one_less : 1 + length body - 1 ≡ length body = omega arith in
    let cut : take (1 + length body - 1) (body ++ after) ≡ body = rw (one_less) (take-append_seam body after) in
    past_tests place (1 + length body) (second ∷ (body ++ after)) (omega arith) (omega arith) (omega arith)
    ∙ ap (λ t. cond t (entry_at_fault
    (body_fault (second % 32) (is_long second) (place + 2) (take (1 + length body - 1) (body ++ after)))) None) is
    ∙ ap (λ x. entry_at_fault (body_fault (second % 32) (is_long second) (place + 2) x)) cut
    ∙ ap entry_at_fault (body_given (second % 32 == 0) (second % 32) (is_long second) (place + 2) body within refl
    fault)

pub data_given : (bytes : List ℕ) (e : FibFault) → IsDataFault bytes e → figs_fault (length bytes) 0 bytes ≡ Some e
data_given bytes Crc h = absurd h
data_given bytes (Overrun place) h =
    found_where_it_stands bytes place h.0 h.1 (Overrun place) h.2 (overrun_given place h.0 h.1 h.3)
data_given bytes (Entry place) h =
    elim h [
      | inl bare ↦ found_where_it_stands bytes place 0 bare.0 (Entry place) bare.1 (bare_given place bare.0)
      | inr f ↦ found_where_it_stands bytes f.at (1 + length f.body) (f.second ∷ (f.body ++ f.after)) (Entry place)
          f.stands
          (body_of_fig_given f.at f.second f.body f.after f.within f.short f.looked_into f.fault
          ∙ ap (λ n. Some (Entry n)) (sym f.place_is))
    ]

-- ---- the fault of 32 bytes

by_walk : (bytes : List ℕ) (e : FibFault) → IsChecked bytes → IsDataFault (take 30 bytes) e → IsFibFault bytes e
by_walk bytes Crc checked h = absurd h
by_walk bytes _ checked h = (checked, h)

from_start : (f : FibFault) → moved 0 f ≡ f
from_start Crc = refl
from_start (Overrun place) = let same : 0 + place ≡ place = omega arith in ap Overrun same
from_start (Entry place) = let same : 0 + place ≡ place = omega arith in ap Entry same

pub found_is_fault :
    (bytes : List ℕ) (e : FibFault) → IsChecked bytes → figs_fault (length (take 30 bytes)) 0 (take 30 bytes) ≡ Some e
    → IsFibFault bytes e
found_is_fault bytes e checked found =
    let one = figs_found (length (take 30 bytes)) 0 (take 30 bytes) e (omega arith) found in
    by_walk bytes e checked (subst (IsDataFault (take 30 bytes)) (sym (one.1 ∙ from_start one.0)) one.2)

fault_is_found :
    (bytes : List ℕ) (e : FibFault) → IsFibFault bytes e
    → ((e ≡ Crc) × (IsChecked bytes → ⊥))
    ⊎ (IsChecked bytes × (figs_fault (length (take 30 bytes)) 0 (take 30 bytes) ≡ Some e))
fault_is_found bytes Crc h = inl (refl, h)
fault_is_found bytes (Overrun place) h = inr (h.0, data_given (take 30 bytes) (Overrun place) h.1)
fault_is_found bytes (Entry place) h = inr (h.0, data_given (take 30 bytes) (Entry place) h.1)

pub one_fault : (bytes : List ℕ) (one other : FibFault) → IsFibFault bytes one → IsFibFault bytes other → one ≡ other
one_fault bytes one other p q =
    elim (fault_is_found bytes one p) [
      | inl wrong ↦ elim (fault_is_found bytes other q) [
        | inl again ↦ wrong.0 ∙ sym again.0
        | inr right ↦ absurd (wrong.1 right.0)
      ]
      | inr right ↦ elim (fault_is_found bytes other q) [
        | inl wrong ↦ absurd (wrong.1 right.0)
        | inr again ↦ (let both : Some one ≡ Some other = sym right.1 ∙ again.1 in (cc))
      ]
    ]

pub no_fault : (bytes : List ℕ) (figs : List Fig) (fault : FibFault) → IsFib bytes figs → IsFibFault bytes fault → ⊥
no_fault bytes figs fault p q =
    elim (fault_is_found bytes fault q) [
      | inl wrong ↦ wrong.1 p.0
      | inr right ↦ no_fault_twice (length (take 30 bytes)) 0 (take 30 bytes) figs fault p.1 right.1
    ]

same_or_not : (xs ys : List ℕ) → (xs ≡ ys) ⊎ (xs ≡ ys → ⊥)
same_or_not [] [] = inl refl
same_or_not [] (y ∷ ys) = inr (λ e. absurd (cc))
same_or_not (x ∷ xs) [] = inr (λ e. absurd (cc))
same_or_not (x ∷ xs) (y ∷ ys) = heads (x == y) refl (same_or_not xs ys)
  where
    heads : (b : Bool) → (x == y) ≡ b → (xs ≡ ys) ⊎ (xs ≡ ys → ⊥) → (x ∷ xs ≡ y ∷ ys) ⊎ (x ∷ xs ≡ y ∷ ys → ⊥)
    heads false is rest = inr (λ e. eqb-false x y is (cc))
    heads true is rest =
        elim rest [
          | inl tails ↦ inl (rw ((eqb-true x y is), tails) refl)
          | inr apart ↦ inr (λ e. apart (cc))
        ]

figs_or_fault :
    (bytes : List ℕ) (o : Option FibFault) → IsChecked bytes → figs_fault (length (take 30 bytes)) 0 (take 30 bytes) ≡ o
    → ((figs : List Fig) × IsFib bytes figs) ⊎ ((fault : FibFault) × IsFibFault bytes fault)
figs_or_fault bytes None checked is =
    inl (
      figs_of_bytes (take 30 bytes),
      (checked, (sound_figs (length (take 30 bytes)) 0 (take 30 bytes) (omega arith) is).1),
    )
figs_or_fault bytes (Some e) checked is = inr (e, found_is_fault bytes e checked is)

pub either : (bytes : List ℕ) → ((figs : List Fig) × IsFib bytes figs) ⊎ ((fault : FibFault) × IsFibFault bytes fault)
either bytes =
    elim (same_or_not (bits_of_bytes (drop 30 bytes)) (check_bits (take 30 bytes))) [
      | inl checked ↦ figs_or_fault bytes (figs_fault (length (take 30 bytes)) 0 (take 30 bytes)) checked refl
      | inr wrong ↦ inr (Crc, wrong)
    ]
