-- Successive entries with the same head in one FIG, from the front.
use Rattle.fib_carousel.proofs.Words.{[], ◌&&◌, ◌+◌, ◌==◌, ◌∙◌, ◌∷◌, ◌≡◌, Bool, Entry, Head, List, Marked, None}
use Rattle.fib_carousel.proofs.Words.{Written, ap, arith, entry_length, eqb-true, false, figs_bytes, figs_of, figs_size}
use Rattle.fib_carousel.proofs.Words.{head_of, if◌then◌else◌, length, length-append, refl, run_of, same_flag, same_head}
use Rattle.fib_carousel.proofs.Words.{size_of, sym, true, with_entry_first, ℕ, and_parts}

-- only equal heads are the same
same_flag_is : (a b : Bool) → same_flag a b ≡ true → a ≡ b
same_flag_is true true h = refl
same_flag_is true false h = absurd (cc h)
same_flag_is false true h = absurd (cc h)
same_flag_is false false h = refl

pub same_fields : (g h : Head) → g.next ≡ h.next → g.oe ≡ h.oe → g.long ≡ h.long → g.ext ≡ h.ext → g ≡ h
same_fields g h next oe long ext =
    ap (λ (x : Bool). let r : Head = record { next = x; oe = g.oe; long = g.long; ext = g.ext } in r) next
    ∙ ap (λ (x : Bool). let r : Head = record { next = h.next; oe = x; long = g.long; ext = g.ext } in r) oe
    ∙ ap (λ (x : Bool). let r : Head = record { next = h.next; oe = h.oe; long = x; ext = g.ext } in r) long
    ∙ ap (λ (x : ℕ). let r : Head = record { next = h.next; oe = h.oe; long = h.long; ext = x } in r) ext

pub same_head_is : (g h : Head) → same_head g h ≡ true → g ≡ h
same_head_is g h s =
    let three = and_parts (same_flag g.next h.next && same_flag g.oe h.oe && same_flag g.long h.long) (g.ext == h.ext)
    s in
    let two = and_parts (same_flag g.next h.next && same_flag g.oe h.oe) (same_flag g.long h.long) three.0 in
    let one = and_parts (same_flag g.next h.next) (same_flag g.oe h.oe) two.0 in
    same_fields g h (same_flag_is g.next h.next one.0) (same_flag_is g.oe h.oe one.1) (same_flag_is g.long h.long two.1)
    (eqb-true g.ext h.ext three.1)

-- the first FIG has the run at the front
abbrev pub written_of : Head → List Entry → Written
written_of h es = record { head = h; entries = es }

-- what follows the run at the front
abbrev pub after_run : Head → List Marked → List Marked
after_run head [] = []
after_run head (m ∷ ms) = if same_head head (head_of m) then after_run head ms else m ∷ ms

pub figs_front : (m : Marked) (ms : List Marked) → figs_of (m ∷ ms)
    ≡ written_of (head_of m) (m.entry ∷ run_of (head_of m) ms) ∷ figs_of (after_run (head_of m) ms)
figs_front m [] = refl
figs_front m (n ∷ ns) =
    ap (λ fs. with_entry_first m fs) (figs_front n ns)
    ∙ front (same_head (head_of m) (head_of n)) refl (figs_front n ns)
  where
    front : (b : Bool) → same_head (head_of m) (head_of n) ≡ b
        → figs_of (n ∷ ns) ≡ written_of (head_of n) (n.entry ∷ run_of (head_of n) ns)
        ∷ figs_of (after_run (head_of n) ns)
        → with_entry_first m (written_of (head_of n) (n.entry ∷ run_of (head_of n) ns)
        ∷ figs_of (after_run (head_of n) ns))
        ≡ written_of (head_of m) (m.entry ∷ run_of (head_of m) (n ∷ ns)) ∷ figs_of (after_run (head_of m) (n ∷ ns))
    front true h again =
        let whole : written_of (head_of n) (m.entry ∷ n.entry ∷ run_of (head_of n) ns)
        ∷ figs_of (after_run (head_of n) ns)
        ≡ written_of (head_of m) (m.entry ∷ n.entry ∷ run_of (head_of m) ns) ∷ figs_of (after_run (head_of m) ns) =
        ap (λ (g : Head). written_of g (m.entry ∷ n.entry ∷ run_of g ns) ∷ figs_of (after_run g ns))
        (sym (same_head_is (head_of m) (head_of n) h)) in
        rw h whole
    front false h again =
        rw h (ap (λ fs. written_of (head_of m) (m.entry ∷ []) ∷ fs) (sym again))

-- the FIGs take the bytes that their entries cost
joined_length : (b : Bool) (m : Marked) (h : Head) (es : List Entry) (fs : List Written)
    → length (figs_bytes (if b then written_of h (m.entry ∷ es) ∷ fs else written_of (head_of m) (m.entry ∷ [])
    ∷ written_of h es ∷ fs))
    ≡ (if b then size_of m else 2 + size_of m) + length (figs_bytes (written_of h es ∷ fs))
joined_length true m h es fs = simp length-append (omega (arith, entry_length m.entry))
joined_length false m h es fs = simp length-append (omega (arith, entry_length m.entry))

shared_cost : (b : Bool) (one other rest : ℕ) → (if b then one else 2 + one) + (2 + other + rest) ≡ 2 + one
    + ((if b then other else 2 + other) + rest)
shared_cost true one other rest = omega arith
shared_cost false one other rest = omega arith

pub figs_cost : (ms : List Marked) → length (figs_bytes (figs_of ms)) ≡ figs_size None ms
figs_cost [] = refl
figs_cost (m ∷ []) = simp length-append (omega (arith, entry_length m.entry))
figs_cost (m ∷ (n ∷ ns)) =
    let first = ap (λ fs. length (figs_bytes fs)) (sym (figs_front n ns)) ∙ (figs_cost (n ∷ ns)) in
    ap (λ fs. length (figs_bytes (with_entry_first m fs))) (figs_front n ns) ∙ joined_length _ m _ _ _ ∙ ap
    (λ k. (if same_head (head_of m) (head_of n) then size_of m else 2 + size_of m) + k) first ∙ shared_cost _ _ _ _
