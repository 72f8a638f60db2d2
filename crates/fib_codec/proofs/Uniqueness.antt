-- Bytes are at most one list of entries, and at most one list of FIGs: the length of each is in its first bytes.
use Rattle.fib_codec.proofs.Words.{[], ◌%◌, ◌++◌, ◌+◌, ◌/◌, ◌∙◌, ◌∷◌, ◌≡◌, ◌≢◌, ◌≤◌, AreEntries, AreFigs, Bool}
use Rattle.fib_codec.proofs.Words.{Fig, IsEntry, IsFig, IsOther, List, OneList, Open, Other, and_from, ap, ap₂, arith}
use Rattle.fib_codec.proofs.Words.{cond, cond_both, ensemble_len, entry_len, eqb, false, get_or, get_or_append_left}
use Rattle.fib_codec.proofs.Words.{inl, inr, is_long, length, length-append, lt-ltb, packet_len, refl, service_len}
use Rattle.fib_codec.proofs.Words.{sub_len, subst, sym, take, true, true≢false, ℕ}

-- ---- lists
-- lists with equal beginnings, with fronts of one length
pub same_front : (xs ys r s : List ℕ) → length xs ≡ length ys → xs ++ r ≡ ys ++ s → (xs ≡ ys) × (r ≡ s)
same_front [] [] r s h e = (refl, e)
same_front (x ∷ xs) (y ∷ ys) r s h e =
    let head : x ≡ y = cc in
    let rest = same_front xs ys r s (omega arith) cc in
    (ap₂ (λ a as'. a ∷ as') head rest.0, rest.1)
same_front _ _ r s h e = cc

-- ---- entries
-- a lower bound of each length, whatever the bytes are
ensemble_least : (bytes : List ℕ) → 4 ≤ ensemble_len bytes
ensemble_least bytes = cond_both (eqb (get_or bytes 2 0 / 64) 0) 4 5 (λ n. 4 ≤ n) (λ _. omega arith) (λ _. omega arith)

sub_least : (bytes : List ℕ) → 3 ≤ sub_len bytes
sub_least bytes = cond_both (eqb (get_or bytes 2 0 / 128) 1) 4 3 (λ n. 3 ≤ n) (λ _. omega arith) (λ _. omega arith)

packet_least : (bytes : List ℕ) → 5 ≤ packet_len bytes
packet_least bytes = cond_both (eqb (get_or bytes 1 0 % 2) 1) 7 5 (λ n. 5 ≤ n) (λ _. omega arith) (λ _. omega arith)

sub_front : (e rest : List ℕ) → sub_len e ≤ length e → sub_len (e ++ rest) ≡ sub_len e
sub_front e rest h = rw (get_or_append_left e rest 0 2 (omega (arith, sub_least e))) refl

service_front : (long : Bool) (e rest : List ℕ) → service_len long e ≤ length e
    → service_len long (e ++ rest) ≡ service_len long e
service_front true e rest h = rw (get_or_append_left e rest 0 4 (omega arith)) refl
service_front false e rest h = rw (get_or_append_left e rest 0 2 (omega arith)) refl

packet_front : (e rest : List ℕ) → packet_len e ≤ length e → packet_len (e ++ rest) ≡ packet_len e
packet_front e rest h = rw (get_or_append_left e rest 0 1 (omega (arith, packet_least e))) refl

-- the length of an entry by the three tests on its extension
chosen_front : (first second third long : Bool) (e rest : List ℕ)
    → cond first (ensemble_len e) (cond second (sub_len e) (cond third (service_len long e) (packet_len e))) ≤ length e
    → cond first (ensemble_len (e ++ rest))
    (cond second (sub_len (e ++ rest)) (cond third (service_len long (e ++ rest)) (packet_len (e ++ rest))))
    ≡ cond first (ensemble_len e) (cond second (sub_len e) (cond third (service_len long e) (packet_len e)))
chosen_front true second third long e rest h = rw (get_or_append_left e rest 0 2 (omega (arith, ensemble_least e))) refl
chosen_front false true third long e rest h = sub_front e rest h
chosen_front false false true long e rest h = service_front long e rest h
chosen_front false false false long e rest h = packet_front e rest h

chosen_least : (first second third long : Bool) (e : List ℕ)
    → 3 ≤ cond first (ensemble_len e) (cond second (sub_len e) (cond third (service_len long e) (packet_len e)))
chosen_least true second third long e = omega (arith, ensemble_least e)
chosen_least false true third long e = sub_least e
chosen_least false false true true e = omega arith
chosen_least false false true false e = omega arith
chosen_least false false false long e = omega (arith, packet_least e)

pub entry_len_append : (ext : ℕ) (long : Bool) (e rest : List ℕ) → entry_len ext long e ≤ length e
    → entry_len ext long (e ++ rest) ≡ entry_len ext long e
entry_len_append ext long e rest h = chosen_front (eqb ext 0) (eqb ext 1) (eqb ext 2) long e rest h

pub some_bytes : (ext : ℕ) (long : Bool) (e : List ℕ) → 3 ≤ entry_len ext long e
some_bytes ext long e = chosen_least (eqb ext 0) (eqb ext 1) (eqb ext 2) long e

pub one_entry : (ext : ℕ) (long : Bool) (e g r s : List ℕ) → IsEntry ext long e → IsEntry ext long g → e ++ r ≡ g ++ s
    → (e ≡ g) × (r ≡ s)
one_entry ext long e g r s h k same =
    let front : entry_len ext long (e ++ r) ≡ entry_len ext long e = entry_len_append ext long e r (omega (arith, h)) in
    let other : entry_len ext long (g ++ s) ≡ entry_len ext long g = entry_len_append ext long g s (omega (arith, k)) in
    same_front e g r s (h ∙ sym front ∙ ap (entry_len ext long) same ∙ other ∙ sym k) same

pub one_entries : (ext : ℕ) (long : Bool) (bytes : List ℕ) (es gs : List (List ℕ))
    → AreEntries ext long bytes es → AreEntries ext long bytes gs → es ≡ gs
one_entries ext long bytes [] [] h k = refl
one_entries ext long bytes [] (g ∷ gs) h (s, e, entry, more) =
    absurd (omega (arith, ap length (sym e ∙ h), length-append g s, some_bytes ext long g, entry))
one_entries ext long bytes (g ∷ gs) [] (s, e, entry, more) k =
    absurd (omega (arith, ap length (sym e ∙ k), length-append g s, some_bytes ext long g, entry))
one_entries ext long bytes (e ∷ es) (g ∷ gs) (r, d, entry, more) (s, d', entry', more') =
    let both = one_entry ext long e g r s entry entry' (sym d ∙ d') in
    let rest = one_entries ext long s es gs (subst (λ (xs : List ℕ). AreEntries ext long xs es) both.1 more) more' in
    ap₂ (λ x xs. x ∷ xs) both.0 rest

-- ---- FIGs
-- a FIG has a header, which is not the end marker and gives the number of bytes that follow
abbrev pub HasHeader : List ℕ → Type 0
HasHeader bytes = (h : ℕ) × (after : List ℕ) × (bytes ≡ h ∷ after) × (h ≢ 255) × (length after ≡ h % 32)

open_header : (second : ℕ) (es : List (List ℕ)) (bytes : List ℕ) → IsFig bytes (Open second es) → HasHeader bytes
open_header second es bytes (body, e, short, looked, given) =
    (1 + length body, second ∷ body, e, (λ same. omega (arith, same)), omega arith)

other_header : (bytes : List ℕ) → IsOther bytes → HasHeader bytes
other_header [] h = elim h [ ]
other_header (x ∷ []) h = (x, [], refl, h.0, sym h.2)
other_header (x ∷ s ∷ body) h = (x, s ∷ body, refl, h.0, omega (arith, h.1))

pub fig_header : (bytes : List ℕ) (f : Fig) → IsFig bytes f → HasHeader bytes
fig_header bytes (Open second es) h = open_header second es bytes h
fig_header bytes (Other given) h = other_header bytes h.1

pub one_front : (a b r s : List ℕ) → HasHeader a → HasHeader b → a ++ r ≡ b ++ s → (a ≡ b) × (r ≡ s)
one_front a b r s (h, after, e, marker, long) (h', after', e', marker', long') same =
    let head : h ≡ h' = cc in
    let both = same_front after after' r s (long ∙ ap (λ n. n % 32) head ∙ sym long') cc in
    (e ∙ ap₂ (λ x xs. x ∷ xs) head both.0 ∙ sym e', both.1)

open_open : (bytes : List ℕ) (second other : ℕ) (es gs : List (List ℕ))
    → IsFig bytes (Open second es) → IsFig bytes (Open other gs) → Open second es ≡ Open other gs
open_open bytes second other es gs (body, e, short, looked, given) (body', e', short', looked', given') =
    let heads : second ≡ other = cc in
    let bodies : body ≡ body' = cc in
    let moved = subst (λ (b : List ℕ). AreEntries (other % 32) (is_long other) b es) bodies
    (subst (λ (n : ℕ). AreEntries (n % 32) (is_long n) body es) heads given.0) in
    ap₂ (λ n xs. Open n xs) heads (one_entries (other % 32) (is_long other) body' es gs moved given'.0)

open_other : (bytes : List ℕ) (second : ℕ) (es : List (List ℕ)) → IsFig bytes (Open second es) → IsOther bytes → ⊥
open_other bytes second es (body, e, short, looked, given) other =
    true≢false (sym (and_from _ _ (lt-ltb _ _ (omega arith)) looked) ∙ (subst (λ (b : List ℕ). IsOther b) e other).2)

pub one_fig : (bytes : List ℕ) (f g : Fig) → IsFig bytes f → IsFig bytes g → f ≡ g
one_fig bytes (Open second es) (Open other gs) h k = open_open bytes second other es gs h k
one_fig bytes (Open second es) (Other given) h k = absurd (open_other bytes second es h k.1)
one_fig bytes (Other given) (Open second es) h k = absurd (open_other bytes second es k h.1)
one_fig bytes (Other given) (Other too) h k = rw (h.0 ∙ sym k.0) refl

nothing_begins : (bytes front rest : List ℕ) → HasHeader front → bytes ≡ front ++ rest → bytes ≡ [] → ⊥
nothing_begins bytes front rest (h, after, d, marker, long) e none =
    cc

marker_begins : (bytes front rest tail : List ℕ) → HasHeader front → bytes ≡ front ++ rest → bytes ≡ 255 ∷ tail → ⊥
marker_begins bytes front rest tail (h, after, d, marker, long) e ends =
    marker cc

no_more : (bytes : List ℕ) (f : Fig) (fs : List Fig) → AreFigs bytes [] → AreFigs bytes (f ∷ fs) → ⊥
no_more bytes f fs (inl none) (front, rest, e, fig, more) = nothing_begins _ _ _ (fig_header _ _ fig) e none
no_more bytes f fs (inr (tail, ends)) (front, rest, e, fig, more) = marker_begins _ _ _ _ (fig_header _ _ fig) e ends

pub one_figs : (bytes : List ℕ) (fs gs : List Fig) → AreFigs bytes fs → AreFigs bytes gs → fs ≡ gs
one_figs bytes [] [] h k = refl
one_figs bytes [] (g ∷ gs) h k = absurd (no_more bytes g gs h k)
one_figs bytes (f ∷ fs) [] h k = absurd (no_more bytes f fs k h)
one_figs bytes (f ∷ fs) (g ∷ gs) (front, rest, e, fig, more) (front', rest', e', fig', more') =
    let both = one_front front front' rest rest' (fig_header front f fig) (fig_header front' g fig') (sym e ∙ e') in
    let others = one_figs rest' fs gs (subst (λ (b : List ℕ). AreFigs b fs) both.1 more) more' in
    ap₂ (λ x xs. x ∷ xs) (one_fig front' f g (subst (λ (b : List ℕ). IsFig b f) both.0 fig) fig') others

pub one_fib : OneList
one_fib bytes figs others h k = one_figs (take 30 bytes) figs others h.1 k.1
