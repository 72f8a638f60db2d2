-- The lengths of encodings.
use Rattle.fib_codec.proofs.Words.{[], ◌*◌, ◌++◌, ◌+◌, ◌-◌, ◌<◌, ◌∙◌, ◌∷◌, ◌≡◌, ◌≤◌, AllByRecursion, ComponentEntry}
use Rattle.fib_codec.proofs.Words.{Entry, Head, IsFormed, IsUnder, List, Long, None, Option, Short, Sid, Some, ap}
use Rattle.fib_codec.proofs.Words.{append-nil, append_assoc, arith, ca_org_bytes, components_bytes, cond, drop}
use Rattle.fib_codec.proofs.Words.{entries_bytes, entry_bytes, entry_size, flat_map, get_or, is_some, length}
use Rattle.fib_codec.proofs.Words.{length-append, length-take-le, occurrence_bytes, refl, sid_bytes, sid_size, suc, sym}
use Rattle.fib_codec.proofs.Words.{take, take-append-drop, take_more, zero, ℕ}
use Rattle.mux_types.specs.declared.entry.Entry.TheVariants.{Ensemble as EnsembleOf}
use Rattle.mux_types.specs.declared.entry.Entry.TheVariants.{Service as ServiceOf, Packet as PacketOf}

occurrence_len : (o : Option ℕ) → 4 + length (occurrence_bytes o) ≡ cond (is_some o) 5 4
occurrence_len None = refl
occurrence_len (Some low) = refl

ca_org_len : (o : Option ℕ) → 5 + length (ca_org_bytes o) ≡ cond (is_some o) 7 5
ca_org_len None = refl
ca_org_len (Some org) = refl

pub sid_len : (s : Sid) → length (sid_bytes s) ≡ sid_size s
sid_len (Short n) = refl
sid_len (Long n) = refl

pub components_len : (cs : List ComponentEntry) → length (components_bytes cs) ≡ 2 * length cs
components_len [] = refl
components_len (c ∷ cs) = omega (arith, components_len cs)

sid_head : (s : Sid) (rest : List ℕ) → length (sid_bytes s ++ rest) ≡ sid_size s + length rest
sid_head s rest = rw (← sid_len s) (length-append (sid_bytes s) rest)

pub entry_length : (e : Entry) → length (entry_bytes e) ≡ entry_size e
entry_length (EnsembleOf e) = omega (arith, occurrence_len e.occurrence)
entry_length (ServiceOf s) =
    sid_head s.sid _ ∙ omega (arith, components_len s.components)
entry_length (PacketOf p) = omega (arith, ca_org_len p.ca_org)
entry_length _ = refl

-- ---- steps of loops that append
pub AllByRecursion-append : {T : Type 0} (P : T → Type 0) (xs ys : List T) → AllByRecursion P xs → AllByRecursion P ys
    → AllByRecursion P (xs ++ ys)
AllByRecursion-append P [] ys h k = k
AllByRecursion-append P (x ∷ xs) ys h k = (h.0, AllByRecursion-append P xs ys h.1 k)

pub flat_map-append : {X A : Type 0} (f : X → List A) (xs ys : List X) → flat_map f (xs ++ ys) ≡ flat_map f xs
    ++ flat_map f ys
flat_map-append f [] ys = refl
flat_map-append f (x ∷ xs) ys = rw (flat_map-append f xs ys) (sym (append_assoc (f x) (flat_map f xs) (flat_map f ys)))

-- one more encoding after those of the values before
pub spelled_more : {T : Type 0} (f : T → List ℕ) (old : List ℕ) (xs : List T) (i : ℕ) (d : T) → i < length xs
    → (old ++ flat_map f (take i xs)) ++ f (get_or xs i d) ≡ old ++ flat_map f (take (i + 1) xs)
spelled_more f old xs i d h =
    append_assoc old (flat_map f (take i xs)) (f (get_or xs i d))
    ∙ ap (λ t. old ++ t)
    (ap (λ t. flat_map f (take i xs) ++ t) (sym (append-nil (f (get_or xs i d))))
    ∙ sym (flat_map-append f (take i xs) (get_or xs i d ∷ []))
    ∙ ap (flat_map f) (sym (take_more xs i d h)))

-- room for one more component, if there was room for all of them
pub component_fits : (now old : List ℕ) (cs : List ComponentEntry) (i : ℕ) → length old + 2 * length cs ≤ 30
    → i < length cs
    → now ≡ old ++ components_bytes (take i cs) → length now + 2 ≤ 30
component_fits now old cs i room h written =
    let long : length now ≡ length old + length (components_bytes (take i cs)) =
    rw (written) (length-append old (components_bytes (take i cs))) in
    omega (arith, long, length-take-le i cs (omega arith), components_len (take i cs))

-- ---- entries of one FIG
pub AllByRecursion-at : {T : Type 0} (P : T → Type 0) (xs : List T) (i : ℕ) (d : T) → AllByRecursion P xs
    → i < length xs → P (get_or xs i d)
AllByRecursion-at P [] i d h lt = absurd (omega arith)
AllByRecursion-at P (x ∷ xs) zero d h lt = h.0
AllByRecursion-at P (x ∷ xs) (suc i) d h lt = AllByRecursion-at P xs i d h.1 (omega arith)

pub entries_more : (xs : List Entry) (i : ℕ) (d : Entry) → i < length xs
    → length (entries_bytes (take (i + 1) xs)) ≡ length (entries_bytes (take i xs)) + entry_size (get_or xs i d)
entries_more xs i d h =
    rw (← spelled_more entry_bytes [] xs i d h) (rw (← entry_length (get_or xs i d))
    (length-append (entries_bytes (take i xs)) (entry_bytes (get_or xs i d))))

pub entries_part : (xs : List Entry) (i : ℕ) → length (entries_bytes (take i xs)) ≤ length (entries_bytes xs)
entries_part xs i =
    let whole : length (entries_bytes xs) ≡ length (entries_bytes (take i xs)) + length (entries_bytes (drop i xs)) =
    ap (λ ys. length (entries_bytes ys)) (sym (take-append-drop i xs))
    ∙ ap length (flat_map-append entry_bytes (take i xs) (drop i xs))
    ∙ length-append (entries_bytes (take i xs)) (entries_bytes (drop i xs)) in
    omega (arith, whole)

-- room for one more entry, if there was room for all of them
pub entry_fits : (now old : List ℕ) (xs : List Entry) (i : ℕ) (d : Entry) → length old + length (entries_bytes xs) ≤ 30
    → i < length xs
    → now ≡ old ++ entries_bytes (take i xs) → d ≡ get_or xs i d → length now + entry_size d ≤ 30
entry_fits now old xs i d room h written is =
    let same : entry_size d ≡ entry_size (get_or xs i d) = ap entry_size is in
    let long : length now ≡ length old + length (entries_bytes (take i xs)) =
    rw (written) (length-append old (entries_bytes (take i xs))) in
    omega (arith, long, entries_more xs i d h, entries_part xs (i + 1))

-- no room for one more entry, and so none for all of them
pub entry_passes : (xs : List Entry) (i len room more : ℕ) (d : Entry) → i < length xs → d ≡ get_or xs i d
    → len ≡ length (entries_bytes (take i xs)) → more ≡ entry_size d → len ≤ room → room - len < more
    → room < length (entries_bytes xs)
entry_passes xs i len room more d h is counted sized within past =
    let same : entry_size d ≡ entry_size (get_or xs i d) = ap entry_size is in
    omega (arith, entries_more xs i d h, entries_part xs (i + 1))

under_small : (head : Head) (e : Entry) → IsUnder head e → head.ext < 4
under_small head (ServiceOf s) h = omega (arith, h.0)
under_small head _ h = omega arith

some_small : (head : Head) (xs : List Entry) → 0 < length xs → AllByRecursion (IsUnder head) xs → head.ext < 4
some_small head [] h each = absurd (omega arith)
some_small head (x ∷ xs) h each = under_small head x each.0

pub ext_small : (head : Head) (xs : List Entry) → IsFormed head xs → head.ext < 4
ext_small head xs h = some_small head xs h.some h.under
