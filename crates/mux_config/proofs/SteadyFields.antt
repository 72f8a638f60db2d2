-- Reading a field is stable: what is read, and any fault but missing bytes, is the same whatever bytes follow.
use Rattle.mux_config.proofs.Words.{[], ◌++◌, ◌+◌, ◌>>=◌, ◌∙◌, ◌∷◌, ◌≡◌, ◌≤◌, Bool, Err, Field, List, Ok, Order, Reads}
use Rattle.mux_config.proofs.Words.{RecordFault, Short, Width, ap, arith, byte_at, byte_len, byte_within, cond, drop}
use Rattle.mux_config.proofs.Words.{drop-append-le, false, flag_at, from_be_bytes, judged, le-ltb, length}
use Rattle.mux_config.proofs.Words.{length-append, ltb, ltb-false, number_at, place, refl, refuse, sid_of_kind, subst}
use Rattle.mux_config.proofs.Words.{suc, sym, take, take-append-le, true, u16_in_range, w16, w32, zero, ℕ}
use Rattle.mux_config.specs.FieldReading.{protection_at, sid_at, component_of, component_at}

-- ---- readings of more bytes

-- the second reading has these bytes in addition: it reads what the first one reads, and has the fault of the first one
-- unless that is missing bytes
abbrev pub Goes : {T : Type 0} → List ℕ → Reads T → Reads T → Type 0
Goes more (Ok x) r = r ≡ Ok (x.0, x.1 ++ more)
Goes more (Err Short) r = Unit {0}
Goes more (Err (Field p)) r = r ≡ Err (Field p)
Goes more (Err Order) r = r ≡ Err Order

pub goes_bind : {A B : Type 0} (more : List ℕ) (r s : Reads A) (k l : A × List ℕ → Reads B) → Goes more r s
    → ((x : A) (rest : List ℕ) → Goes more (k (x, rest)) (l (x, rest ++ more))) → Goes more (r >>= k) (s >>= l)
goes_bind more (Ok x) s k l h f = subst (λ t. Goes more (k x) (t >>= l)) (sym h) (f x.0 x.1)
goes_bind more (Err Short) s k l h f = tt
goes_bind more _ s k l h f = ap (λ t. t >>= l) h

pub goes_fault : (T : Type 0) (more : List ℕ) (f g : RecordFault) → f ≡ g → Goes {T = T} more (Err f) (Err g)
goes_fault T more Short g e = tt
goes_fault T more _ g e = ap Err (sym e)

pub goes_refuse : {T : Type 0} (more : List ℕ) (test : Bool) (f g : RecordFault) (k l : Reads T) → f ≡ g → Goes more k l
    → Goes more (refuse test f >>= λ _. k) (refuse test g >>= λ _. l)
goes_refuse more true f g k l e h = goes_fault _ more f g e
goes_refuse more false f g k l e h = h

pub place_same : (total : ℕ) (bytes more : List ℕ) → place total bytes ≡ place (total + length more) (bytes ++ more)
place_same total bytes more = omega (arith, length-append bytes more)

pub field_same : (total : ℕ) (bytes more : List ℕ) → Field (place total bytes)
    ≡ Field (place (total + length more) (bytes ++ more))
field_same total bytes more = ap Field (place_same total bytes more)

-- ---- numbers

pub goes_byte : (bytes more : List ℕ) → Goes more (byte_at bytes) (byte_at (bytes ++ more))
goes_byte [] more = tt
goes_byte (b ∷ rest) more = refl

number_by : (w : Width) (bytes more : List ℕ) (t : Bool) → ltb (length bytes) (byte_len w) ≡ t
    → Goes more (cond t (Err Short) (Ok (from_be_bytes w (take (byte_len w) bytes), drop (byte_len w) bytes)))
    (number_at w (bytes ++ more))
number_by w bytes more true e = tt
number_by w bytes more false e =
    let enough : byte_len w ≤ length bytes = ltb-false _ _ e in
    let still = le-ltb _ _ (omega (arith, enough, length-append bytes more)) in
    ap (λ (t : Bool). cond t (Err Short)
    (Ok (from_be_bytes w (take (byte_len w) (bytes ++ more)), drop (byte_len w) (bytes ++ more)))) still
    ∙ ap (λ (xs : List ℕ). Ok (from_be_bytes w xs, drop (byte_len w) (bytes ++ more)))
    (take-append-le (byte_len w) bytes more enough)
    ∙ ap (λ (xs : List ℕ). Ok (from_be_bytes w (take (byte_len w) bytes), xs))
    (drop-append-le (byte_len w) bytes more enough)

pub goes_number : (w : Width) (bytes more : List ℕ) → Goes more (number_at w bytes) (number_at w (bytes ++ more))
goes_number w bytes more = number_by w bytes more (ltb (length bytes) (byte_len w)) refl

judged_by : (more : List ℕ) (at by : ℕ) (n : ℕ × List ℕ) (t u : Bool) → at ≡ by
    → Goes more (cond t (Err (Field at)) (cond u (Err (Field at)) (Ok n)))
    (cond t (Err (Field by)) (cond u (Err (Field by)) (Ok (n.0, n.1 ++ more))))
judged_by more at by n false false e = refl
judged_by more at by n _ _ e = goes_fault _ more (Field at) (Field by) (ap Field e)

pub goes_judged : (more : List ℕ) (at by low high : ℕ) (n : ℕ) (rest : List ℕ) → at ≡ by
    → Goes more (judged at low high (n, rest)) (judged by low high (n, rest ++ more))
goes_judged more at by low high n rest e = judged_by more at by (n, rest) (ltb n low) (ltb high n) e

pub goes_byte_within : (total low high : ℕ) (bytes more : List ℕ)
    → Goes more (byte_within total low high bytes) (byte_within (total + length more) low high (bytes ++ more))
goes_byte_within total low high bytes more =
    goes_bind more (byte_at bytes) (byte_at (bytes ++ more)) (judged (place total bytes) low high)
    (judged (place (total + length more) (bytes ++ more)) low high)
    (goes_byte bytes more) (λ n rest. goes_judged more _ _ low high n rest (place_same total bytes more))

pub goes_word_within : (total low high : ℕ) (bytes more : List ℕ)
    → Goes more (u16_in_range total low high bytes) (u16_in_range (total + length more) low high (bytes ++ more))
goes_word_within total low high bytes more =
    goes_bind more (number_at w16 bytes) (number_at w16 (bytes ++ more)) (judged (place total bytes) low high)
    (judged (place (total + length more) (bytes ++ more)) low high)
    (goes_number w16 bytes more) (λ n rest. goes_judged more _ _ low high n rest (place_same total bytes more))

pub goes_flag : (total : ℕ) (bytes more : List ℕ) → Goes more (flag_at total bytes)
    (flag_at (total + length more) (bytes ++ more))
goes_flag total bytes more = goes_bind more _ _ _ _ (goes_byte_within total 0 1 bytes more) (λ n rest. refl)

-- ---- protection profiles, SIds and components

pub goes_protection : (total : ℕ) (bytes more : List ℕ)
    → Goes more (protection_at total bytes) (protection_at (total + length more) (bytes ++ more))
unfolding protection_at
goes_protection total bytes more =
    goes_bind more _ _ _ _ (goes_byte_within total 0 1 bytes more) (λ set rest.
    goes_bind more _ _ _ _ (goes_byte_within total 1 4 rest more) (λ level last. refl))

goes_sid_kind : (kind : ℕ) (bytes more : List ℕ) → Goes more (sid_of_kind kind bytes) (sid_of_kind kind (bytes ++ more))
goes_sid_kind zero bytes more = goes_bind more _ _ _ _ (goes_number w16 bytes more) (λ n rest. refl)
goes_sid_kind (suc k) bytes more = goes_bind more _ _ _ _ (goes_number w32 bytes more) (λ n rest. refl)

pub goes_sid : (total : ℕ) (bytes more : List ℕ) → Goes more (sid_at total bytes)
    (sid_at (total + length more) (bytes ++ more))
unfolding sid_at
goes_sid total bytes more = goes_bind more _ _ _ _ (goes_byte_within total 0 1 bytes more)
    (λ kind rest. goes_sid_kind kind rest more)

goes_component_of : (total at by tmid : ℕ) (bytes more : List ℕ) → at ≡ by
    → Goes more (component_of total at tmid bytes) (component_of (total + length more) by tmid (bytes ++ more))
unfolding component_of
goes_component_of total at by (suc (suc zero)) bytes more e = goes_fault _ more (Field at) (Field by) (ap Field e)
goes_component_of total at by (suc (suc (suc zero))) bytes more e =
    goes_bind more _ _ _ _ (goes_word_within total 0 4095 bytes more) (λ scid rest. refl)
goes_component_of total at by (suc (suc (suc (suc k)))) bytes more e = goes_fault _ more _ _ (ap Field e)
goes_component_of total at by _ bytes more e =
    goes_bind more _ _ _ _ (goes_byte_within total 0 63 bytes more) (λ ty rest.
    goes_bind more _ _ _ _ (goes_byte_within total 0 63 rest more) (λ sub last. refl))

pub goes_component : (total : ℕ) (bytes more : List ℕ)
    → Goes more (component_at total bytes) (component_at (total + length more) (bytes ++ more))
unfolding component_at
goes_component total bytes more =
    goes_bind more _ _ _ _ (goes_byte bytes more) (λ tmid rest.
    goes_component_of total _ _ tmid rest more (place_same total bytes more))
