-- The offset of a field at fault is that of one of the bytes read.
use Rattle.mux_config.proofs.Words.{[], ◌<◌, ◌>>=◌, ◌∷◌, ◌≤◌, Bool, Err, Field, List, Ok, Reads, RecordFault, Short}
use Rattle.mux_config.proofs.Words.{Width, arith, byte_at, byte_len, byte_within, cond, drop, false, flag_at}
use Rattle.mux_config.proofs.Words.{from_be_bytes, judged, length, length-drop, ltb, number_at, place, refuse}
use Rattle.mux_config.proofs.Words.{sid_of_kind, suc, take, true, u16_in_range, w16, w32, zero, ℕ}
use Rattle.mux_config.specs.FieldReading.{protection_at, sid_at, component_of, component_at}

-- the offset in a fault is below `total`
abbrev pub IsPlacedIn : ℕ → RecordFault → Type 0
IsPlacedIn total (Field at) = at < total
IsPlacedIn total _ = Unit {0}

-- a reading of some of `total` bytes leaves no more than those, and the offset of its fault is below `total`
abbrev pub Placed : {T : Type 0} → ℕ → Reads T → Type 0
Placed total (Ok x) = length x.1 ≤ total
Placed total (Err e) = IsPlacedIn total e

pub placed_bind : {A B : Type 0} (total : ℕ) (r : Reads A) (f : A × List ℕ → Reads B) → Placed total r
    → ((x : A) (rest : List ℕ) → length rest ≤ total → Placed total (f (x, rest))) → Placed total (r >>= f)
placed_bind total (Ok x) f here there = there x.0 x.1 here
placed_bind total (Err e) f here there = here

pub placed_refuse : {T : Type 0} (total : ℕ) (test : Bool) (fault : RecordFault) (k : Reads T) → IsPlacedIn total fault
    → Placed total k → Placed total (refuse test fault >>= λ _. k)
placed_refuse total true fault k within rest = within
placed_refuse total false fault k within rest = rest

-- ---- numbers

pub placed_byte : (total : ℕ) (bytes : List ℕ) → length bytes ≤ total → Placed total (byte_at bytes)
placed_byte total [] left = tt
placed_byte total (b ∷ rest) left = omega (arith, left)

number_by : (total : ℕ) (w : Width) (bytes : List ℕ) (t : Bool) → length bytes ≤ total
    → Placed total (cond t (Err Short) (Ok (from_be_bytes w (take (byte_len w) bytes), drop (byte_len w) bytes)))
number_by total w bytes true left = tt
number_by total w bytes false left = omega (arith, left, length-drop (byte_len w) bytes)

pub placed_number : (total : ℕ) (w : Width) (bytes : List ℕ) → length bytes ≤ total → Placed total (number_at w bytes)
placed_number total w bytes left = number_by total w bytes (ltb (length bytes) (byte_len w)) left

-- a u16 that is read, and what is read after it, if the u16 may be at fault at its offset
pub placed_word : {B : Type 0} (total : ℕ) (bytes : List ℕ) (f : ℕ × List ℕ → Reads B) → length bytes ≤ total
    → (place total bytes < total → (n : ℕ) (rest : List ℕ) → length rest ≤ total → Placed total (f (n, rest)))
    → Placed total (number_at w16 bytes >>= f)
placed_word total [] f left next = tt
placed_word total (b ∷ rest) f left next =
    placed_bind total (number_at w16 (b ∷ rest)) f (placed_number total w16 (b ∷ rest) left)
    (next (omega (arith, left)))

judged_by : (total at : ℕ) (n : ℕ × List ℕ) (t u : Bool) → at < total → length n.1 ≤ total
    → Placed total (cond t (Err (Field at)) (cond u (Err (Field at)) (Ok n)))
judged_by total at n false false within left = left
judged_by total at n _ _ within left = within

pub placed_judged : (total at low high n : ℕ) (rest : List ℕ) → at < total → length rest ≤ total
    → Placed total (judged at low high (n, rest))
placed_judged total at low high n rest within left = judged_by total at (n, rest) (ltb n low) (ltb high n) within left

pub placed_byte_within : (total low high : ℕ) (bytes : List ℕ) → length bytes ≤ total
    → Placed total (byte_within total low high bytes)
placed_byte_within total low high [] left = tt
placed_byte_within total low high (b ∷ rest) left =
    placed_judged total (place total (b ∷ rest)) low high b rest (omega (arith, left)) (omega (arith, left))

pub placed_word_within : (total low high : ℕ) (bytes : List ℕ) → length bytes ≤ total
    → Placed total (u16_in_range total low high bytes)
placed_word_within total low high bytes left =
    placed_word total bytes _ left (λ within n rest after. placed_judged total _ low high n rest within after)

pub placed_flag : (total : ℕ) (bytes : List ℕ) → length bytes ≤ total → Placed total (flag_at total bytes)
placed_flag total bytes left = placed_bind total _ _ (placed_byte_within total 0 1 bytes left) (λ n rest after. after)

pub placed_protection : (total : ℕ) (bytes : List ℕ) → length bytes ≤ total → Placed total (protection_at total bytes)
unfolding protection_at
placed_protection total bytes left =
    placed_bind total _ _ (placed_byte_within total 0 1 bytes left) (λ set rest some.
    placed_bind total _ _ (placed_byte_within total 1 4 rest some) (λ level last after. after))

-- ---- SIds and components

placed_sid_kind : (total kind : ℕ) (bytes : List ℕ) → length bytes ≤ total → Placed total (sid_of_kind kind bytes)
placed_sid_kind total zero bytes left =
    placed_bind total _ _ (placed_number total w16 bytes left) (λ n rest after. after)
placed_sid_kind total (suc k) bytes left =
    placed_bind total _ _ (placed_number total w32 bytes left) (λ n rest after. after)

pub placed_sid : (total : ℕ) (bytes : List ℕ) → length bytes ≤ total → Placed total (sid_at total bytes)
unfolding sid_at
placed_sid total bytes left = placed_bind total _ _ (placed_byte_within total 0 1 bytes left)
    (λ kind rest after. placed_sid_kind total kind rest after)

placed_component_of : (total at tmid : ℕ) (bytes : List ℕ) → at < total → length bytes ≤ total
    → Placed total (component_of total at tmid bytes)
unfolding component_of
placed_component_of total at (suc (suc zero)) bytes within left = within
placed_component_of total at (suc (suc (suc zero))) bytes within left =
    placed_bind total _ _ (placed_word_within total 0 4095 bytes left) (λ scid rest after. after)
placed_component_of total at (suc (suc (suc (suc k)))) bytes within left = within
placed_component_of total at _ bytes within left =
    placed_bind total _ _ (placed_byte_within total 0 63 bytes left) (λ ty rest some.
    placed_bind total _ _ (placed_byte_within total 0 63 rest some) (λ sub last after. after))

pub placed_component : (total : ℕ) (bytes : List ℕ) → length bytes ≤ total → Placed total (component_at total bytes)
unfolding component_at
placed_component total [] left = tt
placed_component total (b ∷ rest) left = placed_component_of total _ b rest (omega (arith, left)) (omega (arith, left))
