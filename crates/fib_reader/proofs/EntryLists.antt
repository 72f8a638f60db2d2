-- The entries found by the walk are those of the grammar, and exist exactly if there is no fault.
use Rattle.fib_reader.proofs.Words.{[], ◌++◌, ◌+◌, ◌-◌, ◌<◌, ◌∙◌, ◌∷◌, ◌≡◌, ◌≤◌, AreEntries, Bool, List, None, Option}
use Rattle.fib_reader.proofs.Words.{Some, ap, arith, cond, drop, drop-append_seam, entries_of, entry_len, false, le-ltb}
use Rattle.fib_reader.proofs.Words.{length, length-append, length-drop, ltb-false, nat_lt, raws_of, refl, subst, suc}
use Rattle.fib_reader.proofs.Words.{sym, take, take-append-drop, take-append_seam, true, zero, ℕ}
use Rattle.fib_reader.specs.FirstFault.{entries_fault}
use Rattle.fib_reader.specs.Walk.{entries_within}
use Rattle.fib_reader.proofs.Lengths.{some_bytes, entry_len_more, cut_len}

-- any fuel that suffices gives the same list
enough_entries :
    (m n ext : ℕ) (long : Bool) (bytes : List ℕ) → length bytes ≤ m → length bytes ≤ n
    → entries_within m ext long bytes ≡ entries_within n ext long bytes
unfolding entries_within
enough_entries zero zero ext long bytes p q = refl
enough_entries zero (suc n) ext long [] p q = refl
enough_entries zero (suc n) ext long (b ∷ bs) p q = absurd (omega arith)
enough_entries (suc m) zero ext long [] p q = refl
enough_entries (suc m) zero ext long (b ∷ bs) p q = absurd (omega arith)
enough_entries (suc m) (suc n) ext long [] p q = refl
enough_entries (suc m) (suc n) ext long (b ∷ bs) p q =
    let len : ℕ = entry_len ext long (b ∷ bs) in
    let big : 3 ≤ len = some_bytes ext long (b ∷ bs) in
    let fewer : length (drop len (b ∷ bs)) ≡ suc (length bs) - len = length-drop len (b ∷ bs) in
    rw (enough_entries m n ext long (drop len (b ∷ bs)) (omega arith) (omega arith)) refl

first_entry :
    (ext : ℕ) (long : Bool) (b : ℕ) (bs : List ℕ)
    → entries_of ext long (b ∷ bs)
    ≡ take (entry_len ext long (b ∷ bs)) (b ∷ bs) ∷ entries_of ext long (drop (entry_len ext long (b ∷ bs)) (b ∷ bs))
unfolding entries_within
first_entry ext long b bs =
    let len : ℕ = entry_len ext long (b ∷ bs) in
    let big : 3 ≤ len = some_bytes ext long (b ∷ bs) in
    let fewer : length (drop len (b ∷ bs)) ≡ suc (length bs) - len = length-drop len (b ∷ bs) in
    rw (enough_entries (length bs) (length (drop len (b ∷ bs))) ext long (drop len (b ∷ bs)) (omega arith)
    (omega arith)) refl

pub first_of_entries :
    (ext : ℕ) (long : Bool) (bytes : List ℕ) → 0 < length bytes
    → entries_of ext long bytes ≡ take (entry_len ext long bytes) bytes
    ∷ entries_of ext long (drop (entry_len ext long bytes) bytes)
first_of_entries ext long [] some = absurd (omega arith)
first_of_entries ext long (b ∷ bs) some = first_entry ext long b bs

pub no_entries_of : (ext : ℕ) (long : Bool) (bytes : List ℕ) → length bytes ≡ 0 → entries_of ext long bytes ≡ []
unfolding entries_within
no_entries_of ext long [] none = refl
no_entries_of ext long (b ∷ bs) none = absurd (omega arith)

-- the list of entries is unique
pub same_entries :
    (ext : ℕ) (long : Bool) (bytes : List ℕ) (es : List (List ℕ)) → AreEntries ext long bytes es
    → entries_of ext long bytes ≡ es
same_entries ext long bytes [] h = no_entries_of ext long bytes (ap length h)
same_entries ext long bytes (e ∷ es) h =
    let rest : List ℕ = h.0 in
    let len : entry_len ext long (e ++ rest) ≡ length e = entry_len_more ext long e rest (omega arith) ∙ sym h.2 in
    let big : 3 ≤ entry_len ext long e = some_bytes ext long e in
    let size : length (e ++ rest) ≡ length e + length rest = length-append e rest in
    let cut : take (entry_len ext long (e ++ rest)) (e ++ rest) ≡ e = rw (len) (take-append_seam e rest) in
    let left : drop (entry_len ext long (e ++ rest)) (e ++ rest) ≡ rest = rw (len) (drop-append_seam e rest) in
    ap (entries_of ext long) h.1 ∙ (first_of_entries ext long (e ++ rest) (omega arith))
    ∙ ap (λ x. x ∷ entries_of ext long (drop (entry_len ext long (e ++ rest)) (e ++ rest))) cut
    ∙ ap (λ x. e ∷ entries_of ext long x) left ∙ ap (λ x. e ∷ x) (same_entries ext long rest es h.3)

-- without a fault the bytes are whole entries
pub through : {A : Type 0} (b : Bool) (x : A) (y : Option A) → cond b (Some x) y ≡ None → (b ≡ false) × (y ≡ None)
through true x y h = absurd (cc)
through false x y h = (refl, h)

pub sound_entries :
    (n ext : ℕ) (long : Bool) (place : ℕ) (bytes : List ℕ) → length bytes ≤ n
    → entries_fault n ext long place bytes ≡ None → AreEntries ext long bytes (entries_of ext long bytes)
unfolding entries_fault entries_within
sound_entries n ext long place [] enough none = refl
sound_entries zero ext long place (b ∷ bs) enough none = absurd (omega arith)
sound_entries (suc n) ext long place (b ∷ bs) enough none =
    let len : ℕ = entry_len ext long (b ∷ bs) in
    let here = through (nat_lt (length (b ∷ bs)) len) place (entries_fault n ext long (place + len) (drop len (b ∷ bs)))
    none in
    let big : 3 ≤ len = some_bytes ext long (b ∷ bs) in
    let fewer : length (drop len (b ∷ bs)) ≡ suc (length bs) - len = length-drop len (b ∷ bs) in
    let rest = sound_entries n ext long (place + len) (drop len (b ∷ bs)) (omega arith) here.1 in
    subst (λ (es : List (List ℕ)). AreEntries ext long (b ∷ bs) es) (sym (first_entry ext long b bs))
    (drop len (b ∷ bs), sym (take-append-drop len (b ∷ bs)), cut_len ext long (b ∷ bs) (ltb-false _ _ here.0), rest)

pub complete_entries :
    (n ext : ℕ) (long : Bool) (place : ℕ) (bytes : List ℕ) (es : List (List ℕ)) → AreEntries ext long bytes es
    → entries_fault n ext long place bytes ≡ None
unfolding entries_fault
complete_entries (suc n) ext long place (b ∷ bs) [] h = absurd (cc)
complete_entries (suc n) ext long place (b ∷ bs) (e ∷ es) h =
    let rest : List ℕ = h.0 in
    let split : b ∷ bs ≡ e ++ rest = h.1 in
    let same = ap (entry_len ext long) split ∙ entry_len_more ext long e rest (omega arith) ∙ sym h.2 in
    let size : length (b ∷ bs) ≡ length e + length rest = ap length split ∙ length-append e rest in
    let left : drop (entry_len ext long (b ∷ bs)) (b ∷ bs) ≡ rest =
    rw (same) (ap (drop (length e)) split ∙ drop-append_seam e rest) in
    rw (le-ltb (length (b ∷ bs)) (entry_len ext long (b ∷ bs)) (omega arith))
    (ap (entries_fault n ext long (place + entry_len ext long (b ∷ bs))) left
    ∙ complete_entries n ext long (place + entry_len ext long (b ∷ bs)) rest es h.3)
complete_entries _ ext long place _ es h = refl

pub raws_of_nothing : (ext : ℕ) (long : Bool) → raws_of ext long [] ≡ []
unfolding entries_within
raws_of_nothing ext long = refl
