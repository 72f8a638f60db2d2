-- One iteration of the loops that read `count` components or members: the rest gives the same result as all of it.
use Rattle.mux_config.proofs.Words.{[], ◌++◌, ◌+◌, ◌-◌, ◌<◌, ◌∙◌, ◌∷◌, ◌≡◌, ◌≤◌, Component, Err, Field, List, Ok, Reads}
use Rattle.mux_config.proofs.Words.{RecordFault, arith, carrier_of, component_at, false, list_any, names, place, refl}
use Rattle.mux_config.proofs.Words.{suc, sym, true, ℕ}
use Rattle.mux_config.specs.Reading.{components_at, members_at}

-- ---- components

pub component_fault : (total : ℕ) (before : List Component) (count i : ℕ) (bytes : List ℕ)
    (whole : Reads (List Component)) (e : RecordFault) → i < count
    → components_at total before (count - i) bytes ≡ whole → component_at total bytes ≡ Err e → whole ≡ Err e
unfolding components_at
component_fault total before count i bytes whole e lt so_far fault =
    let more : count - i ≡ suc (count - (i + 1)) = omega (arith, lt) in
    sym so_far ∙ rw (more, fault) refl

pub component_repeated : (total : ℕ) (before : List Component) (count i : ℕ) (bytes : List ℕ)
    (whole : Reads (List Component)) (c : Component) (rest : List ℕ) → i < count
    → components_at total before (count - i) bytes ≡ whole → component_at total bytes ≡ Ok (c, rest)
    → list_any (names (carrier_of c)) before ≡ true → whole ≡ Err (Field (place total bytes))
unfolding components_at
component_repeated total before count i bytes whole c rest lt so_far read named =
    let more : count - i ≡ suc (count - (i + 1)) = omega (arith, lt) in
    sym so_far ∙ rw (more, read, named) refl

pub component_fresh : (total : ℕ) (before : List Component) (count i : ℕ) (bytes : List ℕ)
    (whole : Reads (List Component)) (c : Component) (rest : List ℕ) → i < count
    → components_at total before (count - i) bytes ≡ whole → component_at total bytes ≡ Ok (c, rest)
    → list_any (names (carrier_of c)) before ≡ false → components_at total (before ++ c ∷ []) (count - (i + 1)) rest
    ≡ whole
unfolding components_at
component_fresh total before count i bytes whole c rest lt so_far read named =
    let more : count - i ≡ suc (count - (i + 1)) = omega (arith, lt) in
    sym (sym so_far ∙ rw (more, read, named) refl)

pub components_done : (total : ℕ) (before : List Component) (count i : ℕ) (bytes : List ℕ)
    (whole : Reads (List Component)) → count ≤ i
    → components_at total before (count - i) bytes ≡ whole → whole ≡ Ok (before, bytes)
unfolding components_at
components_done total before count i bytes whole past so_far =
    let none : count - i ≡ 0 = omega (arith, past) in
    sym so_far ∙ rw none refl

-- ---- members

pub member_fault : {T : Type 0} (key : T → ℕ) (member_at : ℕ → List ℕ → Reads T) (low : ℕ) (before : List T)
    (count i : ℕ) (bytes : List ℕ) (whole : Reads (List T)) (e : RecordFault) → i < count
    → members_at key member_at low before (count - i) bytes ≡ whole → member_at low bytes ≡ Err e → whole ≡ Err e
unfolding members_at
member_fault key member_at low before count i bytes whole e lt so_far fault =
    let more : count - i ≡ suc (count - (i + 1)) = omega (arith, lt) in
    sym so_far ∙ rw (more, fault) refl

pub member_next : {T : Type 0} (key : T → ℕ) (member_at : ℕ → List ℕ → Reads T) (low : ℕ) (before : List T)
    (count i : ℕ) (bytes : List ℕ) (whole : Reads (List T)) (x : T) (rest : List ℕ) → i < count
    → members_at key member_at low before (count - i) bytes ≡ whole → member_at low bytes ≡ Ok (x, rest)
    → members_at key member_at (key x + 1) (before ++ x ∷ []) (count - (i + 1)) rest ≡ whole
unfolding members_at
member_next key member_at low before count i bytes whole x rest lt so_far read =
    let more : count - i ≡ suc (count - (i + 1)) = omega (arith, lt) in
    sym (sym so_far ∙ rw (more, read) refl)

pub members_done : {T : Type 0} (key : T → ℕ) (member_at : ℕ → List ℕ → Reads T) (low : ℕ) (before : List T)
    (count i : ℕ) (bytes : List ℕ) (whole : Reads (List T)) → count ≤ i
    → members_at key member_at low before (count - i) bytes ≡ whole → whole ≡ Ok (before, bytes)
unfolding members_at
members_done key member_at low before count i bytes whole past so_far =
    let none : count - i ≡ 0 = omega (arith, past) in
    sym so_far ∙ rw none refl
