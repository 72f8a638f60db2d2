-- The offset of a field at fault is within the file, and the bytes before it are truncated.
use Rattle.plan_code.proofs.Words.{[], ◌++◌, ◌-◌, ◌<◌, ◌>>=◌, ◌∷◌, ◌≡◌, ◌≤◌, ◌⊎◌, Bool, CodeFault, Err, Field}
use Rattle.plan_code.proofs.Words.{HasCodeFault, Header, Limit, List, Magic, Memory, Ok, Order, Parses, Placed, Program}
use Rattle.plan_code.proofs.Words.{Reads, Result, Short, Trailing, Truncated, TruncatedBeforePlaces, arith}
use Rattle.plan_code.proofs.Words.{cond, config_at, config_in, count_at, eqb, false, fib_count, in_file, inl, inr}
use Rattle.plan_code.proofs.Words.{label_from, label_key, labels_in, layout_in, length, length-take-le, line, line_in}
use Rattle.plan_code.proofs.Words.{ltb, magic, magic_at, mode_of, not, number_at, place, placed_byte}
use Rattle.plan_code.proofs.Words.{placed_byte_within, placed_number, read_from, refl, refuse_code, subst, suc, take}
use Rattle.plan_code.proofs.Words.{true, w16, w32, zero, ℕ}
use Rattle.mux_config.proofs.Places.{placed_members, placed_config}
use Rattle.mux_config.specs.declared.record.RecordFault.TheVariants.{Field as FieldOfRecord}
use Rattle.mux_config.specs.Reading.{record_at}
use Rattle.plan_code.specs.Reading.{reserving_at, layout_at, plan_at, items_at, header_at, program_at, code_of}
use Rattle.plan_code.proofs.PartLaws.{label_is, line_is}
use Rattle.plan_code.proofs.HeaderLaws.{plan_after_is}
use Rattle.plan_code.proofs.SteadyFiles.{file_faults_are_first}

-- the offset in a fault is below `total`, and the fault is not out of memory
abbrev pub IsWithin : ℕ → CodeFault → Type 0
IsWithin total (Field at) = at < total
IsWithin total Memory = ⊥
IsWithin total _ = Unit {0}

-- a reading of some of `total` bytes leaves no more than those, and a fault has an offset among them
abbrev Stands : {T : Type 0} → ℕ → Parses T → Type 0
Stands total (Ok x) = length x.1 ≤ total
Stands total (Err e) = IsWithin total e

abbrev pub EndsWithin : ℕ → Result Program CodeFault → Type 0
EndsWithin total (Ok p) = Unit {0}
EndsWithin total (Err e) = IsWithin total e

stands_bind : {A B : Type 0} (total : ℕ) (r : Parses A) (f : A × List ℕ → Parses B) → Stands total r
    → ((x : A) (rest : List ℕ) → length rest ≤ total → Stands total (f (x, rest))) → Stands total (r >>= f)
stands_bind total (Ok x) f here there = there x.0 x.1 here
stands_bind total (Err e) f here there = here

ends_bind : {A : Type 0} (total : ℕ) (r : Parses A) (f : A × List ℕ → Result Program CodeFault) → Stands total r
    → ((x : A) (rest : List ℕ) → length rest ≤ total → EndsWithin total (f (x, rest))) → EndsWithin total (r >>= f)
ends_bind total (Ok x) f here there = there x.0 x.1 here
ends_bind total (Err e) f here there = here

stands_refuse : {T : Type 0} (total : ℕ) (test : Bool) (fault : CodeFault) (k : Parses T) → IsWithin total fault
    → Stands total k → Stands total (refuse_code test fault >>= λ _. k)
stands_refuse total true fault k within rest = within
stands_refuse total false fault k within rest = rest

stands_choice : {T : Type 0} (total : ℕ) (test : Bool) (r q : Parses T) → Stands total r → Stands total q
    → Stands total (cond test r q)
stands_choice total true r q first second = first
stands_choice total false r q first second = second

-- fields whose offsets are counted from the first byte of the file
stands_field : {T : Type 0} (total : ℕ) (r : Reads T) → 0 < total → Placed total r → Stands total (in_file r)
stands_field total (Ok x) some placed = placed
stands_field total (Err Short) some placed = tt
stands_field total (Err (FieldOfRecord at)) some placed = omega (arith, placed)
stands_field total (Err Order) some placed = some

-- a part that begins with the next byte
stands_part : {T : Type 0} (total b : ℕ) (rest : List ℕ) (r : Reads T) → length (b ∷ rest) ≤ total
    → Placed (length (b ∷ rest)) r → Stands total (read_from (place total (b ∷ rest)) r)
stands_part total b rest (Err Short) left placed = tt
stands_part total b rest (Err Order) left placed = omega (arith, left)
stands_part total b rest _ left placed = omega (arith, left, placed)

-- ---- the header

stands_magic : (total : ℕ) (bytes : List ℕ) → 0 < total → length bytes ≤ total → Stands total (magic_at bytes)
stands_magic total bytes some left =
    stands_bind total _ _ (stands_field total _ some (placed_number total w32 bytes left)) (λ letters rest after.
    stands_refuse total (not (eqb letters magic)) Magic _ tt after)

stands_reserving : (total : ℕ) (bytes : List ℕ) → 0 < total → length bytes ≤ total
    → Stands total (reserving_at total bytes)
unfolding reserving_at
stands_reserving total bytes some left =
    stands_bind total _ _ (stands_field total _ some (placed_byte_within total 1 4 bytes left))
    (λ number after_number left_number.
    stands_bind total _ _ (stands_field total _ some
    (placed_byte_within total 1 (fib_count (mode_of number) - 2) after_number left_number))
    (λ reserve rest after. after))

stands_layout_in : (total version : ℕ) (bytes : List ℕ) → 0 < total → length bytes ≤ total
    → Stands total (layout_in total version bytes)
stands_layout_in total version bytes some left =
    stands_choice total (eqb version 1) _ _ left (
    stands_choice total (eqb version 2) _ _
    (stands_bind total _ _ (stands_field total _ some (placed_byte_within total 2 4 bytes left))
    (λ number rest after. after)) (
    stands_choice total (eqb version 3) _ _ (stands_reserving total bytes some left) tt))

stands_layout : (total : ℕ) (bytes : List ℕ) → 0 < total → length bytes ≤ total → Stands total (layout_at total bytes)
unfolding layout_at
stands_layout total bytes some left =
    stands_bind total _ _ (stands_field total _ some (placed_byte total bytes left))
    (λ version rest after. stands_layout_in total version rest some after)

stands_plan : (total : ℕ) (bytes : List ℕ) → 0 < total → length bytes ≤ total → Stands total (plan_at total bytes)
unfolding plan_at
stands_plan total bytes some left =
    stands_bind total _ _ (stands_layout total bytes some left)
    (λ layout rest after. stands_field total _ some ((plan_after_is layout).placed total rest after))

stands_count : (total limit : ℕ) (bytes : List ℕ) → 0 < total → length bytes ≤ total
    → Stands total (count_at total limit bytes)
stands_count total limit [] some left = tt
stands_count total limit (b ∷ bytes) some left =
    stands_bind total (in_file (number_at w16 (b ∷ bytes))) _
    (stands_field total _ some (placed_number total w16 (b ∷ bytes) left)) (λ number rest after.
    stands_refuse total (eqb number 0) (Field (place total (b ∷ bytes))) _ (omega (arith, left)) (
    stands_refuse total (ltb limit number) Limit _ tt after))

stands_header : (total : ℕ) (bytes : List ℕ) → 0 < total → length bytes ≤ total → Stands total (header_at total bytes)
unfolding header_at
stands_header total bytes some left =
    stands_bind total _ _ (stands_magic total bytes some left) (λ letters after_letters left_letters.
    stands_bind total _ _ (stands_plan total after_letters some left_letters) (λ plan after_plan left_plan.
    stands_bind total _ _ (stands_count total 256 after_plan some left_plan)
    (λ configurations after_configurations left_configurations.
    stands_bind total _ _ (stands_count total 1024 after_configurations some left_configurations)
    (λ labels after_labels left_labels.
    stands_bind total _ _ (stands_count total 4096 after_labels some left_labels) (λ lines rest after. after)))))

-- ---- the tables

stands_config : (total : ℕ) (bytes : List ℕ) → length bytes ≤ total → Stands total (config_in total bytes)
unfolding record_at
stands_config total [] left = tt
stands_config total (b ∷ rest) left = stands_part total b rest (config_at (b ∷ rest)) left (placed_config (b ∷ rest))

stands_items : {T : Type 0} (total : ℕ) (item : List ℕ → Parses T)
    → ((bytes : List ℕ) → length bytes ≤ total → Stands total (item bytes))
    → (before : List T) (count : ℕ) (bytes : List ℕ) → length bytes ≤ total
    → Stands total (items_at item before count bytes)
unfolding items_at
stands_items total item each before zero bytes left = left
stands_items total item each before (suc count) bytes left =
    stands_bind total (item bytes) _ (each bytes left)
    (λ x rest after. stands_items total item each (before ++ x ∷ []) count rest after)

stands_program : (total : ℕ) (header : Header) (bytes : List ℕ) → 0 < total → length bytes ≤ total
    → Stands total (program_at total header bytes)
unfolding program_at
stands_program total header bytes some left =
    stands_bind total (items_at (config_in total) [] header.configurations bytes) _
    (stands_items total (config_in total) (stands_config total) [] header.configurations bytes left)
    (λ configurations after_configurations left_configurations.
    stands_bind total (labels_in total header.configurations header.labels after_configurations) _
    (stands_field total _ some
    (placed_members total label_key (label_from total header.configurations)
    (λ low b within. (label_is header.configurations low).placed total b within) 0 [] header.labels
    after_configurations left_configurations)) (λ labels after_labels left_labels.
    stands_bind total (items_at (line_in total) [] header.lines after_labels) _
    (stands_items total (line_in total) (λ b within.
    stands_field total (line.read total b) some (line_is.placed total b within)) [] header.lines after_labels
    left_labels) (λ lines rest after. after)))

-- ---- the file

ended : (total : ℕ) (p : Program) (test : Bool) → EndsWithin total (refuse_code test Trailing >>= λ _. Ok p)
ended total p true = tt
ended total p false = tt

pub within_code : (bytes : List ℕ) → 0 < length bytes → EndsWithin (length bytes) (code_of bytes)
unfolding code_of
within_code bytes some =
    ends_bind (length bytes) _ _ (stands_header (length bytes) bytes some (omega arith))
    (λ header after_header left_header.
    ends_bind (length bytes) _ _ (stands_program (length bytes) header after_header some left_header)
    (λ program rest after.
    ended (length bytes) program (not (eqb (length rest) 0))))

pub none_read : code_of [] ≡ Err Truncated
unfolding code_of header_at
none_read = refl

field_in : (bytes : List ℕ) (p : ℕ) → HasCodeFault bytes (Field p) → p < length bytes
field_in [] p fault = let truncated = none_read in absurd (cc)
field_in (b ∷ rest) p fault = subst (λ (r : Result Program CodeFault). EndsWithin (length (b ∷ rest)) r) fault
    (within_code (b ∷ rest) (omega arith))

-- a fault cannot be found before its offset
truncated_by : (bytes : List ℕ) (p : ℕ) → p < length bytes → HasCodeFault (take p bytes) Truncated
    ⊎ HasCodeFault (take p bytes) (Field p) → HasCodeFault (take p bytes) Truncated
truncated_by bytes p within (inl truncated) = truncated
truncated_by bytes p within (inr field) =
    absurd (omega (arith, field_in (take p bytes) p field, length-take-le p bytes (omega (arith, within))))

pub truncated_before_places : TruncatedBeforePlaces
truncated_before_places bytes p fault = (
  field_in bytes p fault,
  truncated_by bytes p (field_in bytes p fault)
      (file_faults_are_first bytes p (Field p) fault (λ e. absurd (cc))),
)
