-- The offset of a field at fault is that of one of the bytes read, and the bytes before it are short.
use Rattle.mux_config.proofs.Words.{[], ◌++◌, ◌+◌, ◌<◌, ◌>>=◌, ◌∷◌, ◌≡◌, ◌≤◌, ◌⊎◌, Component, Configuration, EepFault}
use Rattle.mux_config.proofs.Words.{Err, Field, HasFault, List, Ok, Order, Reads, Result, Short, ShortBeforePlaces}
use Rattle.mux_config.proofs.Words.{arith, carrier_of, component_limit, config_at, inl, inr, length, length-take-le}
use Rattle.mux_config.proofs.Words.{list_any, ltb, names, packet_key, place, service_key, sid_key, size_or_fault}
use Rattle.mux_config.proofs.Words.{size_or_field, sub_key, subst, suc, take, zero, ℕ}
use Rattle.mux_config.specs.FieldReading.{component_at}
use Rattle.mux_config.specs.Reading.{read_sub, components_at, read_service, read_packet, members_at, record_at}
use Rattle.mux_config.proofs.Steady.{faults_are_first}
use Rattle.mux_config.proofs.PlacedFields.{Placed, placed_bind, placed_refuse, placed_word, placed_byte_within}
use Rattle.mux_config.proofs.PlacedFields.{placed_word_within, placed_flag, placed_protection, placed_sid}
use Rattle.mux_config.proofs.PlacedFields.{placed_component}

-- ---- sub-channels

placed_size : {T : Type 0} (total at : ℕ) (size : Result ℕ EepFault) (k : ℕ → Reads T) → at < total
    → ((n : ℕ) → Placed total (k n)) → Placed total (size_or_field at size >>= k)
placed_size total at (Ok size) k within next = next size
placed_size total at (Err e) k within next = within

placed_sub : (total low : ℕ) (bytes : List ℕ) → length bytes ≤ total → Placed total (read_sub total low bytes)
unfolding read_sub
placed_sub total low bytes left =
    placed_bind total _ _ (placed_byte_within total 0 63 bytes left) (λ id after_id left_id.
    placed_refuse total (ltb id low) Order _ tt (
    placed_word total after_id _ left_id (λ start_within start after_start left_start.
    placed_bind total _ _ (placed_protection total after_start left_start)
    (λ protection after_protection left_protection.
    placed_word total after_protection _ left_protection (λ rate_within kbits rest after.
    placed_size total _ (size_or_fault protection kbits) _ rate_within (λ size.
    placed_refuse total (ltb 864 (start + size)) (Field (place total after_id)) _ start_within after))))))

-- ---- services

placed_components : (total : ℕ) (before : List Component) (count : ℕ) (bytes : List ℕ) → length bytes ≤ total
    → Placed total (components_at total before count bytes)
unfolding components_at component_at
placed_components total before zero bytes left = left
placed_components total before (suc count) [] left = tt
placed_components total before (suc count) (b ∷ rest) left =
    placed_bind total (component_at total (b ∷ rest)) _ (placed_component total (b ∷ rest) left) (λ c last after.
    placed_refuse total (list_any (names (carrier_of c)) before) (Field (place total (b ∷ rest))) _
    (omega (arith, left)) (
    placed_components total (before ++ c ∷ []) count last after))

placed_service : (total low : ℕ) (bytes : List ℕ) → length bytes ≤ total → Placed total (read_service total low bytes)
unfolding read_service
placed_service total low bytes left =
    placed_bind total _ _ (placed_sid total bytes left) (λ sid after_sid left_sid.
    placed_refuse total (ltb (sid_key sid) low) Order _ tt (
    placed_bind total _ _ (placed_byte_within total 0 (component_limit sid) after_sid left_sid) (λ count rest some.
    placed_bind total _ _ (placed_components total [] count rest some) (λ components last after. after))))

-- ---- packet components

placed_packet : (total low : ℕ) (bytes : List ℕ) → length bytes ≤ total → Placed total (read_packet total low bytes)
unfolding read_packet
placed_packet total low bytes left =
    placed_bind total _ _ (placed_word_within total 0 4095 bytes left) (λ scid after_scid left_scid.
    placed_refuse total (ltb scid low) Order _ tt (
    placed_bind total _ _ (placed_flag total after_scid left_scid) (λ dg after_dg left_dg.
    placed_bind total _ _ (placed_byte_within total 0 63 after_dg left_dg) (λ ty after_ty left_ty.
    placed_bind total _ _ (placed_byte_within total 0 63 after_ty left_ty) (λ sub after_sub left_sub.
    placed_bind total _ _ (placed_word_within total 1 1023 after_sub left_sub) (λ address rest after. after))))))

-- ---- the record

pub placed_members : {T : Type 0} (total : ℕ) (key : T → ℕ) (member_at : ℕ → List ℕ → Reads T)
    → ((low : ℕ) (bytes : List ℕ) → length bytes ≤ total → Placed total (member_at low bytes))
    → (low : ℕ) (before : List T) (count : ℕ) (bytes : List ℕ) → length bytes ≤ total
    → Placed total (members_at key member_at low before count bytes)
unfolding members_at
placed_members total key member_at each low before zero bytes left = left
placed_members total key member_at each low before (suc count) bytes left =
    placed_bind total (member_at low bytes) _ (each low bytes left)
    (λ x rest after. placed_members total key member_at each (key x + 1) (before ++ x ∷ []) count rest after)

placed_record : (total : ℕ) (bytes : List ℕ) → length bytes ≤ total → Placed total (record_at total bytes)
unfolding record_at
placed_record total bytes left =
    placed_bind total _ _ (placed_byte_within total 0 64 bytes left) (λ sub_count after_subs left_subs.
    placed_bind total _ _ (placed_byte_within total 0 64 after_subs left_subs)
    (λ service_count after_services left_services.
    placed_bind total _ _ (placed_byte_within total 0 64 after_services left_services)
    (λ packet_count after_counts left_counts.
    placed_bind total _ _ (placed_members total sub_key (read_sub total) (placed_sub total) 0 [] sub_count after_counts
    left_counts) (λ subs after_sub_set left_sub_set.
    placed_bind total _ _ (placed_members total service_key (read_service total) (placed_service total) 0 []
    service_count after_sub_set left_sub_set) (λ services after_service_set left_service_set.
    placed_bind total _ _ (placed_members total packet_key (read_packet total) (placed_packet total) 0 [] packet_count
    after_service_set left_service_set) (λ packets rest after. after))))))

-- the result of reading these bytes
pub placed_config : (bytes : List ℕ) → Placed (length bytes) (config_at bytes)
placed_config bytes = placed_record (length bytes) bytes (omega arith)

-- the offset of a fault is that of one of the bytes
pub field_in : (bytes : List ℕ) (p : ℕ) → config_at bytes ≡ Err (Field p) → p < length bytes
field_in bytes p given = subst (λ (r : Reads Configuration). Placed (length bytes) r) given (placed_config bytes)

-- a fault cannot be found before its offset
short_by : (bytes : List ℕ) (p : ℕ) → p < length bytes → HasFault (take p bytes) Short
    ⊎ HasFault (take p bytes) (Field p) → HasFault (take p bytes) Short
short_by bytes p within (inl short) = short
short_by bytes p within (inr field) =
    absurd (omega (arith, field_in (take p bytes) p field, length-take-le p bytes (omega (arith, within))))

pub short_before_places : ShortBeforePlaces
short_before_places bytes p fault =
    (field_in bytes p fault, short_by bytes p (field_in bytes p fault) (faults_are_first bytes p (Field p) fault))
