-- Reading is stable: what is read, and any fault but missing bytes, is the same whatever bytes follow.
use Rattle.mux_config.proofs.Words.{[], ◌++◌, ◌+◌, ◌>>=◌, ◌∙◌, ◌∷◌, ◌≡◌, ◌≢◌, ◌⊎◌, Component, Configuration}
use Rattle.mux_config.proofs.Words.{CutsAreShort, EepFault, Err, FaultsAreFirst, FaultsStay, Field, IsConfiguration}
use Rattle.mux_config.proofs.Words.{List, Ok, Order, Reads, RecordFault, Result, Short, ap, append-nil, arith}
use Rattle.mux_config.proofs.Words.{carrier_of, component_limit, config_at, config_bytes, drop, inl, inr, length}
use Rattle.mux_config.proofs.Words.{length-append, length-take-le, list_any, ltb, names, packet_key, refl, service_key}
use Rattle.mux_config.proofs.Words.{sid_key, size_or_fault, size_or_field, sub_key, suc, sym, take}
use Rattle.mux_config.proofs.Words.{take-append-drop, w16, zero, ℕ}
use Rattle.mux_config.specs.Reading.{read_sub, components_at, read_service, read_packet, members_at, record_at}
use Rattle.mux_config.proofs.FieldLaws.{ok_is}
use Rattle.mux_config.proofs.RecordLaws.{record_again}
use Rattle.mux_config.proofs.SteadyFields.{Goes, goes_bind, goes_fault, goes_refuse, place_same, field_same}
use Rattle.mux_config.proofs.SteadyFields.{goes_number, goes_byte_within, goes_word_within, goes_flag, goes_protection}
use Rattle.mux_config.proofs.SteadyFields.{goes_sid, goes_component}

-- ---- members

goes_size : {T : Type 0} (more : List ℕ) (at by : ℕ) (o : Result ℕ EepFault) (k l : ℕ → Reads T) → at ≡ by
    → ((n : ℕ) → Goes more (k n) (l n)) → Goes more (size_or_field at o >>= k) (size_or_field by o >>= l)
goes_size more at by (Ok n) k l e h = h n
goes_size more at by (Err f) k l e h = goes_fault _ more (Field at) (Field by) (ap Field e)

goes_sub : (total low : ℕ) (bytes more : List ℕ) → Goes more (read_sub total low bytes)
    (read_sub (total + length more) low (bytes ++ more))
unfolding read_sub
goes_sub total low bytes more =
    goes_bind more _ _ _ _ (goes_byte_within total 0 63 bytes more) (λ id after_id.
    goes_refuse more (ltb id low) Order Order _ _ refl (
    goes_bind more _ _ _ _ (goes_number w16 after_id more) (λ start after_start.
    goes_bind more _ _ _ _ (goes_protection total after_start more) (λ protection after_protection.
    goes_bind more _ _ _ _ (goes_number w16 after_protection more) (λ kbits rest.
    goes_size more _ _ (size_or_fault protection kbits) _ _ (place_same total after_protection more) (λ size.
    goes_refuse more (ltb 864 (start + size)) _ _ _ _ (field_same total after_id more) refl))))))

goes_components : (total : ℕ) (before : List Component) (count : ℕ) (bytes more : List ℕ)
    → Goes more (components_at total before count bytes)
    (components_at (total + length more) before count (bytes ++ more))
unfolding components_at
goes_components total before zero bytes more = refl
goes_components total before (suc count) bytes more =
    goes_bind more _ _ _ _ (goes_component total bytes more) (λ c rest.
    goes_refuse more (list_any (names (carrier_of c)) before) _ _ _ _ (field_same total bytes more) (
    goes_components total (before ++ c ∷ []) count rest more))

goes_service : (total low : ℕ) (bytes more : List ℕ) → Goes more (read_service total low bytes)
    (read_service (total + length more) low (bytes ++ more))
unfolding read_service
goes_service total low bytes more =
    goes_bind more _ _ _ _ (goes_sid total bytes more) (λ sid after_sid.
    goes_refuse more (ltb (sid_key sid) low) Order Order _ _ refl (
    goes_bind more _ _ _ _ (goes_byte_within total 0 (component_limit sid) after_sid more) (λ count rest.
    goes_bind more _ _ _ _ (goes_components total [] count rest more) (λ components last. refl))))

goes_packet : (total low : ℕ) (bytes more : List ℕ) → Goes more (read_packet total low bytes)
    (read_packet (total + length more) low (bytes ++ more))
unfolding read_packet
goes_packet total low bytes more =
    goes_bind more _ _ _ _ (goes_word_within total 0 4095 bytes more) (λ scid after_scid.
    goes_refuse more (ltb scid low) Order Order _ _ refl (
    goes_bind more _ _ _ _ (goes_flag total after_scid more) (λ dg after_dg.
    goes_bind more _ _ _ _ (goes_byte_within total 0 63 after_dg more) (λ ty after_ty.
    goes_bind more _ _ _ _ (goes_byte_within total 0 63 after_ty more) (λ sub after_sub.
    goes_bind more _ _ _ _ (goes_word_within total 1 1023 after_sub more) (λ address rest. refl))))))

pub goes_members : {T : Type 0} (key : T → ℕ) (member other : ℕ → List ℕ → Reads T) (more : List ℕ)
    → ((low : ℕ) (bytes : List ℕ) → Goes more (member low bytes) (other low (bytes ++ more)))
    → (low : ℕ) (before : List T) (count : ℕ) (bytes : List ℕ)
    → Goes more (members_at key member low before count bytes) (members_at key other low before count (bytes ++ more))
unfolding members_at
goes_members key member other more h low before zero bytes = refl
goes_members key member other more h low before (suc count) bytes =
    goes_bind more _ _ _ _ (h low bytes)
    (λ x rest. goes_members key member other more h (key x + 1) (before ++ x ∷ []) count rest)

-- ---- the record

pub goes_record : (total : ℕ) (bytes more : List ℕ) → Goes more (record_at total bytes)
    (record_at (total + length more) (bytes ++ more))
unfolding record_at
goes_record total bytes more =
    goes_bind more _ _ _ _ (goes_byte_within total 0 64 bytes more) (λ sub_count after_subs.
    goes_bind more _ _ _ _ (goes_byte_within total 0 64 after_subs more) (λ service_count after_services.
    goes_bind more _ _ _ _ (goes_byte_within total 0 64 after_services more) (λ packet_count after_counts.
    goes_bind more _ _ _ _ (goes_members sub_key (read_sub total) (read_sub (total + length more)) more
    (λ low b. goes_sub total low b more) 0 [] sub_count after_counts) (λ subs after_sub_set.
    goes_bind more _ _ _ _ (goes_members service_key (read_service total) (read_service (total + length more)) more
    (λ low b. goes_service total low b more) 0 [] service_count after_sub_set) (λ services after_service_set.
    goes_bind more _ _ _ _ (goes_members packet_key (read_packet total) (read_packet (total + length more)) more
    (λ low b. goes_packet total low b more) 0 [] packet_count after_service_set) (λ packets rest. refl))))))

pub goes_config : (bytes more : List ℕ) → Goes more (config_at bytes) (config_at (bytes ++ more))
goes_config bytes more = rw (length-append bytes more) (goes_record (length bytes) bytes more)

-- ---- the laws of faults

stays_by : {T : Type 0} (more : List ℕ) (r s : Reads T) (fault : RecordFault) → Goes more r s → r ≡ Err fault
    → fault ≢ Short → s ≡ Err fault
stays_by more (Ok x) s fault h e other = absurd (cc)
stays_by more (Err Short) s fault h e other = absurd (let same : Short ≡ fault = cc in other (sym same))
stays_by more _ s fault h e other = h ∙ e

no_fault_read : (c : Configuration) (rest : List ℕ) (fault : RecordFault) → IsConfiguration c
    → config_at (config_bytes c ++ rest) ≡ Err fault → ⊥
no_fault_read c rest fault is e =
    let again = record_again (length (config_bytes c ++ rest)) c rest is in
    absurd (cc)

pub faults_stay : FaultsStay
faults_stay bytes more fault h other =
    let stays = stays_by more (config_at bytes) (config_at (bytes ++ more)) fault (goes_config bytes more) h other in
    (stays, λ c rest is e. no_fault_read c rest fault is (ap config_at (sym e) ∙ stays))

first_by : {T : Type 0} (more : List ℕ) (r s : Reads T) (fault : RecordFault) → Goes more r s → s ≡ Err fault
    → (r ≡ Err Short) ⊎ (r ≡ Err fault)
first_by more (Ok x) s fault h e = absurd (cc)
first_by more (Err Short) s fault h e = inl refl
first_by more _ s fault h e = inr (sym h ∙ e)

pub faults_are_first : FaultsAreFirst
faults_are_first bytes n fault h =
    first_by (drop n bytes) (config_at (take n bytes)) (config_at (take n bytes ++ drop n bytes)) fault
    (goes_config (take n bytes) (drop n bytes)) (ap config_at (take-append-drop n bytes) ∙ h)

rest_of : {T : Type 0} (a b : T) (xs ys : List ℕ) (r : Reads T) → r ≡ Ok (a, xs) → r ≡ Ok (b, ys) → xs ≡ ys
rest_of a b xs ys r h e = ap (λ (p : _). p.1) (ok_is (a, xs) (b, ys) (sym h ∙ e))

none_behind : (ys xs : List ℕ) → xs ++ ys ≡ [] → ys ≡ []
none_behind ys [] same = same
none_behind ys (x ∷ xs) same = absurd (cc)

cut_by : (more : List ℕ) (c : Configuration) (r s : Reads Configuration) → Goes more r s → s ≡ Ok (c, []) → more ≢ []
    → r ≡ Err Short
cut_by more c (Ok x) s h e some = absurd (some (none_behind more x.1 (rest_of x.0 c (x.1 ++ more) [] s h e)))
cut_by more c (Err Short) s h e some = refl
cut_by more c _ s h e some = absurd (cc)

pub cuts_are_short : CutsAreShort
cuts_are_short c n is less =
    let whole = config_bytes c in
    let all : config_at (take n whole ++ drop n whole) ≡ Ok (c, []) =
    ap config_at (take-append-drop n whole ∙ sym (append-nil whole)) ∙ record_again (length (whole ++ [])) c [] is in
    cut_by (drop n whole) c (config_at (take n whole)) (config_at (take n whole ++ drop n whole))
    (goes_config (take n whole) (drop n whole)) all
    (λ none. let left : length (drop n whole) ≡ 0 = ap length none in
    let both : length (take n whole ++ drop n whole) ≡ length whole = ap length (take-append-drop n whole) in
    omega (
      arith,
      less,
      left,
      both,
      length-append (take n whole) (drop n whole),
      length-take-le n whole (omega (arith, less)),
    ))
