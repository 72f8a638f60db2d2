-- The services after the edits for one of them and its components.
use Rattle.script_config.proofs.Words.{[], ◌++◌, ◌<◌, ◌||◌, ◌∙◌, ◌∷◌, ◌≡◌, ◌≢◌, ◌≤◌, AddComponent, AddService}
use Rattle.script_config.proofs.Words.{AllByRecursion, AreDifferent, Bool, Component, Configuration, DropComponent}
use Rattle.script_config.proofs.Words.{DropService, IdAbsent, IsCarrier, IsComponent, IsConfiguration, IsService, IsSid}
use Rattle.script_config.proofs.Words.{List, Long, None, Option, Service, Short, Sid, Some, absent_found, absent_or}
use Rattle.script_config.proofs.Words.{add_service_fault, after, after_common, ap, append-nil, append_assoc, arith}
use Rattle.script_config.proofs.Words.{carrier_of, carrier_same, component_fault, component_itself, component_limit}
use Rattle.script_config.proofs.Words.{component_same, components_added, components_dropped, cond, drop_component_fault}
use Rattle.script_config.proofs.Words.{entry_holds, eq-eqb, false, false≢true, filter, is_same_carrier}
use Rattle.script_config.proofs.Words.{is_same_component, leb, length, length-append, list_any, lt-leb, names, not}
use Rattle.script_config.proofs.Words.{refl, service_at, service_cut, service_gone, service_grown, service_key, sid_key}
use Rattle.script_config.proofs.Words.{subst, sym, true, with_component, without_carrier}
use Rattle.mux_types.specs.declared.parts.Component.TheVariants.{Packet as InPackets, Sound, Stream}
use Rattle.mux_types.specs.declared.parts.Carrier.{Carrier}
use Rattle.mux_types.specs.declared.parts.Carrier.TheVariants.{Packet as ByPacket, Sub as BySub}
use Rattle.script_config.proofs.Walks.{Part, Turns, adds, alters, back, joint, removes, turns_both, turns_nothing}

abbrev pub services : Part Service
services = record {
  key = service_key;
  set = λ c. c.services;
  rest = λ c. record { subs = c.subs; services = []; packets = c.packets };
  ascends = λ c h. h.services_ascend;
}

abbrev pub service_with : Sid → List Component → Service
service_with sid ms = record { sid = sid; components = ms }

-- ---- carriers

same_itself : (a : Carrier) → is_same_carrier a a ≡ true
same_itself (BySub n) = eq-eqb n n refl
same_itself (ByPacket n) = eq-eqb n n refl

decided : (t : Bool) → (t ≡ true → ⊥) → t ≡ false
decided true h = absurd (h refl)
decided false h = refl

named_not : (m n : Component) → (carrier_of n ≢ carrier_of m) → names (carrier_of m) n ≡ false
named_not m n differ = decided (names (carrier_of m) n) (λ e. differ (carrier_same (carrier_of n) (carrier_of m) e))

found_behind : (ms : List Component) (m : Component) (ns : List Component) (n : Component)
    → AllByRecursion (λ d. carrier_of n ≢ carrier_of d) (ms ++ m ∷ ns) → carrier_of n ≢ carrier_of m
found_behind [] m ns n h = h.0
found_behind (x ∷ ms) m ns n h = found_behind ms m ns n h.1

-- no component before this one has its carrier
last_free : (ms : List Component) (m : Component) (ns : List Component) → AreDifferent (ms ++ m ∷ ns)
    → list_any (names (carrier_of m)) ms ≡ false
last_free [] m ns h = refl
last_free (n ∷ ms) m ns h = rw (named_not m n (found_behind ms m ns n h.0)) (last_free ms m ns h.1)

last_named : (ms : List Component) (m : Component) → list_any (names (carrier_of m)) (ms ++ m ∷ []) ≡ true
last_named [] m = rw (same_itself (carrier_of m)) refl
last_named (n ∷ ms) m = elim (names (carrier_of m) n) as (λ b.
    (b || list_any (names (carrier_of m)) (ms ++ m ∷ [])) ≡ true) [ true ↦ refl | false ↦ last_named ms m ]

either : (a b : Bool) → (a || b) ≡ false → (a ≡ false) × (b ≡ false)
either true b e = absurd (false≢true (sym e))
either false b e = (refl, e)

-- removing its carrier removes only the last component
last_out : (ms : List Component) (m : Component) → list_any (names (carrier_of m)) ms ≡ false
    → filter (λ n. not (names (carrier_of m) n)) (ms ++ m ∷ []) ≡ ms
last_out [] m free = rw (same_itself (carrier_of m)) refl
last_out (n ∷ ms) m free =
    let parts = either (names (carrier_of m) n) (list_any (names (carrier_of m)) ms) free in
    rw parts.0 (ap (λ (xs : List Component). n ∷ xs) (last_out ms m parts.1))

each_behind : (P : Component → Type 0) (ms ns : List Component) → AllByRecursion P (ms ++ ns) → AllByRecursion P ns
each_behind P [] ns h = h
each_behind P (m ∷ ms) ns h = each_behind P ms ns h.1

carrier_formed : (m : Component) → IsComponent m → IsCarrier (carrier_of m)
carrier_formed (Sound ty sub) h = h.1
carrier_formed (Stream ty sub) h = h.1
carrier_formed (InPackets scid) h = h

-- ---- one edit

drops : (s : Service) (c : Configuration) → IsSid s.sid → IsConfiguration c → service_at s.sid c ≡ Some s
    → Turns services (DropService s.sid ∷ []) (sid_key s.sid) None c
drops s c named h e =
    removes services (DropService s.sid) (sid_key s.sid) c named h
    (ap (λ (o : Option Service). absent_or o (λ s. None)) e)
    refl refl

-- dropping the last component
cuts_last : (sid : Sid) (ms : List Component) (m : Component) (c : Configuration) → IsConfiguration c
    → service_at sid c ≡ Some (service_with sid (ms ++ m ∷ []))
    → Turns services (DropComponent sid (carrier_of m) ∷ []) (sid_key sid) (Some (service_with sid ms)) c
cuts_last sid ms m c h e =
    let was : IsService (service_with sid (ms ++ m ∷ [])) =
    entry_holds IsService service_key (sid_key sid) c.services (service_with sid (ms ++ m ∷ [])) h.services_formed e in
    let fine : drop_component_fault sid (carrier_of m) c ≡ None =
    ap (λ (o : Option Service).
    absent_or o (λ s. cond (list_any (names (carrier_of m)) s.components) None (Some IdAbsent))) e
    ∙ ap (λ (b : Bool). cond b None (Some IdAbsent)) (last_named ms m) in
    subst (λ (xs : List Component). Turns services (DropComponent sid (carrier_of m) ∷ []) (sid_key sid)
    (Some (service_with sid xs)) c) (last_out ms m (last_free ms m [] was.carriers))
    (alters services (DropComponent sid (carrier_of m)) (sid_key sid) (without_carrier (carrier_of m))
    (service_with sid (ms ++ m ∷ [])) c
    (was.named, carrier_formed m (each_behind IsComponent ms (m ∷ []) was.within).0) h fine refl refl (λ x. refl) e)

-- dropping components, the last one first
cuts : (sid : Sid) (ms ns : List Component) (c : Configuration) → IsConfiguration c
    → service_at sid c ≡ Some (service_with sid (ms ++ ns))
    → Turns services (components_dropped sid ns) (sid_key sid) (Some (service_with sid ms)) c
cuts sid ms [] c h e = turns_nothing services (sid_key sid) (Some (service_with sid ms)) c h
    (e ∙ ap (λ (xs : List Component). Some (service_with sid xs)) (append-nil ms))
cuts sid ms (n ∷ ns) c h e =
    let more : List Component = ms ++ n ∷ [] in
    let before = cuts sid more ns c h
    (e ∙ ap (λ (xs : List Component). Some (service_with sid xs)) (sym (append_assoc ms (n ∷ []) ns))) in
    turns_both services (components_dropped sid ns) (DropComponent sid (carrier_of n) ∷ []) (sid_key sid)
    (Some (service_with sid more)) (Some (service_with sid ms)) c before
    (cuts_last sid ms n (after (components_dropped sid ns) c) before.formed before.here)

-- adding a component
grows_once : (sid : Sid) (ms : List Component) (m : Component) (c : Configuration) → IsConfiguration c
    → service_at sid c ≡ Some (service_with sid ms)
    → IsComponent m → list_any (names (carrier_of m)) ms ≡ false → length ms < component_limit sid
    → Turns services (AddComponent sid m ∷ []) (sid_key sid) (Some (service_with sid (ms ++ m ∷ []))) c
grows_once sid ms m c h e within free room =
    let full : leb (component_limit sid) (length ms) ≡ false = lt-leb (component_limit sid) (length ms) room in
    let was : IsService (service_with sid ms) =
    entry_holds IsService service_key (sid_key sid) c.services (service_with sid ms) h.services_formed e in
    let good : component_fault m (service_with sid ms) ≡ None = rw (free, full) refl in
    alters services (AddComponent sid m) (sid_key sid) (with_component m) (service_with sid ms) c (was.named, within) h
    (ap (λ (o : Option Service). absent_or o (component_fault m)) e ∙ good) refl refl (λ x. refl) e

-- adding components after others
grows : (sid : Sid) (ms ns : List Component) (c : Configuration) → IsConfiguration c
    → service_at sid c ≡ Some (service_with sid ms)
    → AllByRecursion IsComponent ns → AreDifferent (ms ++ ns) → length (ms ++ ns) ≤ component_limit sid
    → Turns services (components_added sid ns) (sid_key sid) (Some (service_with sid (ms ++ ns))) c
grows sid ms [] c h e within apart few =
    turns_nothing services (sid_key sid) (Some (service_with sid (ms ++ []))) c h
    (e ∙ ap (λ (xs : List Component). Some (service_with sid xs)) (sym (append-nil ms)))
grows sid ms (n ∷ ns) c h e within apart few =
    let more : List Component = ms ++ n ∷ [] in
    let same : more ++ ns ≡ ms ++ n ∷ ns = append_assoc ms (n ∷ []) ns in
    let long = length-append ms (n ∷ ns) in
    let first = grows_once sid ms n c h e within.0 (last_free ms n ns apart) (omega (arith, long, few)) in
    let rest = grows sid more ns (after (AddComponent sid n ∷ []) c) first.formed first.here within.1
    (subst AreDifferent (sym same) apart) (let e' = ap length same in omega (arith, e', few)) in
    turns_both services (AddComponent sid n ∷ []) (components_added sid ns) (sid_key sid)
    (Some (service_with sid more)) (Some (service_with sid (ms ++ n ∷ ns))) c first
    (subst (λ (xs : List Component). Turns services (components_added sid ns) (sid_key sid)
    (Some (service_with sid xs)) (after (AddComponent sid n ∷ []) c)) same rest)

-- adding a service
comes_new : (t : Service) (c : Configuration) → IsService t → IsConfiguration c
    → (service_at t.sid c ≡ None → length c.services < 64) → service_at t.sid c ≡ None
    → Turns services (AddService t.sid ∷ []) (sid_key t.sid) (Some (service_with t.sid [])) c
comes_new t c formed h room e =
    let full : leb 64 (length c.services) ≡ false = lt-leb 64 (length c.services) (room e) in
    let fine : add_service_fault t.sid c ≡ None = rw (absent_found service_key (sid_key t.sid) c.services e, full) refl
    in
    adds services (AddService t.sid) (service_with t.sid []) c formed.named h fine refl refl e

-- ---- the longest common prefix

abbrev pub shared : List Component → List Component → List Component
shared [] ns = []
shared (m ∷ ms) [] = []
shared (m ∷ ms) (n ∷ ns) = cond (is_same_component m n) (m ∷ shared ms ns) []

shared_first_by : (m n : Component) (ms ns : List Component) (b : Bool) → shared ms ns ++ after_common ms ns ≡ ms
    → cond b (m ∷ shared ms ns) [] ++ cond b (after_common ms ns) (m ∷ ms) ≡ m ∷ ms
shared_first_by m n ms ns true rest = ap (λ (xs : List Component). m ∷ xs) rest
shared_first_by m n ms ns false rest = refl

pub shared_first : (ms ns : List Component) → shared ms ns ++ after_common ms ns ≡ ms
shared_first [] ns = refl
shared_first (m ∷ ms) [] = refl
shared_first (m ∷ ms) (n ∷ ns) = shared_first_by m n ms ns (is_same_component m n) (shared_first ms ns)

shared_second_by : (m n : Component) (ms ns : List Component) (a b : Bool) → is_same_component m n ≡ a
    → is_same_component n m ≡ b → shared ms ns ++ after_common ns ms ≡ ns → cond a (m ∷ shared ms ns) []
    ++ cond b (after_common ns ms) (n ∷ ns) ≡ n ∷ ns
shared_second_by m n ms ns true true one other rest = let same : m ≡ n = component_same m n one in
    let first : m ∷ ns ≡ n ∷ ns = ap (λ (x : Component). x ∷ ns) same in
    ap (λ (xs : List Component). m ∷ xs) rest ∙ first
shared_second_by m n ms ns true false one other rest =
    let same : m ≡ n = component_same m n one in
    let yes : is_same_component n m ≡ true =
    subst (λ (x : Component). is_same_component n x ≡ true) (sym same) (component_itself n) in
    absurd (false≢true (sym other ∙ yes))
shared_second_by m n ms ns false true one other rest =
    let same : n ≡ m = component_same n m other in
    let yes : is_same_component m n ≡ true =
    subst (λ (x : Component). is_same_component m x ≡ true) (sym same) (component_itself m) in
    absurd (false≢true (sym one ∙ yes))
shared_second_by m n ms ns false false one other rest = refl

pub shared_second : (ms ns : List Component) → shared ms ns ++ after_common ns ms ≡ ns
shared_second [] [] = refl
shared_second [] (n ∷ ns) = refl
shared_second (m ∷ ms) [] = refl
shared_second (m ∷ ms) (n ∷ ns) =
    shared_second_by m n ms ns (is_same_component m n) (is_same_component n m) refl refl (shared_second ms ns)

-- ---- SIds

pub sid_told : (a b : Sid) → IsSid a → IsSid b → sid_key a ≡ sid_key b → a ≡ b
sid_told (Short m) (Short n) h k e = ap Short e
sid_told (Short m) (Long n) h k e = absurd (omega (arith, h, e))
sid_told (Long m) (Short n) h k e = absurd (omega (arith, k, e))
sid_told (Long m) (Long n) h k e = let same : m ≡ n = omega (arith, e) in ap Long same

-- ---- the three walks over services

-- one that stays loses the components after the common prefix
abbrev pub service_kept : Service → Service → Option Service
service_kept s t = Some s

abbrev pub service_short : Service → Service → Option Service
service_short s t = Some (service_with s.sid (shared s.components t.components))

pub goes : (o : Option Service) (s : Service) (c : Configuration) → IsService s → IsConfiguration c
    → service_at s.sid c ≡ Some s
    → Turns services (service_gone o s) (sid_key s.sid) (joint service_kept (Some s) o) c
goes None s c formed h e = drops s c formed.named h e
goes (Some t) s c formed h e = turns_nothing services (sid_key s.sid) (Some s) c h e

pub stays : (o : Option Service) (s : Service) (c : Configuration) → IsConfiguration c
    → service_at s.sid c ≡ joint service_kept (Some s) o
    → Turns services (service_cut o s) (sid_key s.sid) (joint service_short (Some s) o) c
stays None s c h e = turns_nothing services (sid_key s.sid) None c h e
stays (Some t) s c h e =
    let parted : s ≡ service_with s.sid (shared s.components t.components ++ after_common s.components t.components) =
    λ i. record { sid = s.sid; components = sym (shared_first s.components t.components) i } in
    cuts s.sid (shared s.components t.components) (after_common s.components t.components) c h (e ∙ ap Some parted)

pub comes : (o : Option Service) (t : Service) (c : Configuration) → ((s : Service) → o ≡ Some s → s.sid ≡ t.sid)
    → IsService t → IsConfiguration c → (service_at t.sid c ≡ None → length c.services < 64)
    → service_at t.sid c ≡ back service_short (Some t) o
    → Turns services (service_grown o t) (sid_key t.sid) (Some t) c
comes None t c same formed h room e =
    let first = comes_new t c formed h room e in
    turns_both services (AddService t.sid ∷ []) (components_added t.sid t.components) (sid_key t.sid)
    (Some (service_with t.sid [])) (Some t) c first
    (grows t.sid [] t.components (after (AddService t.sid ∷ []) c) first.formed first.here formed.within
    formed.carriers formed.few)
comes (Some s) t c same formed h room e =
    let old : List Component = shared s.components t.components in
    let new : List Component = after_common t.components s.components in
    let whole : old ++ new ≡ t.components = shared_second s.components t.components in
    let found : service_at t.sid c ≡ Some (service_with t.sid old) =
    e ∙ ap (λ (x : Sid). Some (service_with x old)) (same s refl) in
    subst (λ (xs : List Component). Turns services (components_added t.sid new) (sid_key t.sid)
    (Some (service_with t.sid xs)) c) whole
    (grows t.sid old new c h found
    (each_behind IsComponent old new (subst (AllByRecursion IsComponent) (sym whole) formed.within))
    (subst AreDifferent (sym whole) formed.carriers)
    (let e' = ap length whole in let few = formed.few in omega (arith, e', few)))
