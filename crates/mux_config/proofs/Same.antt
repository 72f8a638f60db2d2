-- Parts that the tests of equality find the same are equal, and so are lists of them and whole configurations.
use Rattle.mux_config.proofs.Words.{[], ◌↔◌, ◌∷◌, ◌≡◌, A, B, Bool, ChangeIsUnique, Component, Configuration, EepSet}
use Rattle.mux_config.proofs.Words.{HaveSameMembers, List, OneRate, Packet, Service, Sid, Sound, Stream, Sub, ap}
use Rattle.mux_config.proofs.Words.{eq-eqb, eqb, eqb-true, false, false≢true, has_same_services, has_same_subs}
use Rattle.mux_config.proofs.Words.{is_same_component, is_same_flag, is_same_list, is_same_packet, is_same_service}
use Rattle.mux_config.proofs.Words.{is_same_set, is_same_sid, is_same_sub, map, not, refl, service_entries}
use Rattle.mux_config.proofs.Words.{sub_entry, subst, sym, true, ℕ}
use Rattle.mux_types.specs.declared.numbers.Sid.TheVariants.{Short, Long}
use Rattle.mux_config.specs.declared.flags.Change.{Change}
use Rattle.mux_types.specs.declared.parts.Component.TheVariants.{Packet as InPackets}
use Rattle.mux_config.proofs.FactSets.{same_members, subs_of_sets, services_of_sets}
use Rattle.std.proofs.lemmas.Bool.{and_parts, and_from}

-- ---- tests

eqb_itself : (n : ℕ) → eqb n n ≡ true
eqb_itself n = eq-eqb n n refl

flag_same : (a b : Bool) → is_same_flag a b ≡ true → a ≡ b
flag_same true b e = sym e
flag_same false true e = absurd (false≢true e)
flag_same false false e = refl

flag_itself : (a : Bool) → is_same_flag a a ≡ true
flag_itself true = refl
flag_itself false = refl

pub list_same : {T : Type 0} (same : T → T → Bool) → ((a b : T) → same a b ≡ true → a ≡ b) → (xs ys : List T)
    → is_same_list same xs ys ≡ true → xs ≡ ys
list_same same told [] [] e = refl
list_same same told (x ∷ xs) (y ∷ ys) e =
    let parts = and_parts (same x y) (is_same_list same xs ys) e in
    let head : x ≡ y = told x y parts.0 in
    let tail : xs ≡ ys = list_same same told xs ys parts.1 in
    cc
list_same same told _ _ e = absurd (false≢true e)

pub list_itself : {T : Type 0} (same : T → T → Bool) → ((a : T) → same a a ≡ true) → (xs : List T)
    → is_same_list same xs xs ≡ true
list_itself same told [] = refl
list_itself same told (x ∷ xs) = and_from _ _ (told x) (list_itself same told xs)

pub list_equal : {T : Type 0} (same : T → T → Bool) → ((a : T) → same a a ≡ true) → (xs ys : List T) → xs ≡ ys
    → is_same_list same xs ys ≡ true
list_equal same told xs ys e = let P : List _ → Type 0 = λ zs. is_same_list same xs zs ≡ true in
    subst P e (list_itself same told xs)

-- ---- the parts of a configuration

set_same : (a b : EepSet) → is_same_set a b ≡ true → a ≡ b
set_same A B e = absurd (false≢true e)
set_same B A e = absurd (false≢true e)
set_same _ _ e = refl

set_itself : (a : EepSet) → is_same_set a a ≡ true
set_itself A = refl
set_itself B = refl

pub sub_same : (a b : Sub) → is_same_sub a b ≡ true → a ≡ b
sub_same a b e =
    let one = and_parts _ _ e in
    let two = and_parts _ _ one.0 in
    let three = and_parts _ _ two.0 in
    let four = and_parts _ _ three.0 in
    let id : a.id ≡ b.id = eqb-true _ _ four.0 in
    let start : a.start ≡ b.start = eqb-true _ _ four.1 in
    let set : a.protection.set ≡ b.protection.set = set_same _ _ three.1 in
    let level : a.protection.level ≡ b.protection.level = eqb-true _ _ two.1 in
    let kbits : a.kbits ≡ b.kbits = eqb-true _ _ one.1 in
    λ i. record { id = id i; start = start i; protection = record { set = set i; level = level i }; kbits = kbits i }

pub sub_itself : (a : Sub) → is_same_sub a a ≡ true
sub_itself a =
    and_from _ _ (and_from _ _
    (and_from _ _ (and_from _ _ (eqb_itself a.id) (eqb_itself a.start)) (set_itself a.protection.set))
    (eqb_itself a.protection.level)) (eqb_itself a.kbits)

pub sid_same : (a b : Sid) → is_same_sid a b ≡ true → a ≡ b
sid_same (Short a) (Short b) e = ap Short (eqb-true a b e)
sid_same (Long a) (Long b) e = ap Long (eqb-true a b e)
sid_same _ _ e = absurd (false≢true e)

pub sid_itself : (a : Sid) → is_same_sid a a ≡ true
sid_itself (Short a) = eqb_itself a
sid_itself (Long a) = eqb_itself a

pub component_same : (m n : Component) → is_same_component m n ≡ true → m ≡ n
component_same (Sound ty sub) (Sound uy tub) e = let parts = and_parts _ _ e in let one : ty ≡ uy =
    eqb-true _ _ parts.0 in let two : sub ≡ tub = eqb-true _ _ parts.1 in cc
component_same (Stream ty sub) (Stream uy tub) e = let parts = and_parts _ _ e in let one : ty ≡ uy =
    eqb-true _ _ parts.0 in let two : sub ≡ tub = eqb-true _ _ parts.1 in cc
component_same (InPackets scid) (InPackets tcid) e = ap InPackets (eqb-true _ _ e)
component_same _ _ e = absurd (false≢true e)

pub component_itself : (m : Component) → is_same_component m m ≡ true
component_itself (Sound ty sub) = and_from _ _ (eqb_itself ty) (eqb_itself sub)
component_itself (Stream ty sub) = and_from _ _ (eqb_itself ty) (eqb_itself sub)
component_itself (InPackets scid) = eqb_itself scid

pub service_same : (a b : Service) → is_same_service a b ≡ true → a ≡ b
service_same a b e =
    let parts = and_parts _ _ e in
    let sid : a.sid ≡ b.sid = sid_same _ _ parts.0 in
    let components : a.components ≡ b.components = list_same is_same_component component_same _ _ parts.1 in
    λ i. record { sid = sid i; components = components i }

pub service_itself : (a : Service) → is_same_service a a ≡ true
service_itself a = and_from _ _ (sid_itself a.sid) (list_itself is_same_component component_itself a.components)

pub packet_same : (p q : Packet) → is_same_packet p q ≡ true → p ≡ q
packet_same p q e =
    let one = and_parts _ _ e in
    let two = and_parts _ _ one.0 in
    let three = and_parts _ _ two.0 in
    let four = and_parts _ _ three.0 in
    let scid : p.scid ≡ q.scid = eqb-true _ _ four.0 in
    let dg : p.dg ≡ q.dg = flag_same _ _ four.1 in
    let ty : p.ty ≡ q.ty = eqb-true _ _ three.1 in
    let sub : p.sub ≡ q.sub = eqb-true _ _ two.1 in
    let address : p.address ≡ q.address = eqb-true _ _ one.1 in
    λ i. record { scid = scid i; dg = dg i; ty = ty i; sub = sub i; address = address i }

pub packet_itself : (p : Packet) → is_same_packet p p ≡ true
packet_itself p =
    and_from _ _ (and_from _ _
    (and_from _ _ (and_from _ _ (eqb_itself p.scid) (flag_itself p.dg)) (eqb_itself p.ty)) (eqb_itself p.sub))
    (eqb_itself p.address)

-- ---- configurations

subs_same : (xs ys : List Sub) → is_same_list is_same_sub xs ys ≡ true → xs ≡ ys
subs_same xs ys e = list_same is_same_sub sub_same xs ys e

subs_itself : (xs ys : List Sub) → xs ≡ ys → is_same_list is_same_sub xs ys ≡ true
subs_itself xs ys e = rw (← e) (list_itself is_same_sub sub_itself xs)

services_same : (c d : Configuration) → has_same_services c d ≡ true → (c.services ≡ d.services)
    × (c.packets ≡ d.packets)
services_same c d e =
    let parts = and_parts _ _ e in (
      list_same is_same_service service_same c.services d.services parts.0,
      list_same is_same_packet packet_same c.packets d.packets parts.1,
    )

services_itself : (c d : Configuration) → c.services ≡ d.services → c.packets ≡ d.packets → has_same_services c d ≡ true
services_itself c d e f =
    and_from _ _
    (subst (λ (zs : List Service). is_same_list is_same_service c.services zs ≡ true) e
    (list_itself is_same_service service_itself c.services))
    (subst (λ (zs : List Packet). is_same_list is_same_packet c.packets zs ≡ true) f
    (list_itself is_same_packet packet_itself c.packets))

-- the negation of a test for a property is the only flag that is true exactly if the property does not hold
flag_told : (flag test : Bool) (P : Type 0) → (test ≡ true → P) → (P → test ≡ true) → ((flag ≡ true) ↔ (P → ⊥))
    ↔ (flag ≡ not test)
flag_told true true P same itself = (λ h. absurd (h.0 refl (same refl)), λ e. absurd (false≢true (sym e)))
flag_told true false P same itself = (λ h. refl, λ e. (λ _ holds. false≢true (itself holds), λ _. refl))
flag_told false true P same itself =
    (λ h. refl, λ e. (λ wrong. absurd (false≢true wrong), λ differ. absurd (differ (same refl))))
flag_told false false P same itself =
    (λ h. absurd (false≢true (h.1 (λ holds. false≢true (itself holds)))), λ e. absurd (false≢true e))

pub change_told : OneRate → ChangeIsUnique
change_told rates c d change h k =
    let subs = flag_told _ _ _ (λ e. same_members (ap (map sub_entry) (subs_same c.subs d.subs e)))
    (λ e. subs_itself _ _ (subs_of_sets rates c d h k e)) in
    let services = flag_told change.services (has_same_services c d)
    (HaveSameMembers (service_entries c) (service_entries d))
    (λ e. let parts = services_same c d e in let equal : service_entries c ≡ service_entries d = cc in
    same_members equal)
    (λ e. let parts = services_of_sets c d h k e in services_itself c d parts.0 parts.1) in (
      λ is. let one : change.subs ≡ not (has_same_subs c d) = subs.0 is.subs in
          λ i. record { subs = one i; services = (services.0 is.services) i },
      λ e. record {
        subs = subs.1 (ap (λ (x : Change). x.subs) e);
        services = services.1 (ap (λ (x : Change). x.services) e);
      },
    )
