-- Sets of entries identify a configuration: configurations with the same set are equal.
use Rattle.mux_config.proofs.Words.{◌++◌, ◌∙◌, ◌≡◌, AllByRecursion, Bool, Configuration, Contains, Entry}
use Rattle.mux_config.proofs.Words.{FactSetsIdentify, HaveSameMembers, IsConfiguration, IsPlaced, List, Marked, OneRate}
use Rattle.mux_config.proofs.Words.{Packet, Service, ap, each_contains, false, false≢true, inl, inr, map, marked}
use Rattle.mux_config.proofs.Words.{packet_entry, packet_key, refl, service_entries, service_entry, service_key}
use Rattle.mux_config.proofs.Words.{sub_entries, sub_entry, sub_key, subst, sym, true}
use Rattle.std.proofs.lemmas.List.Elements.{Contains-append_left, Contains-append_right, Contains-append_cases}
use Rattle.mux_types.proofs.Members.{one_list, mapped_to, mapped_from}
use Rattle.mux_config.proofs.Distinguishing.{is_sub, is_service, each_holds, each_map, each_join, sub_told}
use Rattle.mux_config.proofs.Distinguishing.{service_told, packet_told}

-- ---- sets

pub same_members : {T : Type 0} {xs ys : List T} → xs ≡ ys → HaveSameMembers xs ys
same_members e = λ x. (λ h. subst (λ zs. Contains zs x) e h, λ h. subst (λ zs. Contains zs x) (sym e) h)

-- if the images of members distinguish them, a member is found among others by its image
member_told : {T U : Type 0} (f : T → U) (P : T → Type 0) → ((a b : T) → P a → P b → f a ≡ f b → a ≡ b)
    → (xs ys : List T) → AllByRecursion P xs → AllByRecursion P ys
    → ((z : U) → Contains (map f xs) z → Contains (map f ys) z) → (x : T) → Contains xs x → Contains ys x
member_told f P told xs ys h k inside x there =
    let found = mapped_to f ys (f x) (inside (f x) (mapped_from f xs x there)) in
    rw (← told found.0 x (each_contains P ys found.0 k found.1) (each_contains P xs x h there) found.2) found.1

members_told : {T U : Type 0} (f : T → U) (P : T → Type 0) → ((a b : T) → P a → P b → f a ≡ f b → a ≡ b)
    → (xs ys : List T) → AllByRecursion P xs → AllByRecursion P ys → HaveSameMembers (map f xs) (map f ys)
    → HaveSameMembers xs ys
members_told f P told xs ys h k same =
    λ x. (member_told f P told xs ys h k (λ z. (same z).0) x, member_told f P told ys xs k h (λ z. (same z).1) x)

-- if a test is true for each member of the first part and for none of the second, the parts of a set are determined
first_inside : {T : Type 0} (test : T → Bool) (xs rs ys ts : List T) → AllByRecursion (λ x. test x ≡ true) xs
    → AllByRecursion (λ x. test x ≡ false) ts → ((z : T) → Contains (xs ++ rs) z → Contains (ys ++ ts) z) → (z : T)
    → Contains xs z → Contains ys z
first_inside test xs rs ys ts h k inside z there =
    elim (Contains-append_cases ys ts z (inside z (Contains-append_left xs rs z there))) [
      | inl first ↦ first
      | inr second ↦ absurd (false≢true (sym (each_contains (λ x. test x ≡ false) ts z k second)
          ∙ each_contains (λ x. test x ≡ true) xs z h there))
    ]

second_inside : {T : Type 0} (test : T → Bool) (xs rs ys ts : List T) → AllByRecursion (λ x. test x ≡ false) rs
    → AllByRecursion (λ x. test x ≡ true) ys → ((z : T) → Contains (xs ++ rs) z → Contains (ys ++ ts) z) → (z : T)
    → Contains rs z → Contains ts z
second_inside test xs rs ys ts h k inside z there =
    elim (Contains-append_cases ys ts z (inside z (Contains-append_right xs rs z there))) [
      | inl first ↦ absurd (false≢true (sym (each_contains (λ x. test x ≡ false) rs z h there)
          ∙ each_contains (λ x. test x ≡ true) ys z k first))
      | inr second ↦ second
    ]

parts_of_sets : {T : Type 0} (test : T → Bool) (xs rs ys ts : List T) → AllByRecursion (λ x. test x ≡ true) xs
    → AllByRecursion (λ x. test x ≡ true) ys → AllByRecursion (λ x. test x ≡ false) rs
    → AllByRecursion (λ x. test x ≡ false) ts → HaveSameMembers (xs ++ rs) (ys ++ ts) → HaveSameMembers xs ys
    × HaveSameMembers rs ts
parts_of_sets test xs rs ys ts h k i j same = (
  λ z. (first_inside test xs rs ys ts h j (λ x. (same x).0) z, first_inside test ys ts xs rs k i (λ x. (same x).1) z),
  λ z. (second_inside test xs rs ys ts i k (λ x. (same x).0) z, second_inside test ys ts xs rs j h (λ x. (same x).1) z),
)

-- ---- the entries of a configuration

pub subs_of_sets : OneRate → (c d : Configuration) → IsConfiguration c → IsConfiguration d
    → HaveSameMembers (sub_entries c) (sub_entries d) → c.subs ≡ d.subs
subs_of_sets rates c d h k same =
    one_list sub_key c.subs d.subs h.subs_ascend k.subs_ascend
    (members_told sub_entry IsPlaced (sub_told rates) c.subs d.subs h.subs_placed k.subs_placed same)

services_first : (c : Configuration) → AllByRecursion (λ x. is_service x ≡ true) (map service_entry c.services)
services_first c = each_map service_entry (λ x. is_service x ≡ true) (λ s. refl) c.services

packets_second : (c : Configuration) → AllByRecursion (λ x. is_service x ≡ false) (map packet_entry c.packets)
packets_second c = each_map packet_entry (λ x. is_service x ≡ false) (λ p. refl) c.packets

pub services_of_sets : (c d : Configuration) → IsConfiguration c → IsConfiguration d
    → HaveSameMembers (service_entries c) (service_entries d) → (c.services ≡ d.services) × (c.packets ≡ d.packets)
services_of_sets c d h k same =
    let parts = parts_of_sets is_service (map service_entry c.services) (map packet_entry c.packets)
    (map service_entry d.services) (map packet_entry d.packets)
    (services_first c) (services_first d) (packets_second c) (packets_second d) same in (
      one_list service_key c.services d.services h.services_ascend k.services_ascend
          (members_told service_entry (λ (x : Service). Unit {0}) (λ x y _ _. service_told x y) c.services d.services
          (each_holds c.services) (each_holds d.services) parts.0),
      one_list packet_key c.packets d.packets h.packets_ascend k.packets_ascend
          (members_told packet_entry (λ (x : Packet). Unit {0}) (λ x y _ _. packet_told x y) c.packets d.packets
          (each_holds c.packets) (each_holds d.packets) parts.1),
    )

subs_first : (c : Configuration) → AllByRecursion (λ x. is_sub x ≡ true) (sub_entries c)
subs_first c = each_map sub_entry (λ x. is_sub x ≡ true) (λ s. refl) c.subs

services_second : (c : Configuration) → AllByRecursion (λ x. is_sub x ≡ false) (service_entries c)
services_second c =
    each_join (λ x. is_sub x ≡ false) (map service_entry c.services) (map packet_entry c.packets)
    (each_map service_entry (λ x. is_sub x ≡ false) (λ s. refl) c.services)
    (each_map packet_entry (λ x. is_sub x ≡ false) (λ p. refl) c.packets)

pub fact_sets_tell : OneRate → FactSetsIdentify
fact_sets_tell rates c d next h k same =
    let plain = members_told (marked next) (λ (x : Entry). Unit {0}) (λ x y _ _ e. ap (λ (m : Marked). m.entry) e)
    (sub_entries c ++ service_entries c) (sub_entries d ++ service_entries d) (each_holds _) (each_holds _) same in
    let parts = parts_of_sets _ _ _ _ _ (subs_first c) (subs_first d) (services_second c) (services_second d) plain in
    let subs : c.subs ≡ d.subs = subs_of_sets rates c d h k parts.0 in
    let rest = services_of_sets c d h k parts.1 in
    let services : c.services ≡ d.services = rest.0 in
    let packets : c.packets ≡ d.packets = rest.1 in
    λ i. record { subs = subs i; services = services i; packets = packets i }
