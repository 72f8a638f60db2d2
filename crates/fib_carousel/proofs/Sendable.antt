-- Pages can carry every entry of a configuration.
use Rattle.fib_carousel.proofs.Words.{[], ◌*◌, ◌++◌, ◌+◌, ◌<◌, ◌∷◌, ◌≡◌, ◌≤◌, AllByRecursion, AreSendable, Bool}
use Rattle.fib_carousel.proofs.Words.{Component, Configuration, Entry, IfSome, IsAddressed, IsComponent}
use Rattle.fib_carousel.proofs.Words.{IsComponentEntry, IsConfiguration, IsPlaced, IsSendable, IsService, List, Long}
use Rattle.fib_carousel.proofs.Words.{None, Option, Packet, Service, Short, Sid, Some, Sub, ap, arith}
use Rattle.fib_carousel.proofs.Words.{component_entries, component_entry, component_limit, facts_of, false, length}
use Rattle.fib_carousel.proofs.Words.{length-map, map, marked, option_of, packet_entry, page_set, refl, service_entries}
use Rattle.fib_carousel.proofs.Words.{service_entry, sid_size, sub_entries, sub_entry, suc, true, ℕ}
use Rattle.mux_eep.specs.declared.sizes.EepSet.{EepSet}
use Rattle.mux_eep.specs.declared.sizes.EepSet.TheVariants.{A, B}
use Rattle.mux_types.specs.declared.parts.Component.TheVariants.{Sound, Stream, Packet as InPackets}
use Rattle.fib_carousel.proofs.Words.{AllByRecursion-append}

pub each_map : {A B : Type 0} (f : A → B) (Q : A → Type 0) (P : B → Type 0) (xs : List A) → ((x : A) → Q x → P (f x))
    → AllByRecursion Q xs → AllByRecursion P (map f xs)
each_map f Q P [] h q = tt
each_map f Q P (x ∷ xs) h q = (h x q.0, each_map f Q P xs h q.1)

option_small : (s : EepSet) → option_of s < 8
option_small A = omega arith
option_small B = omega arith

sendable_sub : (next : Bool) (s : Sub) → IsPlaced s → IsSendable (marked next (sub_entry s))
sendable_sub next s p = record {
  organization = omega arith;
  within = record {
    id = p.named;
    start = omega (arith, p.ends);
    option = option_small s.protection.set;
    level = omega (arith, p.to_four);
    size = omega (arith, p.ends);
  };
  small = omega arith;
}

sendable_component : (primary : Bool) (c : Component) → IsComponent c → IsComponentEntry (component_entry primary c)
sendable_component primary (Sound ty sub) h = h
sendable_component primary (Stream ty sub) h = h
sendable_component primary (InPackets scid) h = h

sendable_components : (cs : List Component) → AllByRecursion IsComponent cs
    → AllByRecursion IsComponentEntry (component_entries cs)
sendable_components [] h = tt
sendable_components (c ∷ cs) h = (
  sendable_component true c h.0,
  each_map (component_entry false) IsComponent IsComponentEntry cs
      (sendable_component false) h.1,
)

pub length-component_entries : (cs : List Component) → length (component_entries cs) ≡ length cs
length-component_entries [] = refl
length-component_entries (c ∷ cs) = ap suc (length-map cs (component_entry false))

pub service_small : (sid : Sid) (n : ℕ) → n ≤ component_limit sid → (n ≤ 12) × (sid_size sid + 1 + 2 * n ≤ 27)
service_small (Short k) n h = (h, omega (arith, h))
service_small (Long k) n h = (omega (arith, h), omega (arith, h))

sendable_service : (next : Bool) (s : Service) → IsService s → IsSendable (marked next (service_entry s))
sendable_service next s p =
    let small = service_small s.sid (length s.components) p.few in
    record {
      organization = omega arith;
      within = record {
        sid = p.named;
        ca_id = omega arith;
        few = omega (arith, length-component_entries s.components, small.0);
        components = sendable_components s.components p.within;
      };
      small = omega (arith, length-component_entries s.components, small.1);
    }

sendable_packet : (next : Bool) (p : Packet) → IsAddressed p → IsSendable (marked next (packet_entry p))
sendable_packet next p h = record {
  organization = omega arith;
  within = record {
    scid = h.named;
    rfa = omega arith;
    ty = h.typed;
    sub = h.carried;
    address = omega (arith, h.to_last);
    ca_org = tt;
  };
  small = omega arith;
}

pub sendable_facts : (c : Configuration) (next : Bool) → IsConfiguration c → AreSendable (facts_of c next)
sendable_facts c next h =
    let Fine : Entry → Type 0 = λ e. IsSendable (marked next e) in
    let subs = each_map sub_entry IsPlaced Fine c.subs (sendable_sub next) h.subs_placed in
    let services = each_map service_entry IsService Fine c.services (sendable_service next) h.services_formed in
    let packets = each_map packet_entry IsAddressed Fine c.packets (sendable_packet next) h.packets_addressed in
    each_map (marked next) Fine IsSendable (sub_entries c ++ service_entries c) (λ e p. p)
    (AllByRecursion-append Fine _ _ subs (AllByRecursion-append Fine _ _ services packets))

pub sendable_page_set : (c : Configuration) (o : Option Configuration) → IsConfiguration c → IfSome o IsConfiguration
    → AreSendable (page_set c o)
sendable_page_set c None h n = sendable_facts c false h
sendable_page_set c (Some d) h n = AllByRecursion-append _ _ _ (sendable_facts c false h) (sendable_facts d true n)
