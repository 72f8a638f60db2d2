-- The edits that turn one configuration into another, walk by walk.
use Rattle.script_config.proofs.Words.{◌++◌, ◌∙◌, ◌≡◌, AllByRecursion, Configuration, Edit, IsAddressed}
use Rattle.script_config.proofs.Words.{IsConfiguration, IsEdit, IsPlaced, IsService, List, SizesGrow, Transform, after}
use Rattle.script_config.proofs.Words.{ap, arith, edits_between, edits_that_make, entry_holds, entry_key, flat_map}
use Rattle.script_config.proofs.Words.{nothing, packet_at, packet_gone, packet_new, refl, service_at, service_cut}
use Rattle.script_config.proofs.Words.{service_gone, service_grown, service_key, sid_key, sub_altered, sub_at, sub_gone}
use Rattle.script_config.proofs.Words.{sub_key, sub_new, sym}
use Rattle.script_config.proofs.PacketSteps as packets
use Rattle.script_config.proofs.ServiceTurns as services
use Rattle.script_config.proofs.SubTurns as subs
use Rattle.script_config.proofs.Walks.{AreGood, Arrives, Holds, IsWalk, after_both, arrive, good_both, good_fine}
use Rattle.script_config.proofs.Walks.{good_ranged, joint, still, walk, walked}

-- ---- the walks that add members

subs_walk : (c : Configuration) → IsConfiguration c → IsWalk subs.subs IsPlaced c.subs
subs_walk c h = record { ascends = h.subs_ascend; few = h.subs_few; each = h.subs_placed }

services_walk : (c : Configuration) → IsConfiguration c → IsWalk services.services IsService c.services
services_walk c h = record { ascends = h.services_ascend; few = h.services_few; each = h.services_formed }

packets_walk : (c : Configuration) → IsConfiguration c → IsWalk packets.packets IsAddressed c.packets
packets_walk c h = record { ascends = h.packets_ascend; few = h.packets_few; each = h.packets_addressed }

subs_come : (from to c : Configuration) → IsConfiguration to → IsConfiguration c
    → Holds subs.subs (joint subs.sub_turned) from.subs to.subs c
    → Arrives subs.subs (flat_map (λ t. sub_new (sub_at t.id from) t) to.subs) to.subs c
subs_come from to c t h is =
    arrive subs.subs IsPlaced (λ t. sub_new (sub_at t.id from) t) subs.sub_turned from.subs to.subs c
    (λ x d placed formed room found. subs.comes (sub_at x.id from) x d placed formed found) (subs_walk to t) h is

packets_come : (from to c : Configuration) → IsConfiguration to → IsConfiguration c
    → Holds packets.packets (joint packets.packet_kept) from.packets to.packets c
    → Arrives packets.packets (flat_map (λ q. packet_new (packet_at q.scid from) q) to.packets) to.packets c
packets_come from to c t h is =
    arrive packets.packets IsAddressed (λ q. packet_new (packet_at q.scid from) q) packets.packet_kept from.packets
    to.packets c
    (λ x d placed formed room found. packets.comes (packet_at x.scid from) x d placed formed room found)
    (packets_walk to t) h is

services_come : (from to c : Configuration) → IsConfiguration from → IsConfiguration to → IsConfiguration c
    → Holds services.services (joint services.service_short) from.services to.services c
    → Arrives services.services (flat_map (λ t. service_grown (service_at t.sid from) t) to.services) to.services c
services_come from to c f t h is =
    arrive services.services IsService (λ t. service_grown (service_at t.sid from) t) services.service_short
    from.services to.services c
    (λ x d placed formed room found. services.comes (service_at x.sid from) x d
    (λ s at. let was : IsService s = entry_holds IsService service_key (sid_key x.sid) from.services s
    f.services_formed at in
    services.sid_told s.sid x.sid was.named placed.named (entry_key service_key (sid_key x.sid) from.services s at))
    placed formed room found)
    (services_walk to t) h is

-- ---- all edits between two configurations

-- each is in range and has no fault, and together they make the other configuration
record Leads (es : List Edit) (from to : Configuration) : Type 0 where
  pub good : AreGood es from
  pub arrive : after es from ≡ to

between : SizesGrow → (from to : Configuration) → IsConfiguration from → IsConfiguration to
    → Leads (edits_between from to) from to
between grow from to f t =
    let e1 : List Edit = flat_map (λ s. service_gone (service_at s.sid to) s) from.services in
    let e2 : List Edit = flat_map (λ s. service_cut (service_at s.sid to) s) from.services in
    let e3 : List Edit = flat_map (λ p. packet_gone (packet_at p.scid to) p) from.packets in
    let e4 : List Edit = flat_map (λ s. sub_gone (sub_at s.id to) s) from.subs in
    let e5 : List Edit = flat_map (λ s. sub_altered (sub_at s.id to) s) from.subs in
    let e6 : List Edit = flat_map (λ t. sub_new (sub_at t.id from) t) to.subs in
    let e7 : List Edit = flat_map (λ q. packet_new (packet_at q.scid from) q) to.packets in
    let e8 : List Edit = flat_map (λ t. service_grown (service_at t.sid from) t) to.services in
    let c1 : Configuration = after e1 from in
    let c2 : Configuration = after e2 c1 in
    let c3 : Configuration = after e3 c2 in
    let c4 : Configuration = after e4 c3 in
    let c5 : Configuration = after e5 c4 in
    let c6 : Configuration = after e6 c5 in
    let c7 : Configuration = after e7 c6 in
    let c8 : Configuration = after e8 c7 in
    let v1 = walk services.services IsService (λ s. service_gone (service_at s.sid to) s) walked
    (joint services.service_kept) from.services to.services from (λ o. (refl, refl))
    (λ s d member formed room is. services.goes (service_at s.sid to) s d member formed is) (services_walk from f) f
    (λ k. refl) in
    let v2 = walk services.services IsService (λ s. service_cut (service_at s.sid to) s) (joint services.service_kept)
    (joint services.service_short) from.services to.services c1 (λ o. (refl, refl))
    (λ s d member formed room is. services.stays (service_at s.sid to) s d formed is) (services_walk from f) v1.formed
    v1.holds in
    let but_services = v2.rest ∙ v1.rest in
    let p3 = walk packets.packets IsAddressed (λ p. packet_gone (packet_at p.scid to) p) walked
    (joint packets.packet_kept) from.packets to.packets c2 (λ o. (refl, refl))
    (λ p d member formed room is. packets.goes (packet_at p.scid to) p d member formed is) (packets_walk from f)
    v2.formed
    (still packets.packets walked from.packets to.packets from c2 (ap (λ (c : Configuration). c.packets) but_services)
    (λ k. refl)) in
    let s4 = walk subs.subs IsPlaced (λ s. sub_gone (sub_at s.id to) s) walked (joint subs.sub_kept) from.subs to.subs
    c3
    (λ o. (refl, refl)) (λ s d member formed room is. subs.goes (sub_at s.id to) s d member formed is)
    (subs_walk from f)
    p3.formed
    (still subs.subs walked from.subs to.subs from c3
    (ap (λ (c : Configuration). c.subs) p3.rest ∙ ap (λ (c : Configuration). c.subs) but_services) (λ k. refl)) in
    let s5 = walk subs.subs IsPlaced (λ s. sub_altered (sub_at s.id to) s) (joint subs.sub_kept) (joint subs.sub_turned)
    from.subs to.subs c4 (λ o. (refl, refl))
    (λ s d member formed room is. subs.stays grow (sub_at s.id to) s d member
    (λ x found. (
      entry_holds IsPlaced sub_key s.id to.subs x t.subs_placed found,
      sym (entry_key sub_key s.id to.subs x found),
    )) formed is)
    (subs_walk from f) s4.formed s4.holds in
    let s6 = subs_come from to c5 t s5.formed s5.holds in
    let but_subs = s6.rest ∙ s5.rest ∙ s4.rest in
    let p7 = packets_come from to c6 t s6.formed
    (still packets.packets (joint packets.packet_kept) from.packets to.packets c3 c6
    (ap (λ (c : Configuration). c.packets) but_subs) p3.holds) in
    let v8 = services_come from to c7 f t p7.formed
    (still services.services (joint services.service_short) from.services to.services c2 c7
    (ap (λ (c : Configuration). c.services) p7.rest ∙ ap (λ (c : Configuration). c.services) but_subs
    ∙ ap (λ (c : Configuration). c.services) p3.rest) v2.holds) in
    let subs_same : c8.subs ≡ to.subs =
    ap (λ (c : Configuration). c.subs) v8.rest ∙ ap (λ (c : Configuration). c.subs) p7.rest ∙ s6.set in
    let packets_same : c8.packets ≡ to.packets = ap (λ (c : Configuration). c.packets) v8.rest ∙ p7.set in
    let last : c8 ≡ to = λ i. record { subs = subs_same i; services = v8.set i; packets = packets_same i } in
    record {
      good = good_both e1 (e2 ++ (e3 ++ (e4 ++ (e5 ++ (e6 ++ (e7 ++ e8)))))) from v1.fine
          (good_both e2 (e3 ++ (e4 ++ (e5 ++ (e6 ++ (e7 ++ e8))))) c1 v2.fine
          (good_both e3 (e4 ++ (e5 ++ (e6 ++ (e7 ++ e8)))) c2 p3.fine
          (good_both e4 (e5 ++ (e6 ++ (e7 ++ e8))) c3 s4.fine
          (good_both e5 (e6 ++ (e7 ++ e8)) c4 s5.fine
          (good_both e6 (e7 ++ e8) c5 s6.fine
          (good_both e7 e8 c6 p7.fine v8.fine))))));
      arrive =
          after_both e1 (e2 ++ (e3 ++ (e4 ++ (e5 ++ (e6 ++ (e7 ++ e8)))))) from
          ∙ after_both e2 (e3 ++ (e4 ++ (e5 ++ (e6 ++ (e7 ++ e8))))) c1
          ∙ after_both e3 (e4 ++ (e5 ++ (e6 ++ (e7 ++ e8)))) c2
          ∙ after_both e4 (e5 ++ (e6 ++ (e7 ++ e8))) c3
          ∙ after_both e5 (e6 ++ (e7 ++ e8)) c4
          ∙ after_both e6 (e7 ++ e8) c5
          ∙ after_both e7 e8 c6 ∙ last;
    }

pub leads : SizesGrow → (from to : Configuration) → IsConfiguration from → IsConfiguration to
    → Transform (edits_between from to) from to
leads grow from to f t =
    let all = between grow from to f t in
    record { fine = good_fine (edits_between from to) from all.good; arrive = all.arrive }

pub between_formed : SizesGrow → (from to : Configuration) → IsConfiguration from → IsConfiguration to
    → AllByRecursion IsEdit (edits_between from to)
between_formed grow from to f t = good_ranged (edits_between from to) from (between grow from to f t).good

-- ---- from the empty configuration

nothing_formed : IsConfiguration nothing
nothing_formed = record {
  subs_ascend = tt;
  services_ascend = tt;
  packets_ascend = tt;
  subs_placed = tt;
  services_formed = tt;
  packets_addressed = tt;
  subs_few = omega arith;
  services_few = omega arith;
  packets_few = omega arith;
}

pub makes : (c : Configuration) → IsConfiguration c → Transform (edits_that_make c) nothing c
makes c h =
    let e1 : List Edit = flat_map (λ t. sub_new (sub_at t.id nothing) t) c.subs in
    let e2 : List Edit = flat_map (λ t. service_grown (service_at t.sid nothing) t) c.services in
    let e3 : List Edit = flat_map (λ q. packet_new (packet_at q.scid nothing) q) c.packets in
    let d1 : Configuration = after e1 nothing in
    let d2 : Configuration = after e2 d1 in
    let d3 : Configuration = after e3 d2 in
    let s1 = subs_come nothing c nothing h nothing_formed (λ k. refl) in
    let v2 = services_come nothing c d1 nothing_formed h s1.formed
    (still services.services (joint services.service_short) nothing.services c.services nothing d1
    (ap (λ (d : Configuration). d.services) s1.rest) (λ k. refl)) in
    let p3 = packets_come nothing c d2 h v2.formed
    (still packets.packets (joint packets.packet_kept) nothing.packets c.packets nothing d2
    (ap (λ (d : Configuration). d.packets) v2.rest ∙ ap (λ (d : Configuration). d.packets) s1.rest) (λ k. refl)) in
    let subs_same : d3.subs ≡ c.subs =
    ap (λ (d : Configuration). d.subs) p3.rest ∙ ap (λ (d : Configuration). d.subs) v2.rest ∙ s1.set in
    let services_same : d3.services ≡ c.services = ap (λ (d : Configuration). d.services) p3.rest ∙ v2.set in
    let last : d3 ≡ c = λ i. record { subs = subs_same i; services = services_same i; packets = p3.set i } in
    record {
      fine = good_fine (e1 ++ (e2 ++ e3)) nothing
          (good_both e1 (e2 ++ e3) nothing s1.fine (good_both e2 e3 d1 v2.fine p3.fine));
      arrive = after_both e1 (e2 ++ e3) nothing ∙ after_both e2 e3 d1 ∙ last;
    }
