-- Whether two configurations are the same can be computed.
use Rattle.schedule_runs.proofs.Words.{◌&&◌, ◌≡◌, ◌≢◌, Bool, Configuration, and_from, and_parts, ap, false, false≢true}
use Rattle.schedule_runs.proofs.Words.{is_same_list, is_same_packet, is_same_service, is_same_sub, list_itself}
use Rattle.schedule_runs.proofs.Words.{list_same, packet_itself, packet_same, service_itself, service_same}
use Rattle.schedule_runs.proofs.Words.{sub_itself, sub_same, sym, true, ◌∙◌}

abbrev pub is_same : Configuration → Configuration → Bool
is_same c d =
    is_same_list is_same_sub c.subs d.subs
    && (is_same_list is_same_service c.services d.services && is_same_list is_same_packet c.packets d.packets)

pub same_if : (c d : Configuration) → is_same c d ≡ true → c ≡ d
same_if c d e =
    let parts = and_parts _ _ e in
    let others = and_parts _ _ parts.1 in
    let subs : c.subs ≡ d.subs = list_same is_same_sub sub_same _ _ parts.0 in
    let services : c.services ≡ d.services = list_same is_same_service service_same _ _ others.0 in
    let packets : c.packets ≡ d.packets = list_same is_same_packet packet_same _ _ others.1 in
    λ i. record { subs = subs i; services = services i; packets = packets i }

same_itself : (c : Configuration) → is_same c c ≡ true
same_itself c =
    and_from _ _ (list_itself is_same_sub sub_itself c.subs)
    (and_from _ _ (list_itself is_same_service service_itself c.services)
    (list_itself is_same_packet packet_itself c.packets))

pub same_not : (c d : Configuration) → is_same c d ≡ false → c ≢ d
same_not c d differ e = false≢true (sym differ ∙ sym (ap (λ x. is_same c x) e) ∙ same_itself c)
