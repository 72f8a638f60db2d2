use Rattle.mux_config.proofs.Words.{◌∙◌, ◌≡◌, Configuration, ap, false≢true, is_same_list, is_same_packet}
use Rattle.mux_config.proofs.Words.{is_same_service, is_same_sub, sym}
use Rattle.mux_config.proofs.Same.{list_same, list_equal, sub_same, sub_itself, service_same, service_itself}
use Rattle.mux_config.proofs.Same.{packet_same, packet_itself}
use Rattle.mux_config.proofs.edits.ConfigStore.same.Goals as goal

pub returns-then-not-has_same_subs : goal.returns-then-not-has_same_subs
returns-then-not-has_same_subs c =
    let told : c.has_same_subs.result ≡ is_same_list is_same_sub c.args.self.now.subs c.args.other.now.subs = cc in (
      λ e. absurd (false≢true e),
      λ e. sym c.if-not-has_same_subs.true ∙ told
          ∙ list_equal is_same_sub sub_itself c.args.self.now.subs c.args.other.now.subs
          (ap (λ (x : Configuration). x.subs) e),
    )

pub returns-then-not-has_same_services : goal.returns-then-not-has_same_services
returns-then-not-has_same_services c =
    let told : c.has_same_services.result ≡ is_same_list is_same_service c.args.self.now.services
    c.args.other.now.services = cc in (
      λ e. absurd (false≢true e),
      λ e. sym c.if-not-has_same_services.true ∙ told
          ∙ list_equal is_same_service service_itself c.args.self.now.services c.args.other.now.services
          (ap (λ (x : Configuration). x.services) e),
    )

pub returns : goal.returns
returns c =
    let one : c.has_same_subs.result ≡ is_same_list is_same_sub c.args.self.now.subs c.args.other.now.subs = cc in
    let two : c.has_same_services.result ≡ is_same_list is_same_service c.args.self.now.services
    c.args.other.now.services = cc in
    let three : c.has_same_packets.result ≡ is_same_list is_same_packet c.args.self.now.packets
    c.args.other.now.packets = cc in (
      λ e.
          let subs = list_same is_same_sub sub_same c.args.self.now.subs c.args.other.now.subs
          (sym one ∙ c.if-not-has_same_subs.false) in
          let services = list_same is_same_service service_same c.args.self.now.services c.args.other.now.services
          (sym two ∙ c.if-not-has_same_services.false) in
          let packets = list_same is_same_packet packet_same c.args.self.now.packets c.args.other.now.packets
          (sym three ∙ e) in
          λ i. record { subs = subs i; services = services i; packets = packets i },
      λ e. three ∙ list_equal is_same_packet packet_itself c.args.self.now.packets c.args.other.now.packets
          (ap (λ (x : Configuration). x.packets) e),
    )
