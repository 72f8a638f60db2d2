use Rattle.fib_reader.proofs.Words.{◌<◌, ◌∙◌, ◌≡◌, IsSubOf, ap, identifier_of, number_of, sym}
use Rattle.fib_reader.proofs.Keeping.{each_after, room_for_subs}
use Rattle.fib_reader.proofs.picture.Picture.take_in.Goals as goal

pub invariant_of-self : goal.invariant_of-self
invariant_of-self c =
    let is_sub : c.args.entry.now.ext ≡ 1 = sym c.extension.ensures.value ∙ ap number_of c.in-SubChannels.is in
    let low : identifier_of c.args.entry.now < 64 = rw (← c.identifier-identifier.ensures.value)
    (c.identifier-identifier.ensures.sub is_sub) in
    record {
      subs = each_after IsSubOf c.args.entry.now _ _ c.keep.result (is_sub, low) c.self.invariant.subs
          c.keep.ensures.kept c.keep.ensures.unchanged;
      services = c.self.invariant.services;
      packets = c.self.invariant.packets;
    }

pub invariant_of-self-in-Services : goal.invariant_of-self-in-Services
invariant_of-self-in-Services c =
    let is_service : c.args.entry.now.ext ≡ 2 = sym c.extension.ensures.value ∙ ap number_of c.in-Services.is in
    record {
      subs = c.self.invariant.subs;
      services = each_after (λ raw. raw.ext ≡ 2) c.args.entry.now _ _ c.keep-in-Services.result is_service
          c.self.invariant.services
          c.keep-in-Services.ensures.kept c.keep-in-Services.ensures.unchanged;
      packets = c.self.invariant.packets;
    }

pub invariant_of-self-in-Packets : goal.invariant_of-self-in-Packets
invariant_of-self-in-Packets c =
    let is_packet : c.args.entry.now.ext ≡ 3 = sym c.extension.ensures.value ∙ ap number_of c.in-Packets.is in
    record {
      subs = c.self.invariant.subs;
      services = c.self.invariant.services;
      packets = each_after (λ raw. raw.ext ≡ 3) c.args.entry.now _ _ c.keep-in-Packets.result is_packet
          c.self.invariant.packets
          c.keep-in-Packets.ensures.kept c.keep-in-Packets.ensures.unchanged;
    }

pub returns-in-SubChannels-clause-full : goal.returns-in-SubChannels-clause-full
returns-in-SubChannels-clause-full c = λ no.
    let low : identifier_of c.args.entry.now < 64 = rw (← c.identifier-identifier.ensures.value)
    (c.identifier-identifier.ensures.sub (sym c.extension.ensures.value ∙ ap number_of c.in-SubChannels.is)) in
    let room = room_for_subs c.args.entry.now c.self.inside.subs c.keep.ensures.ascending c.self.invariant.subs low in
    absurd (cc)
