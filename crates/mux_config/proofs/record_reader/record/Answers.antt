use Rattle.mux_config.proofs.Words.{◌-◌, ◌∙◌, ◌≡◌, Configuration, List, Ok, RecordFault, Result, ap, arith, config_at}
use Rattle.mux_config.proofs.Words.{drop, length, sym, ℕ}
use Rattle.mux_config.proofs.RecordLaws.{read_in_turn, left}
use Rattle.mux_config.proofs.record_reader.record.Goals as goal

abbrev found : goal.After-place → Configuration
found c = record { subs = c.in_ok-subs.subs; services = c.in_ok-services.services; packets = c.in_ok-packets.packets }

read_is : (c : goal.After-place) → config_at c.args.bytes.now ≡ Ok (found c, c.members-3.new.reader.rest)
read_is c =
    read_in_turn c.args.bytes.now c.new-reader.result.rest c.byte_within.new.self.rest c.byte_within-2.new.self.rest
    c.byte_within-3.new.self.rest
    c.members.new.reader.rest c.members-2.new.reader.rest c.members-3.new.reader.rest
    c.new-reader.result.total c.byte_within.new.self.total c.byte_within-2.new.self.total c.byte_within-3.new.self.total
    c.members.new.reader.total c.members-2.new.reader.total
    c.in_ok-sub_count.sub_count c.in_ok-service_count.service_count c.in_ok-packet_count.packet_count (found c)
    c.new-reader.ensures.rest c.new-reader.ensures.total
    c.in_ok-sub_count.ensures.total c.in_ok-service_count.ensures.total c.in_ok-packet_count.ensures.total
    c.in_ok-subs.ensures.total c.in_ok-services.ensures.total
    c.in_ok-sub_count.ensures.read c.in_ok-service_count.ensures.read c.in_ok-packet_count.ensures.read
    c.in_ok-subs.ensures.read c.in_ok-services.ensures.read c.in_ok-packets.ensures.read

place_is : (c : goal.After-place) → c.place.result ≡ length c.args.bytes.now - length c.members-3.new.reader.rest
place_is c =
    c.place.ensures.value
    ∙ ap (λ (t : ℕ). t - length c.members-3.new.reader.rest)
    (c.in_ok-packets.ensures.total ∙ c.in_ok-services.ensures.total ∙ c.in_ok-subs.ensures.total
    ∙ c.in_ok-packet_count.ensures.total
    ∙ c.in_ok-service_count.ensures.total ∙ c.in_ok-sub_count.ensures.total ∙ c.new-reader.ensures.total)

pub invariant_of-config : goal.invariant_of-config
invariant_of-config c = (left c.args.bytes.now (found c, c.members-3.new.reader.rest)
    (λ i. omega (arith, c.type_inv.bytes i)) (read_is c)).2

abbrev answer : Configuration × List ℕ → Result (Configuration × List ℕ) RecordFault
answer x = Ok x

pub returns-clause-read : goal.returns-clause-read
returns-clause-read c =
    let rest = (left c.args.bytes.now (found c, c.members-3.new.reader.rest) (λ i. omega (arith, c.type_inv.bytes i))
    (read_is c)).1 in
    read_is c ∙ ap (λ (r : List ℕ). answer (found c, r))
    (sym rest ∙ ap (λ (n : ℕ). drop n c.args.bytes.now) (sym (place_is c)))

pub returns-clause-whole : goal.returns-clause-whole
returns-clause-whole c =
    place_is c ∙ (left c.args.bytes.now (found c, c.members-3.new.reader.rest) (λ i. omega (arith, c.type_inv.bytes i))
    (read_is c)).0
