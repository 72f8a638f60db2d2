use Rattle.script_config.proofs.Words.{Entry, IsSaid, IsWithin, raw_entry, subst, sym}
use Rattle.mux_types.specs.declared.entry.Entry.TheVariants.{Packet as PacketOf, Service as ServiceOf, Sub as SubOf}
use Rattle.script_config.proofs.Scriptable.{neither_said, packet_said, service_said, sub_said, unsaid}
use Rattle.script_config.proofs.heard.is_scriptable.Goals as goal

pub returns-in-Some-clause-said : goal.returns-in-Some-clause-said
returns-in-Some-clause-said c =
    λ yes. rw c.in-Sub.is (sub_said c.in-Sub.entry c.in-Some._sub c.in-Some.ensures.member c.in-Some.ensures.value)

pub returns-in-None-clause-unsaid : goal.returns-in-None-clause-unsaid
returns-in-None-clause-unsaid c = λ no.
    subst (λ (e : Entry). IsWithin e → IsSaid (raw_entry e) → ⊥) (sym c.in-Sub.is)
    (λ within. unsaid c.spelling.ensures.tells (SubOf c.in-Sub.entry) within c.in-None.ensures.none
    (λ s h is. absurd (cc))
    (λ p h is. absurd (cc))) c.requires

pub returns-in-Some-service_from_entry-clause-said : goal.returns-in-Some-service_from_entry-clause-said
returns-in-Some-service_from_entry-clause-said c = λ yes.
    rw c.in-Service.is (service_said c.in-Service.entry c.in-Some-service_from_entry._service
    c.in-Some-service_from_entry.ensures.member
    c.in-Some-service_from_entry.ensures.value)

pub returns-in-None-service_from_entry-clause-unsaid : goal.returns-in-None-service_from_entry-clause-unsaid
returns-in-None-service_from_entry-clause-unsaid c = λ no.
    subst (λ (e : Entry). IsWithin e → IsSaid (raw_entry e) → ⊥) (sym c.in-Service.is)
    (λ within. unsaid c.spelling.ensures.tells (ServiceOf c.in-Service.entry) within
    (λ s h is. absurd (cc))
    c.in-None-service_from_entry.ensures.none (λ p h is. absurd (cc))) c.requires

pub returns-in-Some-packet_from_entry-clause-said : goal.returns-in-Some-packet_from_entry-clause-said
returns-in-Some-packet_from_entry-clause-said c = λ yes.
    rw c.in-Packet.is (packet_said c.in-Packet.entry c.in-Some-packet_from_entry._packet
    c.in-Some-packet_from_entry.ensures.member
    c.in-Some-packet_from_entry.ensures.value)

pub returns-in-None-packet_from_entry-clause-unsaid : goal.returns-in-None-packet_from_entry-clause-unsaid
returns-in-None-packet_from_entry-clause-unsaid c = λ no.
    subst (λ (e : Entry). IsWithin e → IsSaid (raw_entry e) → ⊥) (sym c.in-Packet.is)
    (λ within. unsaid c.spelling.ensures.tells (PacketOf c.in-Packet.entry) within
    (λ s h is. absurd (cc))
    (λ s h is. absurd (cc)) c.in-None-packet_from_entry.ensures.none) c.requires

pub returns-in-Ensemble-clause-unsaid : goal.returns-in-Ensemble-clause-unsaid
returns-in-Ensemble-clause-unsaid c =
    λ no. neither_said c.spelling.ensures.tells c.args.entry.now c.requires c.in-Ensemble.is

pub returns-in-Ensemble-2-clause-unsaid : goal.returns-in-Ensemble-2-clause-unsaid
returns-in-Ensemble-2-clause-unsaid c =
    λ no. neither_said c.spelling.ensures.tells c.args.entry.now c.requires c.in-Ensemble.is
