-- The packet components after the edits for one of them.
use Rattle.script_config.proofs.Words.{[], ◌<◌, ◌∙◌, ◌∷◌, ◌≡◌, ◌≢◌, AddPacket, Bool, Configuration, DropPacket}
use Rattle.script_config.proofs.Words.{IsAddressed, IsConfiguration, None, Option, Packet, Some, absent_found}
use Rattle.script_config.proofs.Words.{absent_or, add_packet_fault, ap, arith, cond, false, has_bad_address}
use Rattle.script_config.proofs.Words.{is_same_packet, le-ltb, leb, length, lt-leb, ne_eqb, packet_at, packet_gone}
use Rattle.script_config.proofs.Words.{packet_key, packet_new, packet_same, refl}
use Rattle.plan_code.specs.Program.{IsNewPacket}
use Rattle.script_config.proofs.Walks.{Part, Turns, adds, back, joint, removes, turns_gone, turns_unless}

abbrev pub packets : Part Packet
packets = record {
  key = packet_key;
  set = λ c. c.packets;
  rest = λ c. record { subs = c.subs; services = c.services; packets = [] };
  ascends = λ c h. h.packets_ascend;
}

drops : (p : Packet) (c : Configuration) → IsAddressed p → IsConfiguration c → packet_at p.scid c ≡ Some p
    → Turns packets (DropPacket p.scid ∷ []) p.scid None c
drops p c placed h e =
    removes packets (DropPacket p.scid) p.scid c placed.named h (ap (λ (o : Option Packet). absent_or o (λ p. None)) e)
    refl refl

pub new_packet : (p : Packet) → IsAddressed p → IsNewPacket p
new_packet p h = record {
  named = h.named;
  typed = h.typed;
  carried = h.carried;
  to_last = let last = h.to_last in omega (arith, last);
}

addressed_fine : (p : Packet) → IsAddressed p → has_bad_address p ≡ false
addressed_fine p h =
    let some : p.address ≢ 0 = λ e. let from = h.from_one in omega (arith, e, from) in
    rw (ne_eqb p.address 0 some) (le-ltb 1023 p.address h.to_last)

comes_new : (q : Packet) (c : Configuration) → IsAddressed q → IsConfiguration c
    → (packet_at q.scid c ≡ None → length c.packets < 64) → packet_at q.scid c ≡ None
    → Turns packets (AddPacket q ∷ []) q.scid (Some q) c
comes_new q c placed h room e =
    let full : leb 64 (length c.packets) ≡ false = lt-leb 64 (length c.packets) (room e) in
    let fine : add_packet_fault q c ≡ None =
    rw (absent_found packet_key q.scid c.packets e, addressed_fine q placed, full) refl in
    adds packets (AddPacket q) q c (new_packet q placed) h fine refl refl e

-- a packet component that differs from the one that it becomes is dropped
abbrev pub packet_kept : Packet → Packet → Option Packet
packet_kept p q = cond (is_same_packet p q) (Some p) None

pub goes : (o : Option Packet) (p : Packet) (c : Configuration) → IsAddressed p → IsConfiguration c
    → packet_at p.scid c ≡ Some p
    → Turns packets (packet_gone o p) p.scid (joint packet_kept (Some p) o) c
goes None p c placed h e = drops p c placed h e
goes (Some q) p c placed h e =
    turns_gone packets (is_same_packet p q) (DropPacket p.scid) p c h e (drops p c placed h e)

pub comes : (o : Option Packet) (q : Packet) (c : Configuration) → IsAddressed q → IsConfiguration c
    → (packet_at q.scid c ≡ None → length c.packets < 64) → packet_at q.scid c ≡ back packet_kept (Some q) o
    → Turns packets (packet_new o q) q.scid (Some q) c
comes None q c placed h room e = comes_new q c placed h room e
comes (Some p) q c placed h room e =
    turns_unless packets (is_same_packet p q) (AddPacket q ∷ []) q.scid (Some q) c h
    (λ yes. e ∙ ap (λ (b : Bool). cond b (Some p) None) yes ∙ ap Some (packet_same p q yes))
    (λ no. comes_new q c placed h room (e ∙ ap (λ (b : Bool). cond b (Some p) None) no))
