use Rattle.stream_check.proofs.Words.{◌≢◌, Heard}
use Rattle.stream_check.proofs.Tables.{each_heard}
use Rattle.stream_check.proofs.timed_picture.TimedPicture.hear.Goals as goal

pub invariant_of-self : goal.invariant_of-self
invariant_of-self c = (
  each_heard (λ (h : Heard). h.raw.ext ≢ 0) (record { raw = c.args.entry.now; at = c.args.at }) _ _ c.hear.result
      c.requires c.self.invariant.0
      c.hear.ensures.kept c.hear.ensures.full,
  (c.self.invariant.1.0, c.self.invariant.1.1),
)

pub invariant_of-self-in-Services : goal.invariant_of-self-in-Services
invariant_of-self-in-Services c = (
  c.self.invariant.0,
  (
    each_heard (λ (h : Heard). h.raw.ext ≢ 0) (record { raw = c.args.entry.now; at = c.args.at }) _ _
        c.hear-in-Services.result c.requires c.self.invariant.1.0
        c.hear-in-Services.ensures.kept c.hear-in-Services.ensures.full,
    c.self.invariant.1.1,
  ),
)

pub invariant_of-self-in-Packets : goal.invariant_of-self-in-Packets
invariant_of-self-in-Packets c = (
  c.self.invariant.0,
  (
    c.self.invariant.1.0,
    each_heard (λ (h : Heard). h.raw.ext ≢ 0) (record { raw = c.args.entry.now; at = c.args.at }) _ _
        c.hear-in-Packets.result c.requires c.self.invariant.1.1
        c.hear-in-Packets.ensures.kept c.hear-in-Packets.ensures.full,
  ),
)
