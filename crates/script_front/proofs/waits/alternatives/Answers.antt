use Rattle.script_front.proofs.Words.{◌∙◌, ◌≡◌, Some, allowed_at, arith, drop, length, sym, true}
use Rattle.std.proofs.lemmas.Grind.{common_steps}
use Rattle.script_front.proofs.ReadingWaits.{two_read, next_read}
use Rattle.script_front.proofs.waits.alternatives.Goals as goal

pub alternatives-init : goal.alternatives-init
alternatives-init c = record {
  read = two_read _ _ _ _ _ c.requires c.in_ok-second.ensures.read.0 c.new-all.ensures;
  lines = c.in_ok-second.ensures.read.1;
  few = rw (c.new-all.ensures) (omega arith);
}

pub alternatives-preserved : goal.alternatives-preserved
alternatives-preserved c =
    let next = sym c.is_next.ensures.is ∙ c.alternatives-test.true in
    let full : length c.alternatives.all ≡ 8 → ⊥ = λ e.
    grind (arith, common_steps, e, c.if-as_slice-eq-MOST_ALTERNATIVES.false, c.as_slice.ensures) in
    let read : allowed_at c.alternatives.all (drop 1 c.alternatives.reader.lexemes) ≡ Some
    (c.in_ok-next.next, c.or_alternative.new.reader.lexemes) = rw (← c.as_slice-in-alternatives.ensures)
    c.in_ok-next.ensures.read.0 in
    let h = next_read _ _ _ _ _ c.alternatives.invariant.few full next read c.push.ensures in
    record {
      read = c.alternatives.invariant.read ∙ h.0;
      lines = c.in_ok-next.ensures.read.1 ∙ c.alternatives.invariant.lines;
      few = h.1;
    }
