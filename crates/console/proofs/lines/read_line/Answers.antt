use Rattle.std.proofs.Common.{◌<◌, ℕ, List, Option, length, sym, ◌∙◌, arith}
use Rattle.std.proofs.lemmas.Bool.{ne_eqb, eqb-true, eqb-false}
use Rattle.console.proofs.LineReading.{held_full, held_pushed, line_at_feed, long_at_feed, line_at_end, long_at_end}
use Rattle.console.proofs.LineReading.{some_left, none_at_end}
use Rattle.console.proofs.lines.read_line.Goals.{then-is_full, else-is_full}
use Rattle.console.proofs.lines.read_line.Goals as goal

pub returns-then-is_long-clause-long : goal.returns-then-is_long-clause-long
returns-then-is_long-clause-long g c = λ _. let left = g.R.Read.remaining in let end = c.in-End.ensures in
    long_at_end (left c.args.input.now) (left c.loop.input) (left c.next_byte.new.input) c.loop.line.items
    c.loop.is_long c.loop.invariant c.if-is_long.true end.0 end.1

pub returns-in-End-clause-line : goal.returns-in-End-clause-line
returns-in-End-clause-line g c = λ _. let left = g.R.Read.remaining in let end = c.in-End.ensures in
    line_at_end (left c.args.input.now) (left c.loop.input) (left c.next_byte.new.input) c.loop.line.items
    c.loop.is_long c.loop.invariant c.if-is_long.false
    (some_left c.loop.line.items (sym c.is_empty.ensures ∙ c.if-is_empty.false)) end.0 end.1

pub returns-in-End-clause-bound : goal.returns-in-End-clause-bound
returns-in-End-clause-bound g c = λ _. c.loop.invariant.bound

pub returns-then-is_long-2-clause-long : goal.returns-then-is_long-2-clause-long
returns-then-is_long-2-clause-long g c = λ _. let left = g.R.Read.remaining in
    long_at_feed (left c.args.input.now) (left c.loop.input) (left c.next_byte.new.input) c.loop.line.items
    c.loop.is_long c.in-Byte.byte c.loop.invariant c.if-is_long-2.true c.if-byte-eq10.true c.in-Byte.ensures

pub returns-then-byte-eq10-clause-line : goal.returns-then-byte-eq10-clause-line
returns-then-byte-eq10-clause-line g c = λ _. let left = g.R.Read.remaining in
    line_at_feed (left c.args.input.now) (left c.loop.input) (left c.next_byte.new.input) c.loop.line.items
    c.loop.is_long c.in-Byte.byte c.loop.invariant c.if-is_long-2.false c.if-byte-eq10.true c.in-Byte.ensures

pub returns-then-byte-eq10-clause-bound : goal.returns-then-byte-eq10-clause-bound
returns-then-byte-eq10-clause-bound g c = λ _. c.loop.invariant.bound

pub returns-then-is_empty-clause-end : goal.returns-then-is_empty-clause-end
returns-then-is_empty-clause-end g c = λ _. let left = g.R.Read.remaining in let end = c.in-End.ensures in
    none_at_end (left c.args.input.now) (left c.loop.input) (left c.next_byte.new.input) c.loop.line.items
    c.loop.is_long c.loop.invariant c.if-is_long.false (sym c.is_empty.ensures ∙ c.if-is_empty.true) end.0 end.1

pub loop-preserved : goal.loop-preserved
loop-preserved g c =
    let left = g.R.Read.remaining in
    let before : Option (List ℕ) = left c.args.input.now in
    let mid : Option (List ℕ) = left c.loop.input in
    let after : Option (List ℕ) = left c.next_byte.new.input in
    let byte : ℕ = c.in-Byte.byte in
    let other = ne_eqb byte 10 c.if-byte-eq10.false in
    let length_is = c.is_full.ensures.value in
    elim c.if-is_full.branch [
      | then-is_full w ↦ rw (w.line-is, w.is_long-is)
          (held_full before mid after c.loop.line.items c.loop.is_long byte c.loop.invariant c.in-Byte.ensures other
          (eqb-true _ _ (sym length_is ∙ w.if-is_full.true)))
      | else-is_full w ↦
          let differs = eqb-false _ _ (sym length_is ∙ w.if-is_full.false) in
          let room : length c.loop.line.items < 65536 = omega (arith, differs, c.is_full.ensures.fits) in
          rw (w.line-is, w.is_long-is)
          (held_pushed before mid after c.loop.line.items w.push.new.self.items c.loop.is_long byte c.loop.invariant
          c.in-Byte.ensures other room w.push.ensures.items)
    ]
