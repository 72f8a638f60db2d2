use Rattle.script_compiler.proofs.Words.{◌∷◌, ap, length, placed_instr, sym}
use Rattle.script_compiler.proofs.Spaces.{limits_here, none_refused, space_back, space_as}
use Rattle.script_compiler.proofs.work.Work.close_loop.Goals as goal

pub returns-clause-limited : goal.returns-clause-limited
returns-clause-limited c =
    let w = c.args.self.now in
    let v = c.restore-entry.new.self in
    limits_here c.put.result c.args.line (λ k without_label m n i ps space.
    let point_here = space_back k w c.args.falls m n i ps c.if-not-falls.false space in
    without_label (placed_instr m i n w.now) ps (sym c.restore-entry.ensures.now)
    (space_as k w v (placed_instr m i n w.now ∷ ps) (ap (λ x. length x.items) c.restore-entry.ensures.lines)
    (ap (λ x. x.items) c.restore-entry.ensures.unpriced) point_here)) c.put.ensures.limited

pub returns-clause-refused : goal.returns-clause-refused
returns-clause-refused c = none_refused c.put.result c.args.line _ _ c.put.ensures.limited
