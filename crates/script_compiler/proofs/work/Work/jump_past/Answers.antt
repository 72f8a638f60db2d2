use Rattle.script_compiler.proofs.Words.{placed_instr, refl}
use Rattle.script_compiler.proofs.Spaces.{limits_at_map, space_back}
use Rattle.script_compiler.proofs.work.Work.jump_past.Goals as goal

pub returns-clause-limited : goal.returns-clause-limited
returns-clause-limited c =
    let w = c.args.self.now in
    limits_at_map c.fork.result c.args.line (λ k without_label m n i ps space.
    without_label (placed_instr m i n w.now) ps refl
    (space_back k w c.args.falls m n i ps c.if-not-falls.false space)) c.fork.ensures.limited
