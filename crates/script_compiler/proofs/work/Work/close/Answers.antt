use Rattle.script_compiler.proofs.Words.{[], End, placed_instr, refl}
use Rattle.script_compiler.proofs.Spaces.{limits_at_map, space_end}
use Rattle.script_compiler.proofs.work.Work.close.Goals as goal

pub returns-clause-limited : goal.returns-clause-limited
returns-clause-limited c =
    let w = c.args.self.now in
    limits_at_map c.put.result c.args.line (λ k without_label space.
    without_label (placed_instr c.args.line End 0 w.now) [] refl
    (space_end k w c.args.falls c.args.line 0 End c.if-not-falls.false space)) c.put.ensures.limited
