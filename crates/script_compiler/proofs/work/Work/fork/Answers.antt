use Rattle.script_compiler.proofs.Words.{◌∙◌, ◌∷◌, ap, length, sym}
use Rattle.script_compiler.proofs.Spaces.{limits_at_map, space_as}
use Rattle.script_compiler.proofs.work.Work.fork.Goals as goal

pub returns-clause-limited : goal.returns-clause-limited
returns-clause-limited c =
    let w = c.args.self.now in
    let v = c.save.new.self in
    limits_at_map c.put.result c.args.line (λ k without_label p ps e space.
    without_label p ps (e ∙ sym c.save.ensures.now)
    (space_as k w v (p ∷ ps) (ap (λ x. length x.items) c.save.ensures.lines)
    (ap (λ x. x.items) c.save.ensures.unpriced) space)) c.put.ensures.limited
