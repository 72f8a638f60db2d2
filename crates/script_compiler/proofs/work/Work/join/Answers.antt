use Rattle.script_compiler.proofs.Words.{◌≡◌, Flow, IsCovered, ProgramPoint, Some, ap, at_label, length, meet, merged}
use Rattle.script_compiler.proofs.Words.{point_in, subst, sym, way}
use Rattle.script_compiler.proofs.Spaces.{limits_here, none_refused, space_as}
use Rattle.script_compiler.proofs.work.Work.join.Goals as goal

pub returns-then-not-falls-clause-limited : goal.returns-then-not-falls-clause-limited
returns-then-not-falls-clause-limited c =
    let w = c.args.self.now in
    let v = c.take.new.self in
    let t = point_in w.pool c.args.other.now in
    limits_here c.unpriced_label.result c.args.line (λ k without_label ps cover space.
    let met : meet (way c.args.falls w) (Some t) ≡ Some (at_label t.flow) =
    ap (λ f. meet (way f w) (Some t)) c.if-not-falls.true in
    let there = space_as k w v ps (ap (λ x. length x.items) c.take.ensures.lines)
    (ap (λ x. x.items) c.take.ensures.unpriced) space in
    without_label ps (subst (λ (s : ProgramPoint). IsCovered s.flow ps) (sym c.take.ensures.now)
    (cover (at_label t.flow) met)) there) c.unpriced_label.ensures.limited

pub returns-clause-limited : goal.returns-clause-limited
returns-clause-limited c =
    let w = c.args.self.now in
    let v = c.meet.new.self in
    let t = point_in w.pool c.args.other.now in
    limits_here c.unpriced_label-2.result c.args.line (λ k without_label ps cover space.
    let met : meet (way c.args.falls w) (Some t) ≡ Some (at_label (merged w.now.flow t.flow)) =
    ap (λ f. meet (way f w) (Some t)) c.if-not-falls.false in
    let there = space_as k w v ps (ap (λ x. length x.items) c.meet.ensures.lines)
    (ap (λ x. x.items) c.meet.ensures.unpriced) space in
    without_label ps (subst (λ (x : Flow). IsCovered x ps) (sym (c.meet.ensures.met c.if-not-meet.false))
    (cover (at_label (merged w.now.flow t.flow)) met)) there) c.unpriced_label-2.ensures.limited

pub returns-then-not-falls-clause-refused : goal.returns-then-not-falls-clause-refused
returns-then-not-falls-clause-refused c =
    none_refused c.unpriced_label.result c.args.line _ _ c.unpriced_label.ensures.limited

pub returns-clause-refused : goal.returns-clause-refused
returns-clause-refused c = none_refused c.unpriced_label-2.result c.args.line _ _ c.unpriced_label-2.ensures.limited
