use Rattle.script_compiler.proofs.Words.{◌++◌, ◌∙◌, ◌≡◌, Configuration, List, None, ProgramPoint, Some, ap}
use Rattle.script_compiler.proofs.Words.{if◌then◌else◌, join, length, length-set, meet, point_in, points_of, sym, way}
use Rattle.script_compiler.proofs.Putting.{snoc_last}
use Rattle.script_compiler.proofs.Spaces.{space_as, some_of, met_labelled, limit_map}
use Rattle.script_compiler.proofs.work.Work.close_else.Goals as goal

pub returns-in-Err-clause-limited : goal.returns-in-Err-clause-limited
returns-in-Err-clause-limited c = limit_map c.in-Err.fault (λ at k without_label. (
  without_label.0,
  λ front a first saved ps cover space.
      let w = c.args.self.now in
      let v = c.restore-exit.new.self in
      let u = c.patch.new.self in
      let some = some_of a (sym c.if-not-first.false ∙ first) in
      let kept = saved ∙ ap (λ x. front ++ points_of x) some.1 in
      let exit = point_in u.pool c.restore-exit.result in
      let same : exit ≡ some.0 = ap (λ (p : List Configuration). point_in p c.restore-exit.result) c.patch.ensures.pool
      ∙ snoc_last v.saved.items front (point_in v.pool c.restore-exit.result) some.0
      (c.restore-exit.ensures.saved ∙ kept) in
      let lines = ap length c.patch.ensures.lines ∙ length-set v.lines.items c.args.jump _
      ∙ ap (λ x. length x.items) c.restore-exit.ensures.lines in
      let unpriced = ap (λ x. x.items) (c.patch.ensures.unpriced ∙ c.restore-exit.ensures.unpriced) in
      let now : u.now ≡ w.now = c.patch.ensures.now ∙ c.restore-exit.ensures.now in
      let met : meet (way c.args.second u) (Some exit) ≡ join a (way c.args.second w) =
      ap (λ (s : ProgramPoint). meet (if c.args.second then Some s else None) (Some exit)) now
      ∙ ap (λ (s : ProgramPoint). meet (way c.args.second w) (Some s)) same
      ∙ ap (λ x. join x (way c.args.second w)) (sym some.1) in
      without_label.1 ps (λ x e. cover x (sym met ∙ e) (met_labelled (way c.args.second u) exit x e))
      (space_as k w u ps lines unpriced space),
)) c.in-Err.ensures.limited
