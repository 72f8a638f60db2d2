use Rattle.script_compiler.proofs.Words.{◌∙◌, ◌≡◌, Configuration, List, None, ProgramPoint, Some, ap, if◌then◌else◌}
use Rattle.script_compiler.proofs.Words.{length, length-set, meet, point_in, sym, way}
use Rattle.script_compiler.proofs.Putting.{snoc_last}
use Rattle.script_compiler.proofs.Spaces.{space_as, limit_map}
use Rattle.script_compiler.proofs.work.Work.close_if.Goals as goal

pub returns-in-Err-clause-limited : goal.returns-in-Err-clause-limited
returns-in-Err-clause-limited c = limit_map c.in-Err.fault (λ at k without_label. (
  without_label.0,
  λ front entry saved ps cover space.
      let w = c.args.self.now in
      let v = c.restore-entry.new.self in
      let u = c.patch.new.self in
      let exit = point_in u.pool c.restore-entry.result in
      let same : exit ≡ entry = ap (λ (p : List Configuration). point_in p c.restore-entry.result) c.patch.ensures.pool
      ∙ snoc_last v.saved.items front (point_in v.pool c.restore-entry.result) entry
      (c.restore-entry.ensures.saved ∙ saved) in
      let lines = ap length c.patch.ensures.lines ∙ length-set v.lines.items c.args.at _
      ∙ ap (λ x. length x.items) c.restore-entry.ensures.lines in
      let unpriced = ap (λ x. x.items) (c.patch.ensures.unpriced ∙ c.restore-entry.ensures.unpriced) in
      let now : u.now ≡ w.now = c.patch.ensures.now ∙ c.restore-entry.ensures.now in
      let met : meet (way c.args.falls u) (Some exit) ≡ meet (way c.args.falls w) (Some entry) =
      ap (λ (s : ProgramPoint). meet (if c.args.falls then Some s else None) (Some exit)) now
      ∙ ap (λ (s : ProgramPoint). meet (way c.args.falls w) (Some s)) same in
      without_label.1 ps (λ x e. cover x (sym met ∙ e)) (space_as k w u ps lines unpriced space),
)) c.in-Err.ensures.limited
