use Rattle.script_compiler.proofs.Words.{[], ◌++◌, ◌∙◌, ◌≡◌, Configuration, IsCovered, Jump, Line, Lines, List, None}
use Rattle.script_compiler.proofs.Words.{PlacedInstr, Points, ProgramPoint, Some, UnpricedTable, alone, ap, at_label}
use Rattle.script_compiler.proofs.Words.{if◌then◌else◌, jumping, length, length-append, length-set, line_of_instr}
use Rattle.script_compiler.proofs.Words.{lines_of_placed, onward, point_in, points_of, slice_set, subst, sym, test_of}
use Rattle.script_compiler.proofs.Words.{unpriced_labels, way}
use Rattle.script_compiler.proofs.Labelling.{spot_same}
use Rattle.script_compiler.proofs.Putting.{on_ok_map, snoc_front, snoc_last}
use Rattle.script_compiler.proofs.Spaces.{limits_at_map, space_left, space_restored}
use Rattle.script_compiler.proofs.work.Work.start_else.Goals as goal

pub returns-clause-limited : goal.returns-clause-limited
returns-clause-limited c =
    let w = c.args.self.now in
    let v = c.restore-entry.new.self in
    let u = c.jump_past.new.self in
    let x = c.patch.new.self in
    let s = c.restore-entry.result in
    limits_at_map c.unpriced_label.result c.args.line (λ k without_label front entry saved m n i ps space cover.
    let point_here : point_in x.pool s ≡ point_in v.pool s =
    ap (λ (p : List Configuration). point_in p s) c.patch.ensures.pool
    ∙ spot_same v.pool u.pool s c.jump_past.ensures.pool c.restore-entry.ensures.within in
    let same : point_in x.pool s ≡ entry =
    point_here ∙ snoc_last v.saved.items front (point_in v.pool s) entry (c.restore-entry.ensures.saved ∙ saved) in
    let lines = ap (λ z. length z.items) c.take.ensures.lines ∙ ap length c.patch.ensures.lines
    ∙ length-set u.lines.items c.args.at _ ∙ ap length c.in_default.ensures.lines ∙ length-append v.lines.items _ in
    let unpriced = ap (λ z. z.items) (c.take.ensures.unpriced ∙ c.patch.ensures.unpriced)
    ∙ c.in_default.ensures.unpriced in
    let there = space_left k v _ c.args.falls c.args.line c.args.counters m n i ps lines unpriced
    (space_restored k v w c.args.falls m n i ps c.restore-entry.ensures.lines c.restore-entry.ensures.unpriced
    c.restore-entry.ensures.now space) in
    without_label ps (subst (λ (z : ProgramPoint). IsCovered z.flow ps) (sym c.take.ensures.now)
    (subst (λ (z : ProgramPoint). IsCovered z.flow ps) (sym same) cover)) there) c.unpriced_label.ensures.limited

pub returns-clause-starts_else : goal.returns-clause-starts_else
returns-clause-starts_else c =
    let w = c.args.self.now in
    let v = c.restore-entry.new.self in
    let u = c.jump_past.new.self in
    let x = c.patch.new.self in
    let s = c.restore-entry.result in
    let f = c.args.falls in
    let line = c.args.line in
    let r = c.args.counters in
    on_ok_map c.unpriced_label.result (λ now front entry saved.
    let there = c.restore-entry.ensures.saved ∙ saved in
    let point_here : point_in x.pool s ≡ point_in v.pool s =
    ap (λ (p : List Configuration). point_in p s) c.patch.ensures.pool
    ∙ spot_same v.pool u.pool s c.jump_past.ensures.pool c.restore-entry.ensures.within in
    let same : point_in x.pool s ≡ entry = point_here ∙ snoc_last v.saved.items front (point_in v.pool s) entry there in
    let jumps : jumping f line r v ≡ jumping f line r w =
    ap (λ (z : ProgramPoint). onward (if f then Some z else None) [] (alone line (Jump 0) r))
    c.restore-entry.ensures.now in
    let lines : u.lines.items ≡ w.lines.items ++ lines_of_placed (jumping f line r w) =
    c.in_default.ensures.lines ∙ ap (λ (l : Lines). l.items ++ lines_of_placed (jumping f line r v))
    c.restore-entry.ensures.lines ∙ ap (λ (ps : List PlacedInstr). w.lines.items ++ lines_of_placed ps) jumps in
    record {
      lines =
          ap (λ (l : Lines). l.items) (c.unpriced_label.ensures.lines ∙ c.take.ensures.lines) ∙ c.patch.ensures.lines
          ∙ ap (λ i. slice_set u.lines.items c.args.at (line_of_instr line i)) c.test_of.ensures
          ∙ ap (λ n. slice_set u.lines.items c.args.at (line_of_instr line (test_of c.args.condition n)))
          c.len-target.ensures
          ∙ ap (λ (l : List Line). slice_set l c.args.at (line_of_instr line (test_of c.args.condition (length l))))
          lines;
      unpriced =
          ap (λ (m : UnpricedTable). m.items) (c.unpriced_label.ensures.unpriced ∙ c.take.ensures.unpriced
          ∙ c.patch.ensures.unpriced) ∙ c.in_default.ensures.unpriced
          ∙ ap (λ (m : UnpricedTable). m.items ++ unpriced_labels (length v.lines.items) (jumping f line r v))
          c.restore-entry.ensures.unpriced
          ∙ ap (λ (l : Lines). w.unpriced.items ++ unpriced_labels (length l.items) (jumping f line r v))
          c.restore-entry.ensures.lines
          ∙ ap (λ (ps : List PlacedInstr). w.unpriced.items ++ unpriced_labels (length w.lines.items) ps) jumps;
      now = now ∙ ap (λ (z : ProgramPoint). at_label z.flow) c.take.ensures.now
          ∙ ap (λ (z : ProgramPoint). at_label z.flow) same;
      saved =
          ap (λ (l : Points). l.items) (c.unpriced_label.ensures.saved ∙ c.take.ensures.saved ∙ c.patch.ensures.saved)
          ∙ c.in_default.ensures.saved
          ∙ ap (λ (l : List ProgramPoint). l ++ points_of (way f v))
          (snoc_front v.saved.items front (point_in v.pool s) entry there)
          ∙ ap (λ (z : ProgramPoint). front ++ points_of (if f then Some z else None)) c.restore-entry.ensures.now;
    }) c.unpriced_label.ensures.now
