use Rattle.script_compiler.proofs.Words.{◌++◌, ◌∙◌, Lines, ProgramPoint, UnpricedTable, alone, ap, length}
use Rattle.script_compiler.proofs.Words.{unpriced_labels}
use Rattle.script_compiler.proofs.Putting.{on_ok_map}
use Rattle.script_compiler.proofs.work.Work.put_label.Goals as goal

pub returns-clause-unpriced : goal.returns-clause-unpriced
returns-clause-unpriced c =
    let w = c.args.self.now in
    let v = c.point_here.new.self in
    let r = c.args.counters in
    on_ok_map c.push_label.result (λ h line i.
    h line i
    ∙ ap (λ (m : UnpricedTable). m.items ++ unpriced_labels (length v.lines.items) (alone line i r v.now))
    c.point_here.ensures.unpriced
    ∙ ap (λ (l : Lines). w.unpriced.items ++ unpriced_labels (length l.items) (alone line i r v.now))
    c.point_here.ensures.lines
    ∙ ap (λ (s : ProgramPoint). w.unpriced.items ++ unpriced_labels (length w.lines.items) (alone line i r s))
    c.point_here.ensures.now) c.push_label.ensures.unpriced
