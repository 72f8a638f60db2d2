use Rattle.script_compiler.proofs.Words.{[], ◌++◌, ◌∙◌, ◌∷◌, Bool, Flow, Instr, IsFine, ProgramPoint, after_instr, ap}
use Rattle.script_compiler.proofs.Words.{instr_of_act, known_at, line_of_instr, refl, subst}
use Rattle.script_compiler.proofs.Spaces.{covered_here, limit_here}
use Rattle.script_compiler.proofs.Putting.{put_lays}
use Rattle.script_compiler.proofs.work.Work.act.Goals as goal

pub returns-clause-emits : goal.returns-clause-emits
returns-clause-emits c =
    let i = instr_of_act c.args.act.now in
    put_lays c.args.line c.args.counters i c.args.self.now c.pass.new.self c.put_instr.new.self
    (c.pass.ensures.lines ∙ c.put_label.ensures.lines) (c.pass.ensures.saved ∙ c.put_label.ensures.saved)
    (ap (λ x. x.items) c.pass.ensures.unpriced ∙ c.in_default.ensures.unpriced c.args.line i) c.put_instr.ensures.saved
    c.put_instr.ensures.unpriced
    (c.in_default-put_instr.ensures.lines
    ∙ ap (λ (x : Instr). c.pass.new.self.lines.items ++ line_of_instr c.args.line x ∷ []) c.instr_of.ensures)

pub returns-clause-now : goal.returns-clause-now
returns-clause-now c =
    let i = instr_of_act c.args.act.now in
    let flow = c.in_default-pass.ensures.left ∙ ap (λ (s : ProgramPoint). after_instr c.args.plan.now i s.flow)
    c.in_default.ensures.now in
    let labelled = c.pass.ensures.labelled ∙ ap (λ (s : ProgramPoint). s.labelled) c.in_default.ensures.now in
    c.put_instr.ensures.now
    ∙ ap (λ (t : Flow). let s : ProgramPoint = record { flow = t; labelled = c.pass.new.self.now.labelled } in s) flow
    ∙ ap (λ (b : Bool). let s : ProgramPoint = record {
      flow = after_instr c.args.plan.now i c.args.self.now.now.flow;
      labelled = b;
    } in s) labelled

pub returns-clause-fine : goal.returns-clause-fine
returns-clause-fine c = subst (λ (s : ProgramPoint). IsFine c.args.plan.now (instr_of_act c.args.act.now)
    (known_at s.flow)) c.in_default.ensures.now (c.in_default-pass.ensures.fine.0 refl)

pub returns-in-Err-clause-limited : goal.returns-in-Err-clause-limited
returns-in-Err-clause-limited c =
    limit_here c.in-Err.fault c.args.line (λ k without_label p ps e space.
    without_label (p ∷ ps) (covered_here c.args.self.now.now p ps e) space) c.in-Err.ensures.limited
