use Rattle.script_compiler.proofs.Words.{◌∷◌}
use Rattle.script_compiler.proofs.Spaces.{covered_here, limit_at_map}
use Rattle.script_compiler.proofs.Putting.{on_ok_map, put_lays}
use Rattle.script_compiler.proofs.work.Work.put.Goals as goal

pub returns-clause-emits : goal.returns-clause-emits
returns-clause-emits c = on_ok_map c.put_instr.result (λ e.
    put_lays c.args.line c.args.counters c.args.instr c.args.self.now c.put_label.new.self c.put_instr.new.self
    c.put_label.ensures.lines c.put_label.ensures.saved (c.in_default.ensures.unpriced c.args.line c.args.instr)
    c.put_instr.ensures.saved c.put_instr.ensures.unpriced e) c.put_instr.ensures.lines

pub returns-in-Err-clause-limited : goal.returns-in-Err-clause-limited
returns-in-Err-clause-limited c =
    limit_at_map c.in-Err.fault c.args.line (λ k without_label p ps e space.
    without_label (p ∷ ps) (covered_here c.args.self.now.now p ps e) space) c.in-Err.ensures.limited
