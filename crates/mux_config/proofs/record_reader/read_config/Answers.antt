use Rattle.mux_config.proofs.Words.{arith}
use Rattle.mux_config.proofs.Places.{field_in}
use Rattle.mux_config.proofs.RecordLaws.{spelled_so, read_so}
use Rattle.mux_config.proofs.record_reader.read_config.Goals as goal

pub returns-clause-spelled : goal.returns-clause-spelled
returns-clause-spelled c = (spelled_so c.args.bytes.now c.record.result (λ i. omega (arith, c.type_inv.bytes i))
    c.record.ensures.read).1

pub returns-clause-only : goal.returns-clause-only
returns-clause-only c = read_so c.args.bytes.now c.record.result c.record.ensures.read c.record.ensures.whole
    c.record.ensures.first_fault

pub returns-clause-within : goal.returns-clause-within
returns-clause-within c = λ place fault. field_in c.args.bytes.now place ((rw fault at c.record.ensures.first_fault))
