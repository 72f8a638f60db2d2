use Rattle.script_compiler.proofs.Words.{slice_get_within}
use Rattle.script_compiler.proofs.Labelling.{flow_is, stays_in}
use Rattle.script_compiler.proofs.numbers.numbered.Goals as goal

pub returns-clause-same : goal.returns-clause-same
returns-clause-same c =
    let pool = c.next_number.new.unpriced.pool in
    let t = c.args.tracked.now.flow in
    let current = stays_in c.current_number.new.unpriced.pool pool c.in-Ok.current t.current c.next_number.ensures.kept
    c.in-Ok.ensures.number in
    flow_is pool (record { current = c.in-Ok.current; next = c.in-Ok-next_number.next; pending = t.pending }) t.current
    t.next current c.in-Ok-next_number.ensures.number

pub returns-clause-within : goal.returns-clause-within
returns-clause-within c =
    let pool = c.next_number.new.unpriced.pool in
    let t = c.args.tracked.now.flow in
    let current = stays_in c.current_number.new.unpriced.pool pool c.in-Ok.current t.current c.next_number.ensures.kept
    c.in-Ok.ensures.number in (
      slice_get_within pool c.in-Ok.current t.current current,
      slice_get_within pool c.in-Ok-next_number.next t.next c.in-Ok-next_number.ensures.number,
    )
