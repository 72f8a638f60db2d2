use Rattle.mux_config.proofs.Words.{◌+◌, ◌∙◌, ap, arith, err_from_is_err_and, length_push}
use Rattle.mux_config.proofs.ReadingLoops.{component_fault, component_repeated, component_fresh, components_done}
use Rattle.mux_config.proofs.record_reader.components.Goals as goal

pub returns-in_err-component-clause-read : goal.returns-in_err-component-clause-read
returns-in_err-component-clause-read c =
    let p = err_from_is_err_and c.from_residual.result c.from_residual.ensures.1 in
    rw (p.1, p.2) (component_fault c.loop.reader.total c.loop.components c.args.count c.loop.counter c.loop.reader.rest
    _ c.in_err-component.field-0.0 c.loop-test.true
    c.loop.invariant.0 c.in_err-component.ensures.read)

pub returns-then-is_named_by-clause-read : goal.returns-then-is_named_by-clause-read
returns-then-is_named_by-clause-read c =
    rw c.place-place.ensures.value
    (component_repeated c.loop.reader.total c.loop.components c.args.count c.loop.counter c.loop.reader.rest _
    c.in_ok-component.component c.component.new.self.rest c.loop-test.true
    c.loop.invariant.0 c.in_ok-component.ensures.read
    (rw (← c.carrier.ensures, ← c.as_slice.ensures.value, ← c.is_named_by.ensures) c.if-is_named_by.true))

pub loop-preserved : goal.loop-preserved
loop-preserved c =
    let total = c.in_ok-component.ensures.total in
    rw (c.push.ensures, total) (
      component_fresh c.loop.reader.total c.loop.components c.args.count c.loop.counter c.loop.reader.rest _
          c.in_ok-component.component c.component.new.self.rest c.loop-test.true
          c.loop.invariant.0 c.in_ok-component.ensures.read
          (rw (← c.carrier.ensures, ← c.as_slice.ensures.value, ← c.is_named_by.ensures) c.if-is_named_by.false),
      length_push c.loop.components c.in_ok-component.component ∙ ap (λ n. n + 1) c.loop.invariant.1,
      c.loop.invariant.2,
    )

pub returns-clause-read : goal.returns-clause-read
returns-clause-read c =
    components_done c.loop.reader.total c.loop.components c.args.count c.loop.counter c.loop.reader.rest _
    (omega (arith, c.loop-test.false)) c.loop.invariant.0
