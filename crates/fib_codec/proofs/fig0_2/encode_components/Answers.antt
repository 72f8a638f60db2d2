use Rattle.fib_codec.proofs.Lengths.{component_fits}
use Rattle.fib_codec.proofs.fig0_2.encode_components.Goals as goal

pub encode_component-requires : goal.encode_component-requires
encode_component-requires c =
    component_fits c.loop-component.out c.args.out.now c.args.components.now c.loop-component.component-index
    c.requires c.loop-component-test.true c.loop-component.invariant.written
