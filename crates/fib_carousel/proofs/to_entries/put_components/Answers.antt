use Rattle.fib_carousel.proofs.Components.{bytes_more, room_for_more}
use Rattle.fib_carousel.proofs.to_entries.put_components.Goals as goal

pub put_component-requires : goal.put_component-requires
put_component-requires c =
    room_for_more _ _ c.args.components.now c.loop-place.place c.loop-place-test.true c.requires c.loop-place.invariant

pub loop-place-preserved : goal.loop-place-preserved
loop-place-preserved c =
    bytes_more _ _ _ c.args.components.now c.loop-place.place c.index-components-place.result _ c.loop-place-test.true
    c.index-components-place.is c.component_entry.ensures c.loop-place.invariant c.put_component.ensures
