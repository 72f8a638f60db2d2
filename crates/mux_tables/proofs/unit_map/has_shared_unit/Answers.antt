use Rattle.mux_tables.proofs.Words.{◌*◌, ◌+◌, arith, refl}
use Rattle.mux_tables.proofs.Lanes.{high_told, none_high}
use Rattle.mux_tables.proofs.unit_map.has_shared_unit.Goals as goal

pub returns-then-has_above_one-clause-told : goal.returns-then-has_above_one-clause-told
returns-then-has_above_one-clause-told c = λ uses counts e.
    let found = c.if-has_above_one.ensures.told refl in (
      32 * c.loop-block.block-index + found.0,
      high_told c.args.blocks.now uses c.loop-block.block-index found.0 counts
          c.loop-block-test.true found.1 found.2,
    )

pub returns-clause-none : goal.returns-clause-none
returns-clause-none c = λ uses counts e.
    none_high c.args.blocks.now uses counts (λ b j lt less. c.loop-block.invariant b j (omega arith) less)
