use Rattle.mux_tables.proofs.Lanes.{above_told, above_none}
use Rattle.mux_tables.proofs.unit_map.has_above_one.Goals as goal

pub returns-clause-told : goal.returns-clause-told
returns-clause-told c = λ e. above_told c.args.block.now c.requires c.if-above-eq0.false

pub returns-then-above-eq0-clause-none : goal.returns-then-above-eq0-clause-none
returns-then-above-eq0-clause-none c = λ e. above_none c.args.block.now c.requires c.if-above-eq0.true
