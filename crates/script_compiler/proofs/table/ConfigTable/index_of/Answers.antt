use Rattle.script_compiler.proofs.Words.{◌≤◌, arith, configuration_at, length, refl}
use Rattle.script_compiler.proofs.Rooms.{full_table, last_new}
use Rattle.script_compiler.proofs.table.ConfigTable.index_of.Goals as goal

pub returns-then-index-from-clause-limited : goal.returns-then-index-from-clause-limited
returns-then-index-from-clause-limited c =
    let full : 256 ≤ length c.args.self.now.table = omega (arith, c.len-index.ensures, c.if-index-from.true) in (
      refl,
      (
        refl,
        λ room. full_table c.args.self.now.table (configuration_at c.args.self.now.pool c.args.number)
            (c.find.ensures.none c.in_default.is) full room,
      ),
    )

pub returns-clause-index : goal.returns-clause-index
returns-clause-index c =
    last_new (configuration_at c.args.self.now.pool c.args.number) c.args.self.now.table c.add.new.self.table
    c.len-index.result c.len-index.ensures c.in_ok-add.ensures.added
