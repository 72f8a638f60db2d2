use Rattle.script_compiler.proofs.Words.{◌∙◌, arith, configuration_at, sym}
use Rattle.script_compiler.proofs.Rooms.{full_table}
use Rattle.script_compiler.proofs.Spaces.{none_of}
use Rattle.script_compiler.proofs.table.ConfigTable.has_room_for.Goals as goal

pub returns : goal.returns
returns c = record {
  limited = λ none room. full_table c.args.self.now.table (configuration_at c.args.self.now.pool c.args.number)
      (c.find.ensures.none (none_of c.find.result (sym c.is_some.ensures ∙ none)))
      (let e = c.from.ensures in let l = c.len.ensures in omega (arith, e, l, c.if-len-from.false)) room;
}
