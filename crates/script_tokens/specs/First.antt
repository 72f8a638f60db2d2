-- The keywords that begin items, edits and statements, as keywords of the grammar.
use Rattle.std.specs.Prelude.{Option, Some, None}
use Rattle.script_tokens.specs.declared.keyword.Keyword.{Keyword}
use Rattle.script_tokens.specs.declared.keyword.Keyword.TheVariants as the
use Rattle.script_tokens.specs.declared.first_keyword.ComponentKeyword.{ComponentKeyword}
use Rattle.script_tokens.specs.declared.first_keyword.ComponentKeyword.TheVariants as component
use Rattle.script_tokens.specs.declared.first_keyword.ItemKeyword.{ItemKeyword}
use Rattle.script_tokens.specs.declared.first_keyword.ItemKeyword.TheVariants as item
use Rattle.script_tokens.specs.declared.first_keyword.EditKeyword.{EditKeyword}
use Rattle.script_tokens.specs.declared.first_keyword.EditKeyword.TheVariants as edit
use Rattle.script_tokens.specs.declared.first_keyword.ActKeyword.{ActKeyword}
use Rattle.script_tokens.specs.declared.first_keyword.ActKeyword.TheVariants as act
use Rattle.script_tokens.specs.declared.first_keyword.StatementKeyword.{StatementKeyword}
use Rattle.script_tokens.specs.declared.first_keyword.StatementKeyword.TheVariants as statement

abbrev pub component_keyword : ComponentKeyword → Keyword
component_keyword component.Audio = the.Audio
component_keyword component.Data = the.Data
component_keyword component.Carry = the.Carry

abbrev pub item_keyword : ItemKeyword → Keyword
item_keyword item.Sub = the.Sub
item_keyword item.Service = the.Service
item_keyword item.Packet = the.Packet
item_keyword (item.Component k) = component_keyword k

abbrev pub edit_keyword : EditKeyword → Keyword
edit_keyword edit.Drop = the.Drop
edit_keyword edit.Move = the.Move
edit_keyword edit.Rate = the.Rate
edit_keyword (edit.Item k) = item_keyword k

abbrev pub act_keyword : ActKeyword → Keyword
act_keyword act.Wait = the.Wait
act_keyword act.Until = the.Until
act_keyword act.Commit = the.Commit
act_keyword act.Join = the.Join
act_keyword act.Settle = the.Settle
act_keyword (act.Edit k) = edit_keyword k

abbrev pub statement_keyword : StatementKeyword → Keyword
statement_keyword statement.End = the.End
statement_keyword statement.If = the.If
statement_keyword statement.Repeat = the.Repeat
statement_keyword statement.Forever = the.Forever
statement_keyword statement.Apply = the.Apply
statement_keyword (statement.Act k) = act_keyword k

-- this keyword as one that begins a statement, if it is one
abbrev pub statement_of : Keyword → Option StatementKeyword
statement_of the.Sub = Some (statement.Act (act.Edit (edit.Item item.Sub)))
statement_of the.Service = Some (statement.Act (act.Edit (edit.Item item.Service)))
statement_of the.Packet = Some (statement.Act (act.Edit (edit.Item item.Packet)))
statement_of the.Audio = Some (statement.Act (act.Edit (edit.Item (item.Component component.Audio))))
statement_of the.Data = Some (statement.Act (act.Edit (edit.Item (item.Component component.Data))))
statement_of the.Carry = Some (statement.Act (act.Edit (edit.Item (item.Component component.Carry))))
statement_of the.Drop = Some (statement.Act (act.Edit edit.Drop))
statement_of the.Move = Some (statement.Act (act.Edit edit.Move))
statement_of the.Rate = Some (statement.Act (act.Edit edit.Rate))
statement_of the.Wait = Some (statement.Act act.Wait)
statement_of the.Until = Some (statement.Act act.Until)
statement_of the.Commit = Some (statement.Act act.Commit)
statement_of the.Join = Some (statement.Act act.Join)
statement_of the.Settle = Some (statement.Act act.Settle)
statement_of the.End = Some statement.End
statement_of the.If = Some statement.If
statement_of the.Repeat = Some statement.Repeat
statement_of the.Forever = Some statement.Forever
statement_of the.Apply = Some statement.Apply
statement_of _ = None

-- the same for an item
abbrev pub item_of : StatementKeyword → Option ItemKeyword
item_of (statement.Act (act.Edit (edit.Item k))) = Some k
item_of _ = None
