-- The configuration that the items of a script make, or the first item with a fault.
use Rattle.std.specs.Prelude.{ℕ, List, [], ◌∷◌, Option, Some, None, Result, Ok, Err}
use Rattle.mux_types.specs.Configuration.{Configuration}
use Rattle.mux_config.specs.declared.fault.EditFault.{EditFault}
use Rattle.mux_config.specs.Edits.{edit_fault, changed}
use Rattle.script_front.specs.declared.tree.Item.{Item}
use Rattle.script_config.specs.declared.items.ItemFault.{ItemFault}

-- the fault of an item, with its line; if there is none, the result of the other items
abbrev pub unless_fault : Option EditFault → ℕ → Result Configuration ItemFault → Result Configuration ItemFault
unless_fault None line others = others
unless_fault (Some fault) line others = Err (record { line = line; fault = fault })

-- the items applied to a configuration, in order
abbrev pub made_by : List Item → Configuration → Result Configuration ItemFault
made_by [] c = Ok c
made_by (item ∷ items) c = unless_fault (edit_fault item.edit c) item.line (made_by items (changed item.edit c))
