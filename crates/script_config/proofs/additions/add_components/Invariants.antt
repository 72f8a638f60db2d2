use Rattle.script_config.proofs.Words.{◌++◌, ◌≡◌, components_added, take}
use Rattle.script_config.proofs.additions.add_components.Given as goal

abbrev pub invariant-loop-component : goal.invariant-loop-component
invariant-loop-component l = (l.edits.items ≡ l.initial.edits.items
    ++ components_added l.sid (take l.component-index l.components))
