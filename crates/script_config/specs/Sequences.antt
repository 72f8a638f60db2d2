-- Sequences of edits.
use Rattle.std.specs.Prelude.{◌≡◌, List, [], ◌∷◌, None}
use Rattle.mux_config.specs.declared.edit.Edit.{Edit}
use Rattle.mux_types.specs.Configuration.{Configuration}
use Rattle.mux_config.specs.Edits.{edit_fault, changed}

-- the configuration after these edits, given that none has a fault
abbrev pub after : List Edit → Configuration → Configuration
after [] c = c
after (e ∷ es) c = after es (changed e c)

-- applied in order, none has a fault
abbrev pub HaveNoFault : List Edit → Configuration → Type 0
HaveNoFault [] c = Unit {0}
HaveNoFault (e ∷ es) c = (edit_fault e c ≡ None) × HaveNoFault es (changed e c)

-- these edits turn one configuration into another, and none has a fault
pub record Transform (es : List Edit) (from to : Configuration) : Type 0 where
  pub fine : HaveNoFault es from
  pub arrive : after es from ≡ to
