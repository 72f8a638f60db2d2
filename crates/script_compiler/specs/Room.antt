-- Whether a table of configurations has room for more. Not used in public contracts.
use Rattle.std.specs.Prelude.{ℕ, ◌+◌, ◌≤◌, List, [], ◌∷◌, ◌++◌, length}
use Rattle.mux_config.specs.Configuration.{Configuration}
use Rattle.script_compiler.specs.declared.flow.UnpricedLabel.{UnpricedLabel}
use Rattle.script_compiler.specs.Compiled.{IsInTable}

-- the last list has some of the configurations `cs`, each once, and none that is in the table
abbrev pub AreNew : List Configuration → List Configuration → List Configuration → Type 0
AreNew table cs [] = Unit {0}
AreNew table cs (x ∷ xs) = IsInTable x cs × (IsInTable x table → ⊥) × (IsInTable x xs → ⊥) × AreNew table cs xs

-- the table has room for those of them that it lacks
abbrev pub HasRoomFor : List Configuration → List Configuration → Type 0
HasRoomFor table cs = (new : List Configuration) → AreNew table cs new → length table + length new ≤ 256

-- the configurations that labels name
abbrev pub named_by : List UnpricedLabel → List Configuration
named_by [] = []
named_by (m ∷ ms) = m.flow.current ∷ m.flow.next ∷ named_by ms

-- if the old table has room for what these labels name and more, the new one has room for more
abbrev pub Leaves : List Configuration → List Configuration → List UnpricedLabel → Type 0
Leaves table new ms = (more : List Configuration) → HasRoomFor table (named_by ms ++ more) → HasRoomFor new more

-- each label is in at most this many repeats
abbrev pub IsDeepAtMost : ℕ → List UnpricedLabel → Type 0
IsDeepAtMost most [] = Unit {0}
IsDeepAtMost most (m ∷ ms) = (m.repeats ≤ most) × IsDeepAtMost most ms
