-- Entries that no configuration has.
use Rattle.std.specs.Prelude.{◌≡◌, ◌++◌, ◌⊎◌, List, [], ◌∷◌, map, Contains}
use Rattle.mux_config.specs.Configuration.{Configuration, IsConfiguration}
use Rattle.mux_types.specs.Facts.{sub_entries, service_entries}
use Rattle.fib_reader.specs.Raw.{Raw, raw_entry}

-- some configuration of this profile has the entry
abbrev pub IsSaid : Raw → Type 0
IsSaid raw = (c : Configuration) × IsConfiguration c × Contains (map raw_entry (sub_entries c ++ service_entries c)) raw

abbrev pub AreSaid : List Raw → Type 0
AreSaid [] = Unit {0}
AreSaid (raw ∷ raws) = IsSaid raw × AreSaid raws

-- the first entry that no configuration has
abbrev pub IsFirstUnsaid : List Raw → Raw → Type 0
IsFirstUnsaid [] raw = ⊥
IsFirstUnsaid (first ∷ others) raw = (IsSaid first × IsFirstUnsaid others raw) ⊎ ((first ≡ raw) × (IsSaid first → ⊥))
