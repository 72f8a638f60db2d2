-- The number of sub-channels that cover each capacity unit, and the lanes that hold these numbers.
use Rattle.std.specs.Prelude.{◌≡◌, ℕ, ◌+◌, ◌-◌, ◌*◌, ◌<◌, ◌≤◌, ◌&&◌, Bool, if◌then◌else◌, nat_lt, nat_le, List, [], map}
use Rattle.std.specs.Prelude.{length, filter, slice_index_or}
use Rattle.std.specs.List.{range_with_len}
use Rattle.mux_eep.specs.declared.limits.TheConstants.{CAPACITY_UNITS}
use Rattle.mux_types.specs.declared.parts.Sub.{Sub}
use Rattle.mux_config.specs.Configuration.{Configuration, IsConfiguration, size_of_sub}
use Rattle.mux_tables.specs.declared.span.Span.{Span}
use Rattle.mux_tables.specs.declared.unit_map.Block.{Block}

-- the capacity units of a sub-channel (EN 300 401 clause 6.2.1)
abbrev pub span_of : Sub → Span
span_of s = record { start = s.start; size = size_of_sub s }

abbrev pub has_unit : Span → ℕ → Bool
has_unit s u = nat_le s.start u && nat_lt u (s.start + s.size)

-- 1 if the span covers the unit, else 0
abbrev pub share : Span → ℕ → ℕ
share s u = if has_unit s u then 1 else 0

-- the number of these sub-channels that cover the unit
abbrev pub users : List Sub → ℕ → ℕ
users subs u = length (filter (λ s. has_unit (span_of s) u) subs)

-- the lane of a unit in the block whose first unit is `base`: 0 before the block, 32 past it
abbrev pub lane_in : ℕ → ℕ → ℕ
lane_in base unit = if nat_lt unit base then 0 else if nat_lt unit (base + 32) then unit - base else 32

-- the 32 numbers of a block, one for each of its units
unfoldable pub counts_of_block : (ℕ → ℕ) → ℕ → List ℕ
counts_of_block uses b = map (λ j. uses (32 * b + j)) (range_with_len 0 32)

abbrev pub no_units : Block
no_units = record { units = [] }

abbrev pub units_at : List Block → ℕ → List ℕ
units_at blocks b = let block = slice_index_or blocks b no_units in block.units

-- the lanes of the 27 blocks hold the number of each unit
pub record Counts (blocks : List Block) (uses : ℕ → ℕ) : Type 0 where
  pub each : (b : ℕ) → b < 27 → units_at blocks b ≡ counts_of_block uses b

-- adding a span and removing it, if no lane overflows
abbrev pub CountsIn : List Block → List Block → Span → Type 0
CountsIn before after s =
    (uses : ℕ → ℕ) → ((u : ℕ) → uses u < 255) → Counts before uses → Counts after (λ u. uses u + share s u)

abbrev pub CountsOut : List Block → List Block → Span → Type 0
CountsOut before after s =
    (uses : ℕ → ℕ) → ((u : ℕ) → uses u < 255) → Counts before (λ u. uses u + share s u) → Counts after uses

-- a unit is shared by two or more, and no unit is
abbrev pub SomeShared : (ℕ → ℕ) → Type 0
SomeShared uses = (u : ℕ) × (1 < uses u)

abbrev pub NoneShared : (ℕ → ℕ) → Type 0
NoneShared uses = (u : ℕ) → u < CAPACITY_UNITS → uses u ≤ 1

-- ---- a configuration and its counted units

-- these sub-channels, with the services and packet components of a configuration
abbrev pub with_sub_channels : List Sub → Configuration → Configuration
with_sub_channels subs others = record { subs = subs; services = others.services; packets = others.packets }

-- the sub-channels are held apart from the rest, and each unit's lane holds the number of those that cover it
pub record CountsUsers (subs : List Sub) (units : List Block) (others : Configuration) : Type 0 where
  pub apart : others.subs ≡ []
  pub configuration : IsConfiguration (with_sub_channels subs others)
  pub counted : Counts units (users subs)
