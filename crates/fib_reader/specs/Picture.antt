-- Invariants of pictures.
use Rattle.std.specs.Prelude.{◌≡◌, ◌<◌, ◌≤◌, ◌++◌, ◌⊎◌, List, [], ◌∷◌, length, map}
use Rattle.mux_config.specs.Configuration.{Configuration, IsAscending}
use Rattle.std.specs.List.{AllByRecursion}
use Rattle.mux_types.specs.Facts.{sub_entries, service_entries}
use Rattle.fib_reader.specs.Raw.{Raw, raw_entry}
use Rattle.fib_reader.specs.Listening.{Pictured, identifier_of, all_entries}

-- each list has entries of its extension, and there are at most 64 sub-channels
abbrev pub IsSubOf : Raw → Type 0
IsSubOf raw = (raw.ext ≡ 1) × (identifier_of raw < 64)

pub record IsPictured (p : Pictured) : Type 0 where
  pub subs : AllByRecursion IsSubOf p.subs
  pub services : AllByRecursion (λ raw. raw.ext ≡ 2) p.services
  pub packets : AllByRecursion (λ raw. raw.ext ≡ 3) p.packets

-- and each list is in ascending order of identifiers, and has at most 64 entries
pub record IsKept (p : Pictured) : Type 0 where
  pub pictured : IsPictured p
  pub subs_ascend : IsAscending identifier_of p.subs
  pub services_ascend : IsAscending identifier_of p.services
  pub packets_ascend : IsAscending identifier_of p.packets
  pub subs_few : length p.subs ≤ 64
  pub services_few : length p.services ≤ 64
  pub packets_few : length p.packets ≤ 64

-- in ascending order of extension and identifier
abbrev pub IsBefore : Raw → Raw → Type 0
IsBefore a b = (a.ext < b.ext) ⊎ ((a.ext ≡ b.ext) × (identifier_of a < identifier_of b))

abbrev pub AreInOrder : List Raw → Type 0
AreInOrder [] = Unit {0}
AreInOrder (raw ∷ raws) = AllByRecursion (IsBefore raw) raws × AreInOrder raws

-- a picture shows exactly the entries of a configuration
abbrev pub Shows : Pictured → Configuration → Type 0
Shows picture c = all_entries picture ≡ map raw_entry (sub_entries c ++ service_entries c)
