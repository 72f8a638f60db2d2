-- The one layout of sub-channels that serves every configuration of a map's rows, and what stands against one.
use Rattle.std.specs.Prelude.{◌≡◌, ◌⊎◌, ℕ, ◌≤◌, ◌==◌, ◌&&◌, Bool, true, false, not, if◌then◌else◌, nat_lt, List, []}
use Rattle.std.specs.Prelude.{◌∷◌, Option, Some, None}
use Rattle.std.specs.List.{flat_map, range_with_len, list_any, AllByRecursion}
use Rattle.mux_types.specs.declared.parts.Sub.{Sub}
use Rattle.mux_types.specs.Sameness.{is_same_sub}
use Rattle.plan_map.specs.declared.rows.Row.{Row}
use Rattle.plan_map.specs.declared.layout.Clash.{Clash}
use Rattle.plan_map.specs.declared.layout.Layout.{Layout}
use Rattle.plan_map.specs.declared.layout.Layout.TheVariants.{One, Apart}
use Rattle.plan_map.specs.Cells.{end_of}

-- the sub-channels of each row's configuration, row by row
abbrev pub row_subs : Row → List Sub
row_subs r = let c = r.config in c.subs

abbrev pub subs_of : List Row → List Sub
subs_of rows = flat_map row_subs rows

-- whether two sub-channels have a capacity unit in common
abbrev pub shares : Sub → Sub → Bool
shares a b = nat_lt a.start (end_of b) && nat_lt b.start (end_of a)

-- whether no multiplex carries both all the time: the same sub-channel elsewhere, or with another rate or profile; or
-- two sub-channels that share a unit
abbrev pub clashes : Sub → Sub → Bool
clashes a b = if a.id == b.id then not (is_same_sub a b) else shares a b

-- the first sub-channel with an identifier
abbrev pub first_with : ℕ → List Sub → Option Sub
first_with id [] = None
first_with id (s ∷ ss) = if s.id == id then Some s else first_with id ss

abbrev pub listed : Option Sub → List Sub
listed None = []
listed (Some s) = s ∷ []

abbrev pub place_of : List Sub → ℕ → List Sub
place_of subs id = listed (first_with id subs)

-- each sub-channel as it is first, by ascending SubChId
unfoldable pub places_below : ℕ → List Sub → List Sub
places_below end subs = flat_map (place_of subs) (range_with_len 0 end)

abbrev pub places : List Sub → List Sub
places subs = places_below 64 subs

-- the first of these that clashes with a sub-channel
abbrev pub clash_with : Sub → List Sub → Option Sub
clash_with s [] = None
clash_with s (l ∷ ls) = if clashes l s then Some l else clash_with s ls

-- two that clash, the one with the lower SubChId first; of one sub-channel its place
abbrev pub in_order : Sub → Sub → Clash
in_order l s = if nat_lt s.id l.id then record { first = s; second = l } else record { first = l; second = s }

abbrev pub clash_of : Sub → Option Sub → Option Clash → Option Clash
clash_of s None later = later
clash_of s (Some l) later = Some (in_order l s)

-- the first of some sub-channels that clashes with one of a layout, and that one
abbrev pub first_clash : List Sub → List Sub → Option Clash
first_clash layout [] = None
first_clash layout (s ∷ ss) = clash_of s (clash_with s layout) (first_clash layout ss)

-- a layout serves sub-channels: each of them is in it, the same in every field; none clashes with one of it; and it has
-- no other, by ascending SubChId
abbrev pub is_served : List Sub → Sub → Bool
is_served layout s = list_any (λ l. is_same_sub l s) layout

abbrev pub is_refused : List Sub → Sub → Bool
is_refused layout s = list_any (λ l. clashes l s) layout

pub record Serves (layout subs : List Sub) : Type 0 where
  pub each : AllByRecursion (λ s. is_served layout s ≡ true) subs
  pub apart : AllByRecursion (λ s. is_refused layout s ≡ false) subs
  pub found : layout ≡ places subs

-- where there is none, two of the sub-channels clash, by ascending SubChId
abbrev pub Occurs : Sub → List Sub → Type 0
Occurs s [] = ⊥
Occurs s (x ∷ xs) = (s ≡ x) ⊎ Occurs s xs

pub record IsClash (c : Clash) (subs : List Sub) : Type 0 where
  pub first_occurs : Occurs c.first subs
  pub second_occurs : Occurs c.second subs
  pub clash : clashes c.first c.second ≡ true
  pub ordered : c.first.id ≤ c.second.id

abbrev pub IsLayout : Layout → List Sub → Type 0
IsLayout (One v) subs = Serves v.items subs
IsLayout (Apart c) subs = IsClash c subs
