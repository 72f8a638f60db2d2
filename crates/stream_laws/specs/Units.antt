-- The capacity units of the sub-channels after a swap in a stream without a fault (EN 300 401 clauses 5.1 and 6.2.1).
use Rattle.std.specs.Prelude.{◌≡◌, ℕ, ◌<◌, ◌≤◌, true, List, ◌∷◌, Contains, Some, slice_get}
use Rattle.fib_reader.specs.Raw.{Raw}
use Rattle.stream_check.specs.Frames.{Fib}
use Rattle.stream_check.specs.History.{Item, Moment, Said, listener_after, is_swap, settles_at}
use Rattle.stream_check.specs.Rules.{is_long_form, first_unit, end_unit}
use Rattle.stream_laws.specs.Faultless.{IsFaultless, IsSaidIn}

-- a capacity unit of the sub-channel of this entry of FIG 0/1, which is in the long form
pub record IsUnitOf (sub : Raw) (unit : ℕ) : Type 0 where
  pub long_form : is_long_form sub ≡ true
  pub from : first_unit sub ≤ unit
  pub to : unit < end_unit sub

-- no unit is one of two sub-channels, and each is one of the 864 of a CIF
pub record HaveOwnUnits (subs : List Raw) : Type 0 where
  pub apart : (m n : ℕ) (a b : Raw) (unit : ℕ) → slice_get subs m ≡ Some a → slice_get subs n ≡ Some b
      → IsUnitOf a unit → IsUnitOf b unit → m ≡ n
  pub within : (a : Raw) (unit : ℕ) → Contains subs a → IsUnitOf a unit → unit < 864

-- the law of swapped units: after each swap, also of a notice whose beginning was not heard
abbrev pub SwapsKeepUnits : Type 0
SwapsKeepUnits =
    (size step period : ℕ) (frames : List (List Fib)) (past : List Moment) (i : Item)
    → IsFaultless size step period frames → IsSaidIn step frames past i → is_swap past i ≡ true
    → HaveOwnUnits (listener_after (Said i ∷ past)).current.subs

-- the law of capacity units: at any time after the swap of a notice whose beginning was heard, until the next swap
abbrev pub UnitsStayOwn : Type 0
UnitsStayOwn =
    (size step period : ℕ) (frames : List (List Fib)) (past : List Moment) (i : Item) → 1 ≤ period
    → IsFaultless size step period frames → IsSaidIn step frames past i → settles_at period past ≡ 0
    → HaveOwnUnits (listener_after past).current.subs
