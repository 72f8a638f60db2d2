-- Predicting, by a pass over FIGs, that they contain nothing new or that there is room for what is new.
use Rattle.std.specs.Prelude.{◌≡◌, ℕ, ◌+◌, ◌≤◌, ◌==◌, true, false, List, length, Option, Some}
use Rattle.mux_types.specs.Entries.{EnsembleInformation}
use Rattle.fib_reader.specs.Raw.{Raw}
use Rattle.fib_reader.specs.Listening.{Pictured, Listening, is_known, is_made}

-- a listener knows this ensemble information: it makes no swap, and none but the awaited one is announced
pub record IsKnownTo (l : Listening) (e : EnsembleInformation) : Type 0 where
  pub tuned : l.tuned ≡ true
  pub not_made : is_made l.awaited e ≡ false
  pub awaits : (e.change == 0) ≡ false → e.occurrence ≡ l.awaited

-- known entries are still known, and at most this many are new
pub record HasGrown (most : ℕ) (old new : List Raw) : Type 0 where
  pub few : length new ≤ length old + most
  pub known : (raw : Raw) → is_known raw old ≡ true → is_known raw new ≡ true

pub record HasGrownBy (most : ℕ) (old new : Pictured) : Type 0 where
  pub services : HasGrown most old.services new.services
  pub packets : HasGrown most old.packets new.packets

-- no swap was made and none is newly awaited, and each picture has grown by at most this many entries of a kind
pub record HasGrownFrom (most : ℕ) (old new : Listening) : Type 0 where
  pub tuned : new.tuned ≡ old.tuned
  pub awaited : new.awaited ≡ old.awaited
  pub current : HasGrownBy most old.current new.current
  pub next : HasGrownBy most old.next new.next

-- there is room for what is heard after `few` new entries at most, and then there are `many` at most
abbrev pub LeavesRoom : Listening → (few many : ℕ) → (Listening → Option Listening) → Type 0
LeavesRoom old few many hear =
    (l : Listening) → HasGrownFrom few old l → (after : Listening) × (hear l ≡ Some after) × HasGrownFrom many old after
