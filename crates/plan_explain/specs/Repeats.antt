-- Warnings without their repetitions.
use Rattle.std.specs.Prelude.{◌≡◌, ◌↔◌, ◌⊎◌, List, [], ◌∷◌, ◌++◌, Contains}
use Rattle.plan_explain.specs.declared.warning.Warning.{Warning}

-- none of them is there twice
abbrev pub AreApart : List Warning → Type 0
AreApart [] = Unit {0}
AreApart (w ∷ ws) = (Contains ws w → ⊥) × AreApart ws

-- the same warnings, each once
pub record AreEachOnce (found kept : List Warning) : Type 0 where
  pub same : (w : Warning) → Contains kept w ↔ Contains found w
  pub apart : AreApart kept

-- one more, unless it is among them
abbrev pub Joins : List Warning → Warning → List Warning → Type 0
Joins before w after = (Contains before w × (after ≡ before)) ⊎ ((Contains before w → ⊥) × (after ≡ before ++ w ∷ []))
