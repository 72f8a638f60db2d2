-- When FIBs contain nothing new to a listener, and when that stays so for the FIBs that are known.
use Rattle.std.specs.Prelude.{◌≡◌, ℕ, ◌<◌, ◌==◌, Bool, true, false, if◌then◌else◌, List, [], get_or, Option, Some}
use Rattle.fib_codec.specs.Grammar.{Fig, IsFib}
use Rattle.fib_reader.specs.declared.basis.Basis.{Basis}
use Rattle.fib_reader.specs.declared.basis.Basis.TheVariants.{Current, Pictures, All}
use Rattle.fib_reader.specs.declared.known_fibs.KnownFibs.{KnownFibs}
use Rattle.fib_reader.specs.Listening.{Listening, hear_figs}

-- a listener that agrees with an earlier one in this basis
abbrev pub Agrees : Basis → Listening → Listening → Type 0
Agrees Current old l = (l.tuned ≡ old.tuned) × (l.current ≡ old.current)
Agrees Pictures old l = (l.tuned ≡ old.tuned) × (l.current ≡ old.current) × (l.next ≡ old.next)
Agrees All old l = l ≡ old

-- the basis of the entries of a FIG: the whole state for FIG 0/0, both pictures for entries with C/N 1
abbrev pub basis_of : (next : Bool) → (ext : ℕ) → Basis
basis_of next ext = if ext == 0 then All else if next then Pictures else Current

-- this is nothing new to a listener that agrees in this basis
abbrev pub IsKnownBy : Basis → Listening → (Listening → Option Listening) → Type 0
IsKnownBy basis old hear = (l : Listening) → Agrees basis old l → hear l ≡ Some l

-- the current picture is unchanged
abbrev pub KeepsCurrent : (Listening → Option Listening) → Type 0
KeepsCurrent hear = (old new : Listening) → hear old ≡ Some new → (new.tuned ≡ old.tuned) × (new.current ≡ old.current)

-- these bytes are a FIB, and its FIGs are nothing new to a listener that agrees in this basis
abbrev pub AddsNothing : Basis → Listening → List ℕ → Type 0
AddsNothing basis l bytes =
    (figs : List Fig) × IsFib bytes figs × ((others : List Fig) → IsFib bytes others → others ≡ figs)
    × IsKnownBy basis l (hear_figs figs)

-- these bytes are in one of the slots, with this basis
abbrev pub Remembers : KnownFibs → List ℕ → Basis → Type 0
Remembers m bytes Current =
    (place : ℕ) × (place < 1024) × (get_or m.fibs place [] ≡ bytes) × (get_or m.of_current place false ≡ true)
Remembers m bytes Pictures =
    (place : ℕ) × (place < 1024) × (get_or m.fibs place [] ≡ bytes) × (get_or m.of_pictures place false ≡ true)
Remembers m bytes All = ⊥

-- nothing that is remembered is new
abbrev pub AreRemembered : KnownFibs → Listening → Type 0
AreRemembered m l = (bytes : List ℕ) (basis : Basis) → Remembers m bytes basis → AddsNothing basis l bytes
