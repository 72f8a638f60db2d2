-- Which FIBs are known after one more was put into its slot, and after some were forgotten.
use Rattle.fib_reader.proofs.Words.{◌<◌, ◌≡◌, All, Basis, Bool, Current, KnownFibs, List, Pictures, Remembers, false}
use Rattle.fib_reader.proofs.Words.{get_or, get_or-replicate, refl, sym, true, ℕ}
use Rattle.std.proofs.Math.ListN.{replicate, set}

unset : (n place : ℕ) (flags : List Bool) → flags ≡ replicate n false → place < n → get_or flags place false ≡ true → ⊥
unset n place flags e lt h =
    let off : get_or flags place false ≡ false = rw e (get_or-replicate n place false false lt) in
    absurd (cc)

-- after all were forgotten
pub nothing : (m : KnownFibs) → m.of_current ≡ replicate 1024 false → m.of_pictures ≡ replicate 1024 false
    → (bytes : List ℕ) (basis : Basis) → Remembers m bytes basis → ⊥
nothing m c p bytes Current (place, lt, is, set) = unset 1024 place m.of_current c lt set
nothing m c p bytes Pictures (place, lt, is, set) = unset 1024 place m.of_pictures p lt set
nothing m c p bytes All none = none

-- FIBs whose basis is the current picture alone
pub of_current : (old new : KnownFibs) → new.fibs ≡ old.fibs → new.of_current ≡ old.of_current
    → new.of_pictures ≡ replicate 1024 false
    → (bytes : List ℕ) (basis : Basis) → Remembers new bytes basis → Remembers old bytes basis × (basis ≡ Current)
of_current old new f c p bytes Current (place, lt, is, set) = ((place, lt, rw (sym f) is, rw (sym c) set), refl)
of_current old new f c p bytes Pictures (place, lt, is, set) = absurd (unset 1024 place new.of_pictures p lt set)
of_current old new f c p bytes All none = absurd none
