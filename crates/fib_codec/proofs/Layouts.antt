-- The layouts of a frame, and examples of frames that keep their reserve and of one that does not.
use Rattle.fib_codec.proofs.Words.{◌++◌, ◌∷◌, ◌≡◌, I, II, III, IV, List, arith, refl, replicate, ℕ}
use Rattle.fib_codec.specs.declared.frame_layout.FrameLayout.TheVariants.{Whole, ReserveOne, ReserveTwo}
use Rattle.fib_codec.specs.Layouts.{empty_fib, KeepsReserve, LayoutsDivide, LayoutIsOne}

pub layouts_divide : LayoutsDivide
layouts_divide (Whole I) = (refl, omega arith)
layouts_divide (Whole II) = (refl, omega arith)
layouts_divide (Whole III) = (refl, omega arith)
layouts_divide (Whole IV) = (refl, omega arith)
layouts_divide (ReserveOne I) = (refl, omega arith)
layouts_divide (ReserveOne II) = (refl, omega arith)
layouts_divide (ReserveOne III) = (refl, omega arith)
layouts_divide (ReserveOne IV) = (refl, omega arith)
layouts_divide ReserveTwo = (refl, omega arith)

pub layout_is_one : LayoutIsOne
layout_is_one (Whole m) (Whole n) mode reserve = rw (mode) refl
layout_is_one (Whole m) (ReserveOne n) mode reserve = absurd (omega (arith, reserve))
layout_is_one (Whole m) ReserveTwo mode reserve = absurd (omega (arith, reserve))
layout_is_one (ReserveOne m) (Whole n) mode reserve = absurd (omega (arith, reserve))
layout_is_one (ReserveOne m) (ReserveOne n) mode reserve = rw (mode) refl
layout_is_one (ReserveOne m) ReserveTwo mode reserve = absurd (omega (arith, reserve))
layout_is_one ReserveTwo (Whole n) mode reserve = absurd (omega (arith, reserve))
layout_is_one ReserveTwo (ReserveOne n) mode reserve = absurd (omega (arith, reserve))
layout_is_one ReserveTwo ReserveTwo mode reserve = refl

-- a frame of three FIBs of which the last is empty, and one of zeros
keeps_last : KeepsReserve (ReserveOne II) (replicate 64 0 ++ empty_fib)
keeps_last n low high =
    let last : n ≡ 2 = omega (arith, low, high) in
    rw (last) refl

keeps_nothing : KeepsReserve (Whole II) (replicate 96 0)
keeps_nothing n low high = absurd (omega (arith, low, high))

zeros_are_no_reserve : KeepsReserve (ReserveOne II) (replicate 96 0) → ⊥
zeros_are_no_reserve keeps = absurd (first (keeps 2 (omega arith) (omega arith)))
  where
    first : {xs ys : List ℕ} → 0 ∷ xs ≡ 255 ∷ ys → ⊥
    first same = absurd cc
