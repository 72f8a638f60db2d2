-- How the FIBs of a frame are divided into those that carry FIGs and the reserved ones after them.
use Rattle.std.specs.Prelude.{◌≡◌, ℕ, ◌+◌, ◌-◌, ◌<◌, ◌≤◌, List, ◌∷◌, replicate}
use Rattle.fib_codec.specs.declared.modes.Mode.{Mode}
use Rattle.fib_codec.specs.declared.modes.Mode.TheVariants.{III}
use Rattle.fib_codec.specs.declared.frame_layout.FrameLayout.{FrameLayout}
use Rattle.fib_codec.specs.declared.frame_layout.FrameLayout.TheVariants.{Whole, ReserveOne, ReserveTwo}
use Rattle.fib_codec.specs.Modes.{fib_count}
use Rattle.fib_codec.specs.Spelling.{checked}
use Rattle.fib_codec.specs.Heard.{fib_at}

abbrev pub layout_mode : FrameLayout → Mode
layout_mode (Whole mode) = mode
layout_mode (ReserveOne mode) = mode
layout_mode ReserveTwo = III

-- the number of reserved FIBs of a frame
abbrev pub reserved_fibs : FrameLayout → ℕ
reserved_fibs (Whole mode) = 0
reserved_fibs (ReserveOne mode) = 1
reserved_fibs ReserveTwo = 2

-- the number of FIBs of a frame, and of those that carry FIGs
abbrev pub frame_fibs : FrameLayout → ℕ
frame_fibs layout = fib_count (layout_mode layout)

abbrev pub used_fibs : FrameLayout → ℕ
used_fibs (Whole mode) = fib_count mode
used_fibs (ReserveOne mode) = fib_count mode - 1
used_fibs ReserveTwo = 2

-- a FIB without FIGs: the end marker, zeros and the CRC
abbrev pub empty_fib : List ℕ
empty_fib = checked (255 ∷ replicate 29 0)

-- the reserved FIBs of a frame with these bytes are empty
abbrev pub KeepsReserve : FrameLayout → List ℕ → Type 0
KeepsReserve layout bytes = (n : ℕ) → used_fibs layout ≤ n → n < frame_fibs layout → fib_at bytes n ≡ empty_fib

-- each FIB of a frame either carries FIGs or is reserved, and at least two carry FIGs
abbrev pub LayoutsDivide : Type 0
LayoutsDivide =
    (layout : FrameLayout) → (used_fibs layout + reserved_fibs layout ≡ frame_fibs layout) × (2 ≤ used_fibs layout)

-- a mode and a number of reserved FIBs have at most one layout
abbrev pub LayoutIsOne : Type 0
LayoutIsOne = (k l : FrameLayout) → layout_mode k ≡ layout_mode l → reserved_fibs k ≡ reserved_fibs l → k ≡ l
