-- The most pages that configurations can need.
use Rattle.std.specs.Prelude.{ℕ, ◌≤◌, ◌==◌, if◌then◌else◌, Some, None}
use Rattle.mux_config.specs.Configuration.{Configuration, IsConfiguration}
use Rattle.fib_codec.specs.declared.frame_layout.FrameLayout.{FrameLayout}
use Rattle.fib_codec.specs.Layouts.{used_fibs}
use Rattle.fib_carousel.specs.Pages.{page_set, rounds}

-- one configuration alone, with pages of this many FIBs, 2 to 4
abbrev pub most_alone : ℕ → ℕ
most_alone fibs = if fibs == 2 then 78 else if fibs == 3 then 41 else 28

-- two side by side
abbrev pub most_together : ℕ → ℕ
most_together fibs = if fibs == 2 then 155 else if fibs == 3 then 81 else 55

abbrev pub MostPages : Type 0
MostPages =
    (layout : FrameLayout) (c d : Configuration) → IsConfiguration c → IsConfiguration d
    → (rounds layout (page_set c None) ≤ most_alone (used_fibs layout))
    × (rounds layout (page_set c (Some d)) ≤ most_together (used_fibs layout))
