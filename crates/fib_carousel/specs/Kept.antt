-- A page kept to be sent in several frames, with FIG 0/0 or without it.
use Rattle.std.specs.Prelude.{◌≡◌, ℕ, List, None}
use Rattle.mux_types.specs.Facts.{Marked}
use Rattle.fib_codec.specs.declared.frame_layout.FrameLayout.{FrameLayout}
use Rattle.fib_carousel.specs.declared.kept_page.KeptPage.{KeptPage}
use Rattle.fib_carousel.specs.Bytes.{page_bytes}
use Rattle.fib_carousel.specs.Carried.{AreSendable}

-- the bytes kept are those of page k of these entries without FIG 0/0, and pages can carry the entries
pub record IsKept (layout : FrameLayout) (ms : List Marked) (k : ℕ) (p : KeptPage) : Type 0 where
  pub plain : p.plain ≡ page_bytes layout None k ms
  pub sendable : AreSendable ms
