-- What the frames of a phase send, given the state between two frames.
use Rattle.std.specs.Prelude.{◌≡◌, ℕ, ◌<◌, ◌≤◌, List, Option, Some, None}
use Rattle.mux_config.specs.Configuration.{Configuration}
use Rattle.mux_types.specs.Facts.{Marked}
use Rattle.fib_carousel.specs.Pages.{page_set}
use Rattle.plan_code.specs.declared.plan.Plan.{Plan}

-- the next frame sends these entries, unless it begins a phase: those of the current configuration and, with a swap
-- within the notice, also those of the next one
abbrev pub SentBy : Plan → Option ℕ → Configuration → Configuration → List Marked → Type 0
SentBy plan None c n ms = page_set c None ≡ ms
SentBy plan (Some k) c n ms = (k < plan.notice → page_set c (Some n) ≡ ms) × (plan.notice ≤ k → page_set c None ≡ ms)
