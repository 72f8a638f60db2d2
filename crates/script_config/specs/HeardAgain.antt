-- A configuration that is sent page by page, and what a new listener makes of it.
use Rattle.std.specs.Prelude.{◌≡◌, ℕ, zero, suc, ◌%◌, ◌==◌, ◌<◌, false, if◌then◌else◌, List, [], ◌∷◌, Option, Some}
use Rattle.std.specs.Prelude.{None}
use Rattle.mux_config.specs.Configuration.{Configuration, IsConfiguration}
use Rattle.mux_config.specs.Sound.{IsSound}
use Rattle.mux_types.specs.Entries.{EnsembleInformation}
use Rattle.fib_codec.specs.Layouts.{layout_mode}
use Rattle.fib_codec.specs.Modes.{count_step}
use Rattle.fib_codec.specs.declared.frame_layout.FrameLayout.{FrameLayout}
use Rattle.fib_carousel.specs.Bytes.{page_bytes}
use Rattle.fib_carousel.specs.Pages.{page_set, rounds}
use Rattle.fib_reader.specs.Listening.{Listening, untuned}
use Rattle.fib_reader.specs.Picture.{Shows}
use Rattle.plan_runs.specs.Listening.{HearsAll, fibs_of}

-- without change flags, and sent if the count is a multiple of the mode's step
abbrev pub steady : FrameLayout → (eid count : ℕ) → Option EnsembleInformation
steady layout eid count =
    if count % count_step (layout_mode layout) == 0
    then Some (record { eid = eid; change = 0; al = false; count = count; occurrence = None })
    else None

-- the frames of this many pages of a configuration, from page `first` on, all with this count
abbrev pub page_frames : FrameLayout → (eid count : ℕ) → Configuration → (pages first : ℕ) → List (List ℕ)
page_frames layout eid count c zero first = []
page_frames layout eid count c (suc pages) first =
    page_bytes layout (steady layout eid count) first (page_set c None)
    ∷ page_frames layout eid count c pages (suc first)

-- the frames of all pages
abbrev pub all_frames : FrameLayout → (eid count : ℕ) → Configuration → List (List ℕ)
all_frames layout eid count c = page_frames layout eid count c (rounds layout (page_set c None)) 0

-- a new listener that hears all pages of a sound configuration, at a count with FIG 0/0, has it as the current one
abbrev pub PagesAreHeardAgain : Type 0
PagesAreHeardAgain =
    (layout : FrameLayout) (eid count : ℕ) (c : Configuration) → IsConfiguration c → IsSound c → eid < 65536
    → count < 5000
    → count % count_step (layout_mode layout) ≡ 0
    → (heard : Listening) × HearsAll (fibs_of layout (all_frames layout eid count c)) untuned heard
    × Shows heard.current c
