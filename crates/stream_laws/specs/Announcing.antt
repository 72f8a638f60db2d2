-- What a stream without a fault announces before each swap (EN 300 401 clause 6.5).
use Rattle.std.specs.Prelude.{◌≡◌, ℕ, true, false, List}
use Rattle.std.specs.List.{AllByRecursion}
use Rattle.mux_config.specs.Configuration.{Configuration, IsConfiguration}
use Rattle.fib_reader.specs.Picture.{Shows}
use Rattle.stream_check.specs.Frames.{Reading}
use Rattle.stream_check.specs.History.{Item, Moment, ensemble_of_item, listener_after, is_swap, is_cut_off}
use Rattle.plan_runs.specs.Announced.{IsAnnounced}
use Rattle.stream_laws.specs.Faultless.{IsFaultless, IsSaidIn}
use Rattle.stream_laws.specs.Notices.{AreFibBytes, read_frames, notice_frames}

-- the law of swaps: at each swap, unless the beginning of its notice was not heard, if the pictures before it show
-- two configurations, then the bytes of the notice's frames announce the change from one to the other at the swap's
-- count
abbrev pub SwapsAreAnnounced : Type 0
SwapsAreAnnounced =
    (r : Reading) (size step period : ℕ) (frames : List (List (List ℕ))) (past : List Moment) (i : Item)
    (now next : Configuration)
    → AllByRecursion AreFibBytes frames
    → IsFaultless size step period (read_frames r frames) → IsSaidIn step (read_frames r frames) past i
    → is_swap past i ≡ true → is_cut_off past ≡ false
    → IsConfiguration now → IsConfiguration next
    → Shows (listener_after past).current now → Shows (listener_after past).next next
    → IsAnnounced now next (ensemble_of_item i).count (notice_frames past frames)
