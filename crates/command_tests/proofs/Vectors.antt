-- A world without files, and one with an output file alone.
use Rattle.std.proofs.Common.{◌≡◌, ℕ, List, [], None, Some, sym}
use Rattle.console.specs.World.{World}
use Rattle.plan_player.specs.Delivery.{played_bytes}
use Rattle.plan_session.specs.declared.start.StartOptions.{StartOptions}
use Rattle.plan_session.specs.Events.{events_of}
use Rattle.command_tests.specs.Playing.{HoldsRun}

abbrev no_files : World
no_files = record { files = λ path. None }

-- without an output file nothing holds the run
nothing_is_held : (code events : List ℕ) (start : StartOptions) → HoldsRun code events start no_files → ⊥
nothing_is_held code events start h = let none = h.written in absurd cc

-- an empty output file holds a run without frames alone
abbrev an_empty_file : World
an_empty_file = record { files = λ path. Some [] }

no_frames_are_held : (code events : List ℕ) (start : StartOptions) (h : HoldsRun code events start an_empty_file)
    → played_bytes h.p (events_of h.steps) ≡ []
no_frames_are_held code events start h =
    let held : Some [] ≡ Some (played_bytes h.p (events_of h.steps)) = h.written in
    let same : [] ≡ played_bytes h.p (events_of h.steps) = cc held in
    sym same
