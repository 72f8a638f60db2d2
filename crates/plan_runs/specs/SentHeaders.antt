-- The FIG 0/0 in the bytes of a frame (EN 300 401 clause 6.4).
use Rattle.std.specs.Prelude.{◌≡◌, ◌↔◌, ℕ, Bool, false, List, Some}
use Rattle.mux_types.specs.Entries.{EnsembleInformation}
use Rattle.fib_codec.specs.Heard.{IsEnsembleHeardInRow}
use Rattle.plan_code.specs.declared.plan.Plan.{Plan}
use Rattle.plan_code.specs.Program.{Program}
use Rattle.plan_code.specs.Machine.{State}
use Rattle.plan_runs.specs.Frames.{ensemble_sent, shown, frame_bytes}
use Rattle.plan_runs.specs.TypedRuns.{IsPlayed}

-- exactly the FIG 0/0 that this state sends, with C/N 0, is heard in these bytes
abbrev pub HasHeaderOf : Plan → State → List ℕ → Type 0
HasHeaderOf plan s bytes =
    (next : Bool) (e : EnsembleInformation)
    → IsEnsembleHeardInRow bytes next e ↔ ((next ≡ false) × (ensemble_sent plan s ≡ Some e))

-- ---- the law

abbrev pub HeadersAreSent : Type 0
HeadersAreSent = (p : Program) (s : State) → IsPlayed p s → HasHeaderOf p.plan (shown p s) (frame_bytes p s)
