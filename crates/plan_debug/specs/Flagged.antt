-- The flagged FIG 0/0 in the bytes of frames, and the announcements that match them (EN 300 401 clause 6.4).
use Rattle.std.specs.Prelude.{◌≡◌, ◌⊎◌, ℕ, ◌≤◌, Bool, List, [], ◌∷◌, Some}
use Rattle.std.specs.List.{AllByRecursion}
use Rattle.mux_types.specs.Entries.{EnsembleInformation}
use Rattle.fib_codec.specs.Heard.{IsEnsembleHeardInRow}
use Rattle.plan_code.specs.Program.{Program}
use Rattle.plan_code.specs.Machine.{State}
use Rattle.plan_runs.specs.declared.event.Event.{Event}
use Rattle.plan_runs.specs.Runs.{IsEvent, run_frames}
use Rattle.plan_runs.specs.TypedRuns.{IsPlayed}
use Rattle.plan_debug.specs.declared.announcement.Announcement.{Announcement}
use Rattle.plan_debug.specs.Announcements.{announced}

-- a FIG 0/0 with change flags is received in the bytes, whatever its C/N flag, and the announcement has its fields
pub record IsFlaggedIn (frame : List ℕ) (a : Announcement) : Type 0 where
  pub next : Bool
  pub information : EnsembleInformation
  pub heard : IsEnsembleHeardInRow frame next information
  pub flags : 1 ≤ information.change
  pub change : a.change ≡ information.change
  pub occurrence : information.occurrence ≡ Some a.occurrence
  pub count : a.count ≡ information.count

-- no announcement is flagged in the frame, or exactly this one is
abbrev pub IsUnflagged : List ℕ → Type 0
IsUnflagged frame = (a : Announcement) → IsFlaggedIn frame a → ⊥

abbrev pub IsFlaggedOnly : List ℕ → Announcement → Type 0
IsFlaggedOnly frame a = IsFlaggedIn frame a × ((other : Announcement) → IsFlaggedIn frame other → other ≡ a)

-- the announcements are those of the flagged FIG 0/0 of these frames, one for each frame that has one, in order
abbrev pub AreFlaggedIn : List (List ℕ) → List Announcement → Type 0
AreFlaggedIn [] noted = noted ≡ []
AreFlaggedIn (frame ∷ frames) noted =
    (IsUnflagged frame × AreFlaggedIn frames noted)
    ⊎ ((a : Announcement) × (rest : List Announcement) × (noted ≡ a ∷ rest) × IsFlaggedOnly frame a
    × AreFlaggedIn frames rest)

-- ---- the law

abbrev pub AnnouncementsAreFlagged : Type 0
AnnouncementsAreFlagged =
    (p : Program) (s : State) (events : List Event) → IsPlayed p s → AllByRecursion IsEvent events
    → AreFlaggedIn (run_frames p s events) (announced p s events)
