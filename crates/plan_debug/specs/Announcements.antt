-- Announcements: the FIG 0/0 with change flags that the frames of a run send (EN 300 401 clause 6.4).
use Rattle.std.specs.Prelude.{ℕ, ◌==◌, if◌then◌else◌, List, [], ◌∷◌, ◌++◌, Option, Some, None}
use Rattle.mux_types.specs.Entries.{EnsembleInformation}
use Rattle.plan_code.specs.declared.plan.Plan.{Plan}
use Rattle.plan_code.specs.Program.{Program}
use Rattle.plan_code.specs.Machine.{State}
use Rattle.plan_runs.specs.declared.event.Event.{Event}
use Rattle.plan_runs.specs.declared.event.Event.TheVariants.{Contact, Frame}
use Rattle.plan_runs.specs.Frames.{shown, ensemble_sent, after_frame}
use Rattle.plan_runs.specs.Runs.{happens}
use Rattle.plan_debug.specs.declared.announcement.Announcement.{Announcement}

-- the announcement of ensemble information with this occurrence change
abbrev pub announced_for : EnsembleInformation → Option ℕ → Option Announcement
announced_for e None = None
announced_for e (Some low) = if e.change == 0 then None else Some
    (record { count = e.count; occurrence = low; change = e.change })

-- the announcement of this FIG 0/0, if any
abbrev pub announced_by : Option EnsembleInformation → Option Announcement
announced_by None = None
announced_by (Some e) = announced_for e e.occurrence

-- the announcement in the bytes that show this state
abbrev pub shown_announcement : Plan → State → Option Announcement
shown_announcement plan s = announced_by (ensemble_sent plan s)

-- the announcement of the next frame
abbrev pub frame_announcement : Program → State → Option Announcement
frame_announcement p s = shown_announcement p.plan (shown p s)

abbrev pub announcement_list : Option Announcement → List Announcement
announcement_list None = []
announcement_list (Some a) = a ∷ []

-- the announcements of the frames of these events, in order
abbrev pub announced : Program → State → List Event → List Announcement
announced p s [] = []
announced p s (Contact c closed ∷ es) = announced p (happens p s (Contact c closed)) es
announced p s (Frame ∷ es) = announcement_list (frame_announcement p s) ++ announced p (after_frame p s) es
