-- The pages of a phase that a player keeps. Public contracts do not refer to them: a frame's bytes are defined as those
-- of its page, made anew.
use Rattle.std.specs.Prelude.{◌≡◌, ℕ, ◌<◌, ◌≤◌, true, false, List, length, Option, Some, None, slice_get}
use Rattle.fib_codec.specs.declared.frame_layout.FrameLayout.{FrameLayout}
use Rattle.mux_config.specs.Configuration.{Configuration}
use Rattle.mux_config.specs.Change.{change_of, bits_of}
use Rattle.mux_types.specs.Facts.{Marked}
use Rattle.fib_carousel.specs.declared.kept_page.KeptPage.{KeptPage}
use Rattle.fib_carousel.specs.Pages.{rounds}
use Rattle.fib_carousel.specs.Kept.{IsKept}
use Rattle.fib_carousel.specs.Walk.{IsAtPage}
use Rattle.plan_code.specs.declared.plan.Plan.{Plan}
use Rattle.plan_code.specs.Program.{Program}
use Rattle.plan_code.specs.Machine.{State}
use Rattle.plan_runs.specs.Frames.{ready, is_noticed, is_first_noticed, shown, sent_entries, sent_rounds, begins_phase}
use Rattle.plan_runs.specs.Phases.{SentBy}
use Rattle.plan_runs.specs.TypedRuns.{IsPlayed, CanBeSent}
use Rattle.plan_player.specs.Positions.{CanRun}
use Rattle.plan_player.specs.declared.phase_pages.PhasePages.{PhasePages}
use Rattle.plan_player.specs.declared.phase_pages.Sent.{Sent}
use Rattle.plan_player.specs.declared.phase_pages.Sent.TheVariants.{Kept, Headed}

-- page n is in the table
pub record HasPage (layout : FrameLayout) (ms : List Marked) (n : ℕ) (pages : List (Option KeptPage)) : Type 0 where
  pub page : KeptPage
  pub held : slice_get pages n ≡ Some (Some page)
  pub kept : IsKept layout ms n page

-- the pages made so far are those of these entries, from page 0 on; the page in turn is one of them or the next to be
-- made, and the cursor is at the next to be made
pub record Keeps (layout : FrameLayout) (ms : List Marked) (page_index : ℕ) (p : PhasePages) : Type 0 where
  pub whole : length p.pages ≡ 60
  pub room : p.made ≤ 60
  pub index_within : page_index ≤ p.made
  pub each : (n : ℕ) → n < p.made → HasPage layout ms n p.pages
  pub all : p.is_whole ≡ true → p.made ≡ rounds layout ms
  pub more : p.is_whole ≡ false → p.made < rounds layout ms
  pub cursor : p.made < rounds layout ms → IsAtPage layout ms p.made p.cursor

-- the last frame: a page that is kept, or one with a FIG 0/0 in a buffer of its own
abbrev pub ShowsAs : Sent → List (Option KeptPage) → List ℕ → List ℕ → Type 0
ShowsAs (Kept n) pages headed bytes = (page : KeptPage) × (slice_get pages n ≡ Some (Some page)) × (page.plain ≡ bytes)
ShowsAs Headed pages headed bytes = headed ≡ bytes

abbrev pub ShowsBytes : PhasePages → List ℕ → Type 0
ShowsBytes p bytes = ShowsAs p.sent p.pages p.headed bytes

-- these are the change flags of a frame, if it is in a notice
abbrev pub HasChange : ℕ → Option ℕ → Configuration → Configuration → ℕ → Type 0
HasChange notice left current next change = is_noticed notice left ≡ true → change ≡ bits_of (change_of current next)

-- these are the change flags for the remaining frames of a notice that has begun
abbrev pub KeepsChange : ℕ → Option ℕ → Configuration → Configuration → ℕ → Type 0
KeepsChange notice None current next change = Unit {0}
KeepsChange notice (Some left) current next change = left < notice → change ≡ bits_of (change_of current next)

-- the pages kept are those of what the next frame sends, unless it begins a phase; the change flags are those of its
-- notice
pub record IsInPhase (plan : Plan) (s : State) (p : PhasePages) : Type 0 where
  pub entries : List Marked
  pub sent : SentBy plan s.left s.current s.next entries
  pub keeps : Keeps plan.layout entries s.page_index p
  pub change : KeepsChange plan.notice s.left s.current s.next p.change

-- the preconditions of the next frame: its instructions can be executed, and then it can be sent; if it begins a
-- phase, page 0 is in turn, and otherwise the pages kept are those that it sends; the change flags are known unless a
-- notice begins
pub record IsFrameReady (p : Program) (s : State) (pages : PhasePages) : Type 0 where
  pub runs : CanRun p (ready s)
  pub sent : CanBeSent p.plan (shown p s)
  pub few : sent_rounds p.plan (shown p s) ≤ 60
  pub first : begins_phase p s ≡ true → (shown p s).page_index ≡ 0
  pub kept : begins_phase p s ≡ false → Keeps p.plan.layout (sent_entries p.plan (shown p s)) (shown p s).page_index
      pages
  pub change : is_first_noticed p.plan.notice (shown p s).left ≡ false
      → HasChange p.plan.notice (shown p s).left (shown p s).current (shown p s).next pages.change

-- the invariant of a player between frames
pub record IsGoing (p : Program) (s : State) (steps : ℕ) (pages : PhasePages) : Type 0 where
  pub played : IsPlayed p s
  pub phase : IsInPhase p.plan s pages
  pub within : steps ≤ p.plan.budget
