-- Quiet frames that go to a sink together: all their pages have been made, and their FIG 0/0 differ in the count alone.
use Rattle.std.specs.Prelude.{◌≡◌, ℕ, suc, ◌-◌, ◌<◌, ◌≤◌, ◌%◌, ◌==◌, ◌++◌, true, false, if◌then◌else◌, List, length}
use Rattle.std.specs.Prelude.{take, Option, Some, None}
use Rattle.std.specs.List.{concat}
use Rattle.std.specs.Io.KnownBytes.{Appends}
use Rattle.fib_codec.specs.Layouts.{layout_mode}
use Rattle.mux_config.specs.Change.{change_of, bits_of}
use Rattle.mux_types.specs.Entries.{EnsembleInformation}
use Rattle.fib_codec.specs.Modes.{count_step}
use Rattle.fib_codec.specs.declared.modes.Mode.{Mode}
use Rattle.fib_carousel.specs.Carried.{IsPageable}
use Rattle.plan_code.specs.declared.hold.Hold.{Hold}
use Rattle.plan_code.specs.declared.hold.Hold.TheVariants.{Waits, WaitsAny}
use Rattle.plan_code.specs.declared.plan.Plan.{Plan}
use Rattle.plan_code.specs.Machine.{State}
use Rattle.plan_runs.specs.Frames.{is_noticed, low_of_swap, ensemble_sent, shown_bytes, sent_entries, sent_rounds}
use Rattle.plan_runs.specs.TypedRuns.{CanBeSent}
use Rattle.plan_runs.specs.Announced.{notice_frames}
use Rattle.plan_player.specs.declared.phase_pages.PhasePages.{PhasePages}
use Rattle.plan_player.specs.declared.machine.sending.Header.{Header}
use Rattle.plan_player.specs.Phase.{Keeps, HasChange}
use Rattle.plan_player.specs.Quiet.{counted_on, SwapIsAway}

-- ---- FIG 0/0

-- its content except for the count
abbrev pub header_of : Plan → State → Header
header_of plan s =
    if is_noticed plan.notice s.left then
    record { eid = s.eid; change = bits_of (change_of s.current s.next); swap = Some (low_of_swap s.count s.left) }
    else record { eid = s.eid; change = 0; swap = None }

-- its content in a frame with this count
abbrev pub ensemble_at : Header → ℕ → EnsembleInformation
ensemble_at header count = record {
  eid = header.eid;
  change = header.change;
  al = false;
  count = count;
  occurrence = header.swap;
}

abbrev pub headed_at : Mode → Header → ℕ → Option EnsembleInformation
headed_at mode header count = if count % count_step mode == 0 then Some (ensemble_at header count) else None

-- ---- the frames

-- a frame can be sent in this state, and its page has been made or is the next to be made
pub record IsPageReady (plan : Plan) (s : State) (pages : PhasePages) : Type 0 where
  pub sent : CanBeSent plan s
  pub few : sent_rounds plan s ≤ 60
  pub keeps : Keeps plan.layout (sent_entries plan s) s.page_index pages
  pub change : HasChange plan.notice s.left s.current s.next pages.change

-- this holds for each of n frames, all pages have been made, and no notice begins or ends
pub record IsStretch (plan : Plan) (n : ℕ) (s : State) (pages : PhasePages) : Type 0 where
  pub whole : pages.is_whole ≡ true
  pub away : SwapIsAway plan.notice s.left n
  pub ready : (k : ℕ) → k < n → IsPageReady plan (counted_on plan k s) pages

-- a sink accepted this many of n frames in full, and this many bytes of the next one, fewer than all; the counts are
-- those after that one
pub record IsCut (plan : Plan) (n : ℕ) (s t : State) (before after : Option (List ℕ)) (frames bytes : ℕ) : Type 0 where
  pub few : frames < n
  pub part : bytes < length (shown_bytes plan (counted_on plan frames s))
  pub state : t ≡ counted_on plan (suc frames) s
  pub out : Appends before after (concat (notice_frames plan frames s)
      ++ take bytes (shown_bytes plan (counted_on plan frames s)))

-- ---- frames that differ in the count alone

-- two frames have the same page, and both FIG 0/0 with this header or both none; the second one can be sent
pub record IsAlike (plan : Plan) (header : Header) (s t : State) : Type 0 where
  pub page_index : s.page_index ≡ t.page_index
  pub entries : sent_entries plan s ≡ sent_entries plan t
  pub first : header_of plan s ≡ header
  pub second : header_of plan t ≡ header
  pub on_step : (s.count % count_step (layout_mode plan.layout) == 0)
      ≡ (t.count % count_step (layout_mode plan.layout) == 0)
  pub pageable : IsPageable (ensemble_sent plan t) (sent_entries plan t)

abbrev pub AreAlike : Plan → Header → ℕ → State → State → Type 0
AreAlike plan header n s t = (k : ℕ) → k < n → IsAlike plan header (counted_on plan k s) (counted_on plan k t)

-- if the old bytes are n frames, the new ones are the n frames that start with this count and are otherwise alike
abbrev pub AreRecounted : Plan → Header → ℕ → ℕ → List ℕ → List ℕ → Type 0
AreRecounted plan header count n old new =
    (s t : State) → AreAlike plan header n s t → t.count ≡ count
    → old ≡ concat (notice_frames plan n s) → new ≡ concat (notice_frames plan n t)

-- ---- the counts

-- the frames left until a swap, n frames later; below, the wait condition
abbrev pub left_later : ℕ → Option ℕ → Option ℕ
left_later n None = None
left_later n (Some left) = Some (left - n)

abbrev pub hold_later : ℕ → Hold → Hold
hold_later n (Waits frames) = Waits (frames - n)
hold_later n (WaitsAny closed opened until left) = WaitsAny closed opened until (left_later n left)
hold_later n hold = hold

-- in each of n frames what is sent takes this many pages
abbrev pub HasRounds : Plan → ℕ → State → ℕ → Type 0
HasRounds plan n s pages = (k : ℕ) → k < n → sent_rounds plan (counted_on plan k s) ≡ pages
