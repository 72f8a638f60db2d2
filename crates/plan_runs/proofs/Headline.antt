-- The guarantees of a typed code.
use Rattle.plan_runs.proofs.Words.{[], ◌∷◌, AllByRecursion, Contact, Event, Frame, FramesAreRight, FramesCanBeSent}
use Rattle.plan_runs.proofs.Words.{FramesOfTypedCodeAreRight, HeadersAreSent, HeadlineHolds, KeepsReserve, Known, List}
use Rattle.plan_runs.proofs.Words.{PagesKeepReserve, Program, State, after_frame, ensemble_sent, happens, run_frames}
use Rattle.plan_runs.proofs.Words.{sent_entries, shown, shown_bytes}
use Rattle.plan_runs.specs.Reserved.{ReservesAreKept}
use Rattle.plan_runs.proofs.Tracked.{turn_is_page}
use Rattle.plan_runs.proofs.Facts.{Holds, IsCode, airs, frame_holds, happens_holds, code_of, played_holds}
use Rattle.plan_runs.proofs.Right.{PageLaws, frame_right, sent_within, pageable}
use Rattle.plan_runs.proofs.Announcing.{swaps_are_announced}
use Rattle.plan_runs.proofs.Counted.{swaps_come_as_announced}
use Rattle.plan_runs.proofs.Periods.{periods_are_whole}

pub frames_can_be_sent : FramesCanBeSent
frames_can_be_sent p s h =
    let a = airs p h.typed.0 (code_of p s h) s (played_holds p s h) in
    record {
      page_index = turn_is_page p.plan (shown p s) a;
      current = a.current;
      next = a.next;
      count = a.count;
      ensemble = sent_within p.plan (shown p s) a;
    }

frames_right : PageLaws → (p : Program) (ts : List Known) → IsCode p ts → (s : State) (events : List Event)
    → Holds p ts s → FramesAreRight p s events
frames_right laws p ts c s [] h = tt
frames_right laws p ts c s (Contact d closed ∷ es) h =
    frames_right laws p ts c (happens p s (Contact d closed)) es (happens_holds p ts c s (Contact d closed) h)
frames_right laws p ts c s (Frame ∷ es) h = (
  frame_right laws p.plan (shown p s) (airs p ts c s h),
  frames_right laws p ts c (after_frame p s) es (frame_holds p ts c s h),
)

pub frames_are_right : PageLaws → FramesOfTypedCodeAreRight
frames_are_right laws p s h = frame_right laws p.plan (shown p s)
    (airs p h.typed.0 (code_of p s h) s (played_holds p s h))

pub headline_holds : PageLaws → HeadlineHolds
headline_holds laws p s events h = record {
  runs = swaps_are_announced laws p s events h;
  right = frames_right laws p h.typed.0 (code_of p s h) s events (played_holds p s h);
  counted = swaps_come_as_announced laws p s events h;
  whole = periods_are_whole laws p s h;
}

-- ---- the FIG 0/0 of a frame

pub headers_are_sent : PageLaws → HeadersAreSent
headers_are_sent laws p s h next e =
    let u : State = shown p s in
    laws.ensemble p.plan.layout (ensemble_sent p.plan u) u.page_index (sent_entries p.plan u)
    (pageable laws p.plan u (airs p h.typed.0 (code_of p s h) s (played_holds p s h))) next e

-- ---- the reserved FIBs stay empty

frames_keep : PagesKeepReserve → PageLaws → (p : Program) (ts : List Known) → IsCode p ts
    → (s : State) (events : List Event) → Holds p ts s
    → AllByRecursion (KeepsReserve p.plan.layout) (run_frames p s events)
frames_keep kept laws p ts c s [] h = tt
frames_keep kept laws p ts c s (Contact d closed ∷ es) h =
    frames_keep kept laws p ts c (happens p s (Contact d closed)) es (happens_holds p ts c s (Contact d closed) h)
frames_keep kept laws p ts c s (Frame ∷ es) h =
    let u : State = shown p s in
    let here : KeepsReserve p.plan.layout (shown_bytes p.plan u) =
    kept p.plan.layout (ensemble_sent p.plan u) u.page_index (sent_entries p.plan u)
    (pageable laws p.plan u (airs p ts c s h)) in
    (here, frames_keep kept laws p ts c (after_frame p s) es (frame_holds p ts c s h))

pub reserves_are_kept : PagesKeepReserve → PageLaws → ReservesAreKept
reserves_are_kept kept laws p s events h = frames_keep kept laws p _ (code_of p s h) s events (played_holds p s h)
