-- Facts about every state that a typed code reaches.
use Rattle.plan_runs.proofs.Words.{[], ◌<◌, ◌∷◌, Configuration, Contact, Event, Frame, IsConfiguration, IsPlayed}
use Rattle.plan_runs.proofs.Words.{IsProgram, IsStart, IsTyping, Known, List, None, Option, Program, Start}
use Rattle.plan_runs.proofs.Words.{StartIsInRange, State, after_frame, each_at, happens, page_set, run, shown, subst}
use Rattle.plan_runs.proofs.Words.{sym, ℕ}
use Rattle.plan_runs.proofs.Between.{Between, frame_between}
use Rattle.plan_runs.proofs.TypedRuns.{started_between}
use Rattle.plan_runs.proofs.Tracked.{Tracked, TurnBefore, SwapsOn, Airs, some_rounds, frame_airs, frame_tracked}

pub record Holds (p : Program) (ts : List Known) (s : State) : Type 0 where
  pub between : Between p ts s
  pub tracked : Tracked p.plan s

-- a typed code
pub record IsCode (p : Program) (ts : List Known) : Type 0 where
  pub program : IsProgram p
  pub typing : IsTyping p ts

pub frame_holds : (p : Program) (ts : List Known) → IsCode p ts → (s : State) → Holds p ts s
    → Holds p ts (after_frame p s)
frame_holds p ts c s h = record {
  between = frame_between p ts c.program c.typing s h.between;
  tracked = frame_tracked p ts c.program c.typing s h.between h.tracked;
}

pub airs : (p : Program) (ts : List Known) → IsCode p ts → (s : State) → Holds p ts s → Airs p.plan (shown p s)
airs p ts c s h = frame_airs p ts c.program c.typing s h.between h.tracked

pub happens_holds : (p : Program) (ts : List Known) → IsCode p ts → (s : State) (e : Event) → Holds p ts s
    → Holds p ts (happens p s e)
happens_holds p ts c s (Contact d closed) h =
    record {
      between = record { resumes = h.between.resumes; kept = h.between.kept };
      tracked = record {
        count = h.tracked.count;
        eid = h.tracked.eid;
        current = h.tracked.current;
        next = h.tracked.next;
        swaps = h.tracked.swaps;
        page_index = h.tracked.page_index;
      };
    }
happens_holds p ts c s Frame h = frame_holds p ts c s h

pub run_holds : (p : Program) (ts : List Known) → IsCode p ts → (s : State) (events : List Event) → Holds p ts s
    → Holds p ts (run p s events)
run_holds p ts c s [] h = h
run_holds p ts c s (e ∷ es) h = run_holds p ts c (happens p s e) es (happens_holds p ts c s e h)

started_tracked : (p : Program) (start : Start) (s : State) → IsProgram p → StartIsInRange start → IsStart p start s
    → Tracked p.plan s
started_tracked p start s pr range st =
    let current = each_at IsConfiguration p.configurations st.label.cur s.current pr.configurations_formed st.current in
    let page_index : TurnBefore p.plan None s.current s.next 0 = some_rounds p.plan.layout (page_set s.current None) in
    record {
      count = subst (λ (x : ℕ). x < 5000) (sym st.count) range.count;
      eid = subst (λ (x : ℕ). x < 65536) (sym st.eid) range.eid;
      current = current;
      next = subst (λ (x : Configuration). IsConfiguration x) (sym st.next) current;
      swaps = subst (λ (o : Option ℕ). SwapsOn p.plan s.count o) (sym st.left) tt;
      page_index = subst (λ (o : Option ℕ). TurnBefore p.plan o s.current s.next s.page_index) (sym st.left)
          (subst (λ (x : ℕ). TurnBefore p.plan None s.current s.next x) (sym st.page_index) page_index);
    }

pub code_of : (p : Program) (s : State) → (h : IsPlayed p s) → IsCode p h.typed.0
code_of p s h = record { program = h.program; typing = h.typed.1 }

pub started_holds : (p : Program) (ts : List Known) (start : Start) (s : State) → IsCode p ts → StartIsInRange start
    → IsStart p start s → Holds p ts s
started_holds p ts start s c range started =
    record {
      between = started_between p ts start s c.typing started;
      tracked = started_tracked p start s c.program range started;
    }

pub played_holds : (p : Program) (s : State) → (h : IsPlayed p s) → Holds p h.typed.0 s
played_holds p s h =
    let r = h.reached in
    let ts : List Known = h.typed.0 in
    let first : Holds p ts r.first = started_holds p ts r.start r.first (code_of p s h) r.in_range r.started in
    subst (λ (t : State). Holds p ts t) r.leads (run_holds p ts (code_of p s h) r.first r.events first)
