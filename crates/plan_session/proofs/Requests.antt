-- A request has at most one playback.
use Rattle.plan_session.proofs.Words.{◌∙◌, ◌≡◌, Appends, Configuration, Delivered, Events, IsAtStart, IsPlayFault}
use Rattle.plan_session.proofs.Words.{IsPlayback, IsRunFault, IsStarted, IsTypedFileOf, List, None, Option, Playing}
use Rattle.plan_session.proofs.Words.{Program, Request, Step, Stopped, Write, ap, events_of, frames_of, length}
use Rattle.plan_session.proofs.Words.{played_bytes, refl, replicate, slice_get, start_fault, start_of, subst, sym, ℕ}
use Rattle.plan_code.specs.declared.hold.Hold.TheVariants.{Running}
use Rattle.plan_code.specs.declared.label.Label.{Label}
use Rattle.plan_code.specs.Machine.{State}
use Rattle.plan_runs.specs.Runs.{IsStart}
use Rattle.plan_session.specs.declared.run_fault.RunFault.{RunFault}
use Rattle.plan_session.specs.Playback.{Begins}
use Rattle.plan_runs.specs.declared.event.Start.{Start as Starting}
use Rattle.plan_session.specs.declared.run_fault.RunFault.TheVariants.{Start as StartFault}

-- ---- at most one start

abbrev opening : Configuration → Starting → State
opening current start = record {
  current = current;
  next = current;
  left = None;
  pc = 0;
  hold = Running;
  counters = replicate 8 0;
  contacts = start.contacts;
  count = start.count;
  day = start.day;
  eid = start.eid;
  page_index = 0;
}

is_opening : (code : Program) (start : Starting) (s : State) → IsStart code start s → s ≡ opening s.current start
is_opening code start s h = rw (
  h.next,
  h.left,
  h.pc,
  h.hold,
  h.counters,
  h.contacts,
  h.count,
  h.day,
  h.eid,
  h.page_index,
) refl

same_current : (code : Program) (start : Starting) (s t : State) → IsStart code start s → IsStart code start t
    → s.current ≡ t.current
same_current code start s t h k =
    let label : h.label ≡ k.label = cc (sym h.first ∙ k.first) in
    cc (sym h.current ∙ ap (λ (l : Label). slice_get code.configurations l.cur) label ∙ k.current)

pub same_start : (code : Program) (start : Starting) (p q : Playing) → IsAtStart code start p → IsAtStart code start q
    → p ≡ q
same_start code start p q h k =
    let states : p.state ≡ q.state = is_opening _ _ _ h.state_is ∙ ap (λ (c : Configuration). opening c start)
    (same_current _ _ _ _ h.state_is k.state_is) ∙ sym (is_opening _ _ _ k.state_is) in
    let codes : p.code ≡ q.code = h.code_is ∙ sym k.code_is in
    let steps : p.steps ≡ q.steps = h.none_yet ∙ sym k.none_yet in
    ap (λ (c : Program). let r : Playing = record { code = c; state = p.state; steps = p.steps } in r) codes
    ∙ ap (λ (s : State). let r : Playing = record { code = q.code; state = s; steps = p.steps } in r) states
    ∙ ap (λ (n : ℕ). let r : Playing = record { code = q.code; state = q.state; steps = n } in r) steps

pub same_player : (code : Program) (start : Starting) (text : List ℕ) (p q : Playing) (steps : List Step)
    → IsStarted code start text p steps → IsAtStart code start q → q ≡ p
same_player code start text p q steps h begins = same_start code start q p begins h.begins

-- the playback of a request is one of the code in its file
pub started : (r : Request) (p : Playing) (steps : List Step) (code : Program) (start : Starting) → IsPlayback r p steps
    → code ≡ p.code → start ≡ start_of code r → IsStarted code start r.text p steps
started r p steps code start h codes starts =
    let there : IsStarted p.code (start_of p.code r) r.text p steps =
    record { in_range = h.ready.start; begins = h.begins; holds = h.holds } in
    let here = subst (λ (c : Program). IsStarted c (start_of c r) r.text p steps) (sym codes) there in
    subst (λ (s : Starting). IsStarted code s r.text p steps) (sym starts) here

-- and the converse
pub asked_for : (r : Request) (p : Playing) (steps : List Step) (code : Program) (start : Starting)
    → IsTypedFileOf code r.file → start ≡ start_of code r → IsStarted code start r.text p steps → IsPlayback r p steps
asked_for r p steps code start file starts h =
    let here = subst (λ (s : Starting). IsStarted code s r.text p steps) starts h in
    let codes : code ≡ p.code = sym here.begins.code_is in
    let there = subst (λ (c : Program). IsStarted c (start_of c r) r.text p steps) codes here in
    record {
      ready = record { file = subst (λ (c : Program). IsTypedFileOf c r.file) codes file; start = there.in_range };
      begins = there.begins;
      holds = there.holds;
    }

-- a player at its start
pub begins_of : (r : Request) (p : Playing) (code : Program) (start : Starting) → IsTypedFileOf code r.file
    → start ≡ start_of code r → start_fault start ≡ None → IsAtStart code start p → Begins r p
begins_of r p code start file starts none begins =
    let codes : code ≡ p.code = sym begins.code_is in
    let at : IsAtStart code (start_of code r) p = subst (λ (s : Starting). IsAtStart code s p) starts begins in
    let in_range : start_fault (start_of code r) ≡ None = subst (λ (s : Starting). start_fault s ≡ None) starts none in
    record {
      ready = record {
        file = subst (λ (c : Program). IsTypedFileOf c r.file) codes file;
        start = subst (λ (c : Program). start_fault (start_of c r) ≡ None) codes in_range;
      };
      begins = subst (λ (c : Program). IsAtStart c (start_of c r) p) codes at;
    }

-- a fault of playing a code is one of the request
pub fault_of_run : (r : Request) (code : Program) (start : Starting) (e : RunFault) → IsTypedFileOf code r.file
    → start ≡ start_of code r → IsPlayFault code start r.text e → IsRunFault r e
fault_of_run r code start (StartFault fault) file starts h =
    (code, file, ap (λ (s : Starting). start_fault s) (sym starts) ∙ h)
fault_of_run r code start (Events fault) file starts h =
    (code, record { file = file; start = ap (λ (s : Starting). start_fault s) (sym starts) ∙ h.0 }, h.1)
fault_of_run r code start (Write frames bytes) file starts h =
    (h.0, h.1, asked_for r h.0 h.1 code start file starts h.2)
fault_of_run r code start _ file starts h = absurd h

-- ---- what is delivered

pub whole : (p q new : Playing) (steps others : List Step) (x y : Option (List ℕ)) (n : ℕ) → q ≡ p → others ≡ steps
    → Delivered q new (events_of others) x y n
    → (n ≡ length (frames_of p (events_of steps))) × Appends x y (played_bytes p (events_of steps))
whole p q new steps others x y n players lists d =
    let one : (n ≡ length (frames_of p (events_of others))) × Appends x y (played_bytes p (events_of others)) =
    rw (← players) (d.whole, d.out) in
    rw (← lists) one

pub cut_off : (p q new : Playing) (steps others : List Step) (x y : Option (List ℕ)) (n k : ℕ) → q ≡ p → others ≡ steps
    → Stopped q new (events_of others) x y n k
    → Stopped p new (events_of steps) x y n k
cut_off p q new steps others x y n k players lists s =
    let one = subst (λ (a : Playing). Stopped a new (events_of others) x y n k) players s in
    subst (λ (l : List Step). Stopped p new (events_of l) x y n k) lists one
