-- A certified code plays as the schedule prescribes.
use Rattle.schedule_verifier.proofs.Words.{[], ◌∙◌, ◌∷◌, ◌≡◌, Airing, CertifiedCodesPlay, Configuration}
use Rattle.schedule_verifier.proofs.Words.{Contact, Event, Frame, IsCertified, IsProgram, IsStart, Label, List}
use Rattle.schedule_verifier.proofs.Words.{Names, PerformsAll, Program, RunIsAllowed, Some, Start, State, Tree}
use Rattle.schedule_verifier.proofs.Words.{StartIsInRange, airing_of, after_frame, ap, begun, happens, inl, label_at}
use Rattle.schedule_verifier.proofs.Words.{refl, run, slice_get, subst, sym, ℕ}
use Rattle.plan_runs.proofs.Steps.{same_some}
use Rattle.plan_runs.proofs.Reached.{starts_are_reached}
use Rattle.plan_runs.proofs.TypedRuns.{typed_code_runs}
use Rattle.schedule_runs.specs.Machine.{ComesToOne, SchedulesComeToOne}
use Rattle.schedule_verifier.proofs.Standing.{Stands, frame_passes}
use Rattle.schedule_verifier.proofs.Bursts.{rests_as}

events_play : (s : Tree) (opening : Configuration) (p : Program) → IsProgram p → IsCertified s opening p
    → (events : List Event) (u : State) → Stands s p u → RunIsAllowed p u events
    → PerformsAll s (airing_of u) events (airing_of (run p u events))
events_play s opening p pr cert [] u h fine = refl
events_play s opening p pr cert (Contact contact closed ∷ es) u h fine =
    let v : State = happens p u (Contact contact closed) in
    (airing_of v, refl, events_play s opening p pr cert es v (record { by_hold = h.by_hold; dated = h.dated }) fine.1)
events_play s opening p pr cert (Frame ∷ es) u h fine =
    let one = frame_passes s opening p pr cert u h fine.0 in
    (airing_of (after_frame p u), one.performs, events_play s opening p pr cert es (after_frame p u) one.stands fine.1)

same_label : (p : Program) (a b : Label) (pc : ℕ) → label_at p pc ≡ Some a → label_at p pc ≡ Some b → a ≡ b
same_label p a b pc e f = same_some a b (label_at p pc) e f

start_stands : (s : Tree) (opening : Configuration) (p : Program) → IsCertified s opening p
    → (start : Start) (first : State) → StartIsInRange start → IsStart p start first
    → (first.current ≡ opening) × Stands s p first
start_stands s opening p cert start first low st =
    let names = cert.first in
    let same : names.label ≡ st.label = same_label p names.label st.label 0 names.there st.first in
    let there : slice_get p.configurations names.label.cur ≡ Some first.current =
    subst (λ (l : Label). slice_get p.configurations l.cur ≡ Some first.current) (sym same) st.current in
    let current : first.current ≡ opening = same_some _ _ _ there names.current in
    let named : Names p 0 first.current =
    record { label = names.label; there = names.there; current = there } in (
      current,
      record {
        by_hold = rw st.hold (rw st.pc (record { none = st.left; same = st.next }, inl refl, named));
        dated = rw st.day low.day;
      },
    )

begins_as : (opening : Configuration) (p : Program) (start : Start) (first : State) → IsStart p start first
    → first.current ≡ opening → airing_of first ≡ begun opening start
begins_as opening p start first st current =
    rests_as first st.left st.next
    ∙ ap
    (λ (c : Configuration). begun c (record start { contacts = first.contacts; count = first.count; day = first.day }))
    current
    ∙ cc (st.contacts, st.count, st.day)

pub certified_codes_play : SchedulesComeToOne → CertifiedCodesPlay
certified_codes_play come_to_one s opening p pr typed cert start first events low st within =
    let reached = starts_are_reached p start first low st in
    let runs = typed_code_runs p first events (record { program = pr; typed = typed; reached = reached }) in
    let begin = start_stands s opening p cert start first low st in
    let comes : PerformsAll s (begun opening start) events (airing_of (run p first events)) =
    subst (λ (x : Airing). PerformsAll s x events (airing_of (run p first events)))
    (begins_as opening p start first st begin.0)
    (events_play s opening p pr cert events first begin.1 runs.allowed) in
    let one : ComesToOne s (begun opening start) events = come_to_one s (begun opening start) events in
    record {
      end = airing_of (run p first events);
      comes = comes;
      only = λ other h. one.only other h ∙ sym (one.only _ comes);
      same = refl;
    }
