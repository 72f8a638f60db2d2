-- A listener knows the current configuration after a period of one phase.
use Rattle.plan_runs.proofs.Words.{[], ◌%◌, ◌++◌, ◌∙◌, ◌∷◌, ◌≡◌, ◌≤◌, ◌⊎◌, BeginsNoPhase, Bool, Configuration, Contact}
use Rattle.plan_runs.proofs.Words.{Entry, Event, Frame, HearsAll, IsHeardInSome, IsHeardWhole, IsNeverFull, IsOnePhase}
use Rattle.plan_runs.proofs.Words.{IsPlayed, IsTunedBy, Known, KnowsTheCurrent, List, Listening, OneList, Plan, Program}
use Rattle.plan_runs.proofs.Words.{Raw, Shows, State, after_frame, ap, arith, count_step, facts_of, false, fibs_from}
use Rattle.plan_runs.proofs.Words.{fibs_of, frame_bytes, frame_fibs, happens, inl, inr, is_due, is_first_noticed}
use Rattle.plan_runs.proofs.Words.{layout_mode, length, marked, or_parts, raw_entry, refl, run, run_frames, shown}
use Rattle.plan_runs.proofs.Words.{shown_bytes, subst, suc, true, untuned, with_due_swap, zero, ℕ}
use Rattle.std.proofs.lemmas.Grind.{flat_map-append}
use Rattle.plan_runs.proofs.Facts.{Holds, IsCode, airs, frame_holds, happens_holds, run_holds, code_of, played_holds}
use Rattle.plan_runs.proofs.Notice.{links}
use Rattle.plan_runs.proofs.Periods.{periods_are_whole, contact_current}
use Rattle.plan_runs.proofs.Pictures.{whole_of, IsPartial, weaker, in_contains, in_fact, entries_of, HasAll, all_shown}
use Rattle.plan_runs.proofs.Tuned.{Or, hears_same}
use Rattle.plan_runs.proofs.Contents.{Laws}
use Rattle.plan_runs.proofs.Knowing.{Still, knows_after}
use Rattle.plan_runs.proofs.HeardFrame.{RowSaid, frame_heard, enters, current_shown, as_fibs}
use Rattle.plan_runs.proofs.HeardFrames.{KnowsAt, Nothing, current_part, hears_join, frame_then, HearsWaiting}
use Rattle.plan_runs.proofs.HeardFrames.{waits_run, IsTuning, enters_tuning}
use Rattle.plan_runs.proofs.Joined.{frames_join}

-- an entry under this C/N flag that is heard in one of the frames
abbrev pub SomeSaid : List (List ℕ) → Bool → Raw → Type 0
SomeSaid frames flag x = (e : Entry) × (raw_entry e ≡ x) × IsHeardInSome frames (marked flag e)

pub said_first : (frame : List ℕ) (frames : List (List ℕ)) (flag : Bool) (x : Raw) → SomeSaid (frame ∷ frames) flag x
    → RowSaid frame flag x ⊎ SomeSaid frames flag x
said_first frame frames flag x (e, is, (f, (zero, lt, same), heard)) = inl (e, is, rw same heard)
said_first frame frames flag x (e, is, (f, (suc k, lt, same), heard)) =
    inr (e, is, (f, (k, omega (arith, lt), same), heard))

pub none_said : (flag : Bool) (x : Raw) → SomeSaid [] flag x → ⊥
none_said flag x (e, is, (f, inside, heard)) = omega (arith, inside.1)

said_on : (C : Raw → Type 0) (frame : List ℕ) (frames : List (List ℕ)) (flag : Bool) (x : Raw)
    → Or C (SomeSaid (frame ∷ frames) flag) x → Or (Or C (RowSaid frame flag)) (SomeSaid frames flag) x
said_on C frame frames flag x (inl old) = inl (inl old)
said_on C frame frames flag x (inr said) =
    elim (said_first frame frames flag x said) [ inl here ↦ inl (inr here) | inr later ↦ inr later ]

none_more : (C : Raw → Type 0) (flag : Bool) (x : Raw) → Or C (SomeSaid [] flag) x → C x
none_more C flag x (inl old) = old
none_more C flag x (inr said) = absurd (none_said flag x said)

-- ---- a phase

pub record HearsWindow (p : Program) (s : State) (c : Configuration) (events : List Event) (C : Raw → Type 0)
    (l : Listening) : Type 0 where
  pub after : Listening
  pub hears : HearsAll (fibs_of p.plan.layout (run_frames p s events)) l after
  pub current : IsPartial (whole_of c) (Or C (SomeSaid (run_frames p s events) false)) after.current

window_on : Laws → (p : Program) (ts : List Known) → IsCode p ts → (s : State) (es : List Event) → Holds p ts s
    → BeginsNoPhase p s es → (c : Configuration) → s.current ≡ c → (C N : Raw → Type 0) (l : Listening)
    → KnowsAt p.plan s C N l → HearsWindow p s c es C l
window_on laws p ts code s [] h phase c same C N l knows =
    let here = current_part p.plan s.left s.current s.next s.count C N l knows in
    record {
      after = l;
      hears = refl;
      current = weaker (whole_of c) C (Or C (SomeSaid [] false)) l.current
          (none_more C false) (subst (λ (x : Configuration). IsPartial (whole_of x) C l.current) same here);
    }
window_on laws p ts code s (Contact k closed ∷ es) h phase c same C N l knows =
    let rest = window_on laws p ts code (happens p s (Contact k closed)) es
    (happens_holds p ts code s (Contact k closed) h) phase c same C N l knows in
    record { after = rest.after; hears = rest.hears; current = rest.current }
window_on laws p ts code s (Frame ∷ es) h phase c same C N l knows =
    let u : State = shown p s in
    let plan : Plan = p.plan in
    let a = airs p ts code s h in
    let parts = or_parts (is_due s.left) (is_first_noticed plan.notice u.left) phase.0 in
    let M : Raw → Type 0 = Still plan u.left N in
    let heard = frame_heard laws plan u a C M l (enters p ts code s h C N l parts.0 knows) in
    let D : Raw → Type 0 = Or C (RowSaid (shown_bytes plan u) false) in
    let next = knows_after plan u D (Or M (RowSaid (shown_bytes plan u) true)) heard.after a heard.knows in
    let rest = window_on laws p ts code (after_frame p s) es (frame_holds p ts code s h) phase.1 c
    ((links p ts code s h).current parts.0 ∙ same) D (Or M (RowSaid (shown_bytes plan u) true)) heard.after next in
    record {
      after = rest.after;
      hears = frame_then p s (run_frames p (after_frame p s) es) l heard.after rest.after heard.hears rest.hears;
      current = weaker (whole_of c) (Or D (SomeSaid (run_frames p (after_frame p s) es) false))
          (Or C (SomeSaid (frame_bytes p s ∷ run_frames p (after_frame p s) es) false)) rest.after.current
          (said_on C (frame_bytes p s) (run_frames p (after_frame p s) es) false) rest.current;
    }

window_from : Laws → (p : Program) (ts : List Known) → IsCode p ts → (s : State) (es : List Event) → Holds p ts s
    → IsOnePhase p s es → 1 ≤ length (run_frames p s es) → (l : Listening) → IsTuning p.plan s l
    → HearsWindow p s (with_due_swap s).current es Nothing l
window_from laws p ts code s [] h phase some l tuning = absurd (omega (arith, some))
window_from laws p ts code s (Contact k closed ∷ es) h phase some l tuning =
    let t : State = happens p s (Contact k closed) in
    let rest = window_from laws p ts code t es (happens_holds p ts code s (Contact k closed) h) phase some l tuning in
    record {
      after = rest.after;
      hears = rest.hears;
      current = subst (λ (x : Configuration). IsPartial (whole_of x) (Or Nothing (SomeSaid (run_frames p t es) false))
          rest.after.current) (contact_current s t (is_due s.left) refl refl) rest.current;
    }
window_from laws p ts code s (Frame ∷ es) h phase some l tuning =
    let u : State = shown p s in
    let plan : Plan = p.plan in
    let a = airs p ts code s h in
    let heard = frame_heard laws plan u a Nothing Nothing l (enters_tuning p ts code s h l tuning) in
    let D : Raw → Type 0 = Or Nothing (RowSaid (shown_bytes plan u) false) in
    let M : Raw → Type 0 = Or Nothing (RowSaid (shown_bytes plan u) true) in
    let rest = window_on laws p ts code (after_frame p s) es (frame_holds p ts code s h) phase (with_due_swap s).current
    (current_shown p ts code s h) D M heard.after (knows_after plan u D M heard.after a heard.knows) in
    record {
      after = rest.after;
      hears = frame_then p s (run_frames p (after_frame p s) es) l heard.after rest.after heard.hears rest.hears;
      current = weaker (whole_of (with_due_swap s).current) (Or D (SomeSaid (run_frames p (after_frame p s) es) false))
          (Or Nothing (SomeSaid (frame_bytes p s ∷ run_frames p (after_frame p s) es) false)) rest.after.current
          (said_on Nothing (frame_bytes p s) (run_frames p (after_frame p s) es) false) rest.current;
    }

-- ---- the laws

pub fibs_join : (p : Program) (s : State) (events more : List Event)
    → fibs_of p.plan.layout (run_frames p s (events ++ more)) ≡ fibs_of p.plan.layout (run_frames p s events)
    ++ fibs_of p.plan.layout (run_frames p (run p s events) more)
fibs_join p s events more =
    ap (fibs_of p.plan.layout) (frames_join p s events more)
    ∙ flat_map-append (fibs_from (frame_fibs p.plan.layout) 0) (run_frames p s events)
    (run_frames p (run p s events) more)

tuning_by : (plan : Plan) (s : State) (l : Listening) → (l ≡ untuned) ⊎ KnowsAt plan s Nothing Nothing l
    → s.count % count_step (layout_mode plan.layout) ≡ 0 → IsTuning plan s l
tuning_by plan s l (inl new) whole = inr (new, whole)
tuning_by plan s l (inr knows) whole = inl knows

pub tuning : (p : Program) (s : State) (events : List Event) → (w : HearsWaiting p s events) → IsTunedBy p s events
    → IsTuning p.plan (run p s events) w.after
tuning p s events w (inl there) = inl (w.tuned there)
tuning p s events w (inr next) = tuning_by p.plan (run p s events) w.after w.either next

-- what was heard in full includes every entry
pub whole_had : (c : Configuration) (flag : Bool) (frames : List (List ℕ)) → IsHeardWhole c flag frames
    → HasAll c (SomeSaid frames flag)
whole_had c flag frames whole e inside = (
  e,
  refl,
  whole (marked flag e)
      (in_contains (facts_of c flag) (marked flag e) (in_fact flag (entries_of c) e inside)),
)

pub never_full : Laws → (p : Program) (s : State) → IsPlayed p s → IsNeverFull p s
never_full laws p s h events =
    let w = waits_run laws p h.typed.0 (code_of p s h) s events (played_holds p s h) in
    (w.after, w.hears)

pub knows_the_current : OneList → Laws → (p : Program) (s : State) → IsPlayed p s → KnowsTheCurrent p s
knows_the_current one_list laws p s h waiting window heard tuned phase long all =
    let ts : List Known = h.typed.0 in
    let code = code_of p s h in
    let t : State = run p s waiting in
    let here = played_holds p s h in
    let w = waits_run laws p ts code s waiting here in
    let some : 1 ≤ length (run_frames p t window) = omega (arith, long, h.program.planned.period_from) in
    let v = window_from laws p ts code t window (run_holds p ts code s waiting here) phase some w.after
    (tuning p s waiting w tuned) in
    let mine : HearsAll (fibs_of p.plan.layout (run_frames p s (waiting ++ window))) untuned v.after =
    as_fibs (fibs_of p.plan.layout (run_frames p s (waiting ++ window)))
    (fibs_of p.plan.layout (run_frames p s waiting) ++ fibs_of p.plan.layout (run_frames p t window)) untuned
    v.after (fibs_join p s waiting window)
    (hears_join (fibs_of p.plan.layout (run_frames p s waiting)) (fibs_of p.plan.layout (run_frames p t window)) untuned
    w.after v.after w.hears v.hears) in
    let same : v.after ≡ heard = hears_same one_list _ _ _ heard mine all in
    let c : Configuration = (with_due_swap t).current in
    let whole = periods_are_whole laws.pages p s h waiting window phase long in
    let frames : List (List ℕ) = run_frames p t window in
    let shows : Shows v.after.current c =
    all_shown c _ _ v.current (λ e inside. inr (whole_had c false _ whole e inside)) in
    subst (λ (l : Listening). Shows l.current c) same shows
