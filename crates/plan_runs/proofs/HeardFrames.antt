-- A listener hearing the frames of a run: it always has room, and it is tuned after the first FIG 0/0.
use Rattle.plan_runs.proofs.Words.{[], ◌%◌, ◌++◌, ◌∙◌, ◌∷◌, ◌≡◌, ◌≢◌, ◌⊎◌, Bool, Configuration, Contact, Event, Frame}
use Rattle.plan_runs.proofs.Words.{FrameLayout, HasCount, HearsAll, Known, List, Listening, None, Option, Plan, Program}
use Rattle.plan_runs.proofs.Words.{Raw, Some, State, after_frame, ap, count_step, ensemble_sent, false, fibs_from}
use Rattle.plan_runs.proofs.Words.{fibs_of, frame_bytes, frame_fibs, happens, inl, inr, is_due, layout_mode, refl, run}
use Rattle.plan_runs.proofs.Words.{run_frames, shown, shown_bytes, subst, sym, true, untuned, ℕ}
use Rattle.std.proofs.lemmas.List.Concat.{flat_map-cons}
use Rattle.plan_runs.proofs.Tracked.{split_le}
use Rattle.plan_runs.proofs.Facts.{Holds, IsCode, airs, frame_holds, happens_holds}
use Rattle.plan_runs.proofs.Notice.{links}
use Rattle.plan_runs.proofs.Pictures.{whole_of, IsPartial}
use Rattle.plan_runs.proofs.Hearing.{headed}
use Rattle.plan_runs.proofs.Tuned.{Or, tuned_weaker}
use Rattle.plan_runs.proofs.Contents.{Laws}
use Rattle.plan_runs.proofs.Knowing.{KnowsNotice, KnowsBy, InFrame, Still, knows_after}
use Rattle.plan_runs.proofs.HeardFrame.{zero_or_not, RowSaid, fibs_in, frame_heard, frame_passed, enters, enters_swap}
use Rattle.plan_runs.proofs.HeardFrame.{enters_untuned, as_fibs}

abbrev pub KnowsAt : Plan → State → (Raw → Type 0) → (Raw → Type 0) → Listening → Type 0
KnowsAt plan s C N l = KnowsBy plan s.left s.current s.next s.count C N l

abbrev pub Nothing : Raw → Type 0
Nothing x = ⊥

notice_weaker : (plan : Plan) (k : ℕ) (c n : Configuration) (count : ℕ) (C D N M : Raw → Type 0) (l : Listening)
    → ((x : Raw) → D x → C x) → ((x : Raw) → M x → N x)
    → KnowsNotice plan k c n count C N l → KnowsNotice plan k c n count D M l
notice_weaker plan k c n count C D N M l f g h =
    record { awaited = h.awaited; knows = tuned_weaker true c n C D N M h.awaited l f g h.knows; waits = h.waits }

pub knows_weaker : (plan : Plan) (left : Option ℕ) (c n : Configuration) (count : ℕ) (C D N M : Raw → Type 0)
    (l : Listening) → ((x : Raw) → D x → C x) → ((x : Raw) → M x → N x)
    → KnowsBy plan left c n count C N l → KnowsBy plan left c n count D M l
knows_weaker plan None c n count C D N M l f g h = tuned_weaker false c n C D N M None l f g h
knows_weaker plan (Some k) c n count C D N M l f g h = record {
  outside = λ late. tuned_weaker false c n C D N M None l f g (h.outside late);
  inside = λ below. notice_weaker plan k c n count C D N M l f g (h.inside below);
}

pub current_part : (plan : Plan) (left : Option ℕ) (c n : Configuration) (count : ℕ) (C N : Raw → Type 0)
    (l : Listening) → KnowsBy plan left c n count C N l → IsPartial (whole_of c) C l.current
current_part plan None c n count C N l h = h.current
current_part plan (Some k) c n count C N l h =
    elim (split_le plan.notice k) [
      | inl late ↦ (h.outside late).current
      | inr below ↦ (h.inside below).knows.current
    ]

pub frame_weaker : (plan : Plan) (u : State) (C D N M : Raw → Type 0) (l : Listening) → ((x : Raw) → D x → C x)
    → ((x : Raw) → M x → N x) → InFrame plan u C N l → InFrame plan u D M l
frame_weaker plan u C D N M l f g h =
    record {
      awaited = h.awaited;
      knows = tuned_weaker _ u.current u.next C D N M h.awaited l f g h.knows;
      waits = h.waits;
      headless = h.headless;
    }

-- ---- frames one after another

pub hears_join : (xs ys : List (List ℕ)) (a b c : Listening) → HearsAll xs a b → HearsAll ys b c
    → HearsAll (xs ++ ys) a c
hears_join [] ys a b c h g = subst (λ (x : Listening). HearsAll ys x c) h g
hears_join (x ∷ xs) ys a b c (m, one, rest) g = (m, one, hears_join xs ys m b c rest g)

pub fibs_more : (layout : FrameLayout) (frame : List ℕ) (frames : List (List ℕ))
    → fibs_of layout (frame ∷ frames) ≡ fibs_from (frame_fibs layout) 0 frame ++ fibs_of layout frames
fibs_more layout frame frames = flat_map-cons (fibs_from (frame_fibs layout) 0) frame frames

pub frame_then : (p : Program) (s : State) (frames : List (List ℕ)) (l m after : Listening)
    → HearsAll (fibs_in p.plan (shown p s)) l m → HearsAll (fibs_of p.plan.layout frames) m after
    → HearsAll (fibs_of p.plan.layout (frame_bytes p s ∷ frames)) l after
frame_then p s frames l m after h g =
    as_fibs (fibs_of p.plan.layout (frame_bytes p s ∷ frames))
    (fibs_in p.plan (shown p s) ++ fibs_of p.plan.layout frames) l after
    (fibs_more p.plan.layout (frame_bytes p s) frames)
    (hears_join (fibs_in p.plan (shown p s)) (fibs_of p.plan.layout frames) l m after h g)

-- ---- a tuned listener

-- FIG 0/0 of the next frame is heard
pub enters_known : (p : Program) (ts : List Known) → IsCode p ts → (s : State) → Holds p ts s → (l : Listening)
    → KnowsAt p.plan s Nothing Nothing l
    → InFrame p.plan (shown p s) Nothing Nothing (headed (ensemble_sent p.plan (shown p s)) l)
enters_known p ts c s h l knows = by (is_due s.left) refl
  where
    by : (b : Bool) → is_due s.left ≡ b → InFrame p.plan (shown p s) Nothing Nothing
        (headed (ensemble_sent p.plan (shown p s)) l)
    by true e = enters_swap p ts c s h Nothing Nothing l e knows
    by false e =
        frame_weaker p.plan (shown p s) Nothing Nothing (Still p.plan (shown p s).left Nothing) Nothing
        (headed (ensemble_sent p.plan (shown p s)) l) (λ x no_entry. no_entry) (λ x no_entry. absurd no_entry)
        (enters p ts c s h Nothing Nothing l e knows)

pub record HearsRun (p : Program) (s : State) (events : List Event) (l : Listening) : Type 0 where
  pub after : Listening
  pub hears : HearsAll (fibs_of p.plan.layout (run_frames p s events)) l after
  pub knows : KnowsAt p.plan (run p s events) Nothing Nothing after

record HearsOne (p : Program) (s : State) (l : Listening) : Type 0 where
  pub after : Listening
  pub hears : HearsAll (fibs_in p.plan (shown p s)) l after
  pub knows : KnowsAt p.plan (after_frame p s) Nothing Nothing after

hears_one : Laws → (p : Program) (ts : List Known) → IsCode p ts → (s : State) → Holds p ts s → (l : Listening)
    → InFrame p.plan (shown p s) Nothing Nothing (headed (ensemble_sent p.plan (shown p s)) l) → HearsOne p s l
hears_one laws p ts c s h l entered =
    let u : State = shown p s in
    let plan : Plan = p.plan in
    let a = airs p ts c s h in
    let C : Raw → Type 0 = Or Nothing (RowSaid (shown_bytes plan u) false) in
    let N : Raw → Type 0 = Or Nothing (RowSaid (shown_bytes plan u) true) in
    let heard = frame_heard laws plan u a Nothing Nothing l entered in
    let t : State = after_frame p s in
    record {
      after = heard.after;
      hears = heard.hears;
      knows = knows_weaker plan _ _ _ _ C _ N _ _ (λ x no_entry. absurd no_entry) (λ x no_entry. absurd no_entry)
          (knows_after plan u C N _ a heard.knows);
    }

pub known_runs : Laws → (p : Program) (ts : List Known) → IsCode p ts → (s : State) (events : List Event) → Holds p ts s
    → (l : Listening) → KnowsAt p.plan s Nothing Nothing l → HearsRun p s events l
known_runs laws p ts c s [] h l knows = record { after = l; hears = refl; knows = knows }
known_runs laws p ts c s (Contact k closed ∷ es) h l knows =
    let rest = known_runs laws p ts c (happens p s (Contact k closed)) es (happens_holds p ts c s (Contact k closed) h)
    l knows in
    record { after = rest.after; hears = rest.hears; knows = rest.knows }
known_runs laws p ts c s (Frame ∷ es) h l knows =
    let one = hears_one laws p ts c s h l (enters_known p ts c s h l knows) in
    let rest = known_runs laws p ts c (after_frame p s) es (frame_holds p ts c s h) one.after one.knows in
    record {
      after = rest.after;
      hears = frame_then p s _ l _ _ one.hears rest.hears;
      knows = rest.knows;
    }

-- ---- a new listener

pub record HearsWaiting (p : Program) (s : State) (events : List Event) : Type 0 where
  pub after : Listening
  pub hears : HearsAll (fibs_of p.plan.layout (run_frames p s events)) untuned after
  pub either : (after ≡ untuned) ⊎ KnowsAt p.plan (run p s events) Nothing Nothing after
  pub tuned : HasCount p s events → KnowsAt p.plan (run p s events) Nothing Nothing after

pub waits_run : Laws → (p : Program) (ts : List Known) → IsCode p ts → (s : State) (events : List Event) → Holds p ts s
    → HearsWaiting p s events
waits_run laws p ts c s [] h = record { after = untuned; hears = refl; either = inl refl; tuned = λ none. absurd none }
waits_run laws p ts c s (Contact k closed ∷ es) h =
    let rest = waits_run laws p ts c (happens p s (Contact k closed)) es
    (happens_holds p ts c s (Contact k closed) h) in
    record { after = rest.after; hears = rest.hears; either = rest.either; tuned = rest.tuned }
waits_run laws p ts c s (Frame ∷ es) h =
    elim (zero_or_not (s.count % count_step (layout_mode p.plan.layout))) [
      | inl whole ↦
          let one = hears_one laws p ts c s h untuned (enters_untuned p ts c s h whole) in
          let rest = known_runs laws p ts c (after_frame p s) es (frame_holds p ts c s h) one.after one.knows in
          record {
            after = rest.after;
            hears = frame_then p s _ _ _ _ one.hears rest.hears;
            either = inr rest.knows;
            tuned = λ there. rest.knows;
          }
      | inr apart ↦
          let u : State = shown p s in
          let here : u.count % count_step (layout_mode p.plan.layout) ≢ 0 =
          λ e. apart (ap (λ (k : ℕ). k % count_step (layout_mode p.plan.layout)) (sym (links p ts c s h).count) ∙ e) in
          let rest = waits_run laws p ts c (after_frame p s) es (frame_holds p ts c s h) in
          record {
            after = rest.after;
            hears = frame_then p s _ _ _ _ (frame_passed laws _ u (airs p ts c s h) here) rest.hears;
            either = rest.either;
            tuned = λ there. elim there [ inl now ↦ absurd (apart now) | inr later ↦ rest.tuned later ];
          }
    ]

-- ---- tuned by the next frame at the latest

-- it is tuned, or FIG 0/0 of the next frame will tune it
abbrev pub IsTuning : Plan → State → Listening → Type 0
IsTuning plan s l = KnowsAt plan s Nothing Nothing l
    ⊎ ((l ≡ untuned) × (s.count % count_step (layout_mode plan.layout) ≡ 0))

pub enters_tuning : (p : Program) (ts : List Known) → IsCode p ts → (s : State) → Holds p ts s → (l : Listening)
    → IsTuning p.plan s l
    → InFrame p.plan (shown p s) Nothing Nothing (headed (ensemble_sent p.plan (shown p s)) l)
enters_tuning p ts c s h l (inl knows) = enters_known p ts c s h l knows
enters_tuning p ts c s h l (inr (new, whole)) = rw new (enters_untuned p ts c s h whole)
