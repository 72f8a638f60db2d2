-- A listener that heard a notice knows the new configuration from the first FIB of the swap's frame on.
use Rattle.plan_runs.proofs.Words.{[], ◌++◌, ◌+◌, ◌-◌, ◌<◌, ◌∙◌, ◌∷◌, ◌≡◌, ◌≤◌, ◌⊎◌, BeginsNoPhase, Bool, Configuration}
use Rattle.plan_runs.proofs.Words.{Contact, Contains-append_cases, Contains-append_left, Event, Frame, HearsAll}
use Rattle.plan_runs.proofs.Words.{IsAnnounced, IsHeardInRow, IsNotice, IsPlayed, IsUntilNextSwap, Known, KnowsTheNew}
use Rattle.plan_runs.proofs.Words.{List, Listening, MakesNoSwap, None, OneList, Option, Plan, Program, Raw, Shows, Some}
use Rattle.plan_runs.proofs.Words.{State, after_frame, ap, arith, cond, ensemble_sent, eqb-true, false, fibs_of}
use Rattle.plan_runs.proofs.Words.{frame_bytes, happens, heard_after, heard_before, heard_left, heard_of, inl, inr}
use Rattle.plan_runs.proofs.Words.{is_due, is_first_noticed, is_noticed, left_after_frame, length, marked, notice_begin}
use Rattle.plan_runs.proofs.Words.{notice_frames, or_parts, raw_entry, refl, run, run_frames, shown, shown_bytes, subst}
use Rattle.plan_runs.proofs.Words.{suc, sym, take, take-append-le, true, untuned, zero, ℕ}
use Rattle.std.proofs.Math.Seq.{take-append-add}
use Rattle.plan_runs.proofs.Passing.{not_due}
use Rattle.plan_runs.proofs.Tracked.{noticed, split_le}
use Rattle.plan_runs.proofs.Carries.{LeftBy}
use Rattle.plan_runs.proofs.Facts.{Holds, IsCode, airs, frame_holds, happens_holds, run_holds, code_of, played_holds}
use Rattle.plan_runs.proofs.Joined.{state_joins}
use Rattle.plan_runs.proofs.Notice.{Links, links, heard_frame}
use Rattle.plan_runs.proofs.Announcing.{swaps_run, heard_run}
use Rattle.plan_runs.proofs.Pictures.{whole_of, IsPartial, weaker, HasAll, all_shown}
use Rattle.plan_runs.proofs.Hearing.{headed}
use Rattle.plan_runs.proofs.Tuned.{Or, hears_same}
use Rattle.plan_runs.proofs.Contents.{Laws}
use Rattle.plan_runs.proofs.Knowing.{InFrame, Still, knows_after}
use Rattle.plan_runs.proofs.HeardFrame.{RowSaid, fibs_in, frame_heard, some_heard, enters, enters_swap, current_shown}
use Rattle.plan_runs.proofs.HeardFrame.{due_current, as_fibs}
use Rattle.plan_runs.proofs.HeardFrames.{KnowsAt, Nothing, knows_weaker, current_part, hears_join, fibs_more}
use Rattle.plan_runs.proofs.HeardFrames.{frame_then, waits_run, IsTuning, enters_tuning}
use Rattle.plan_runs.proofs.CurrentKnown.{SomeSaid, fibs_join, tuning, whole_had}

-- ---- what was heard of the notice

pub said_append : (xs ys : List (List ℕ)) (flag : Bool) (x : Raw) → SomeSaid (xs ++ ys) flag x → SomeSaid xs flag x
    ⊎ SomeSaid ys flag x
said_append xs ys flag x (e, is, (f, inside, heard)) =
    elim (Contains-append_cases xs ys f inside) [
      | inl here ↦ inl (e, is, (f, here, heard))
      | inr there ↦ inr (e, is, (f, there, heard))
    ]

said_front : (xs ys : List (List ℕ)) (flag : Bool) (x : Raw) → SomeSaid xs flag x → SomeSaid (xs ++ ys) flag x
said_front xs ys flag x (e, is, (f, inside, heard)) = (e, is, (f, Contains-append_left xs ys f inside, heard))

pub said_one : (frame : List ℕ) (flag : Bool) (x : Raw) → SomeSaid (frame ∷ []) flag x → RowSaid frame flag x
said_one frame flag x (e, is, (f, (zero, lt, same), heard)) =
    (e, is, subst (λ (b : List ℕ). IsHeardInRow b (marked flag e)) (sym same) heard)
said_one frame flag x (e, is, (f, (suc k, lt, same), heard)) = absurd (omega (arith, lt))

-- nothing was heard before the first frame of the notice
pub begun_left : (notice : ℕ) (left : Option ℕ) → is_first_noticed notice left ≡ true → left ≡ Some notice
begun_left notice None e = absurd cc
begun_left notice (Some l) e = ap (λ (k : ℕ). Some k) (eqb-true l notice e)

noticed_first : (notice : ℕ) (left : Option ℕ) → 1 ≤ notice → is_first_noticed notice left ≡ true
    → is_noticed notice left ≡ true
noticed_first notice left some e = cc (begun_left notice left e, noticed notice notice some (omega arith))

pub none_heard : (plan : Plan) (s : State) (before left : Option ℕ) (n m : Configuration) → s.left ≡ before
    → LeftBy plan s.count before n left m → left ≡ Some plan.notice → heard_of plan s ≡ []
none_heard plan s None left n m e g is = ap (heard_left plan s) e
none_heard plan s (Some k) left n m e g is =
    let same : k ≡ plan.notice = cc (sym g.0 ∙ is) in
    let none : plan.notice - k ≡ 0 = omega (arith, same) in
    ap (heard_left plan s) e ∙ ap (λ (n : ℕ). notice_frames plan n (notice_begin plan k s)) none

before_first : (plan : Plan) (s u : State) → Links plan s u → u.left ≡ Some plan.notice → (b : Bool) → is_due s.left ≡ b
    → heard_before s (heard_of plan s) ≡ []
before_first plan s u link is true e = ap (λ (b : Bool). cond b [] (heard_of plan s)) e
before_first plan s u link is false e = cc (e, none_heard plan s s.left u.left s.next u.next refl (link.left e) is)

after_noticed : (p : Program) (s : State) (heard : List (List ℕ)) → is_noticed p.plan.notice (shown p s).left ≡ true
    → heard_after p s heard ≡ heard_before s heard ++ frame_bytes p s ∷ []
after_noticed p s heard e = ap (λ (b : Bool). cond b (heard_before s heard ++ frame_bytes p s ∷ [])
    (heard_before s heard)) e

heard_first : (p : Program) (ts : List Known) → IsCode p ts → (s : State) → Holds p ts s
    → is_first_noticed p.plan.notice (shown p s).left ≡ true → heard_of p.plan (after_frame p s) ≡ frame_bytes p s ∷ []
heard_first p ts code s h first =
    let u : State = shown p s in
    let some : 1 ≤ p.plan.notice = omega (arith, code.program.planned.notice_from) in
    sym (heard_frame p ts code s h) ∙ after_noticed p s _ (noticed_first _ _ some first) ∙ ap
    (λ xs. xs ++ frame_bytes p s ∷ []) (before_first _ s u (links p ts code s h) (begun_left _ _ first) _ refl)

heard_later : (p : Program) (ts : List Known) → IsCode p ts → (s : State) → Holds p ts s → is_due s.left ≡ false
    → is_noticed p.plan.notice (shown p s).left ≡ true
    → heard_of p.plan (after_frame p s) ≡ heard_of p.plan s ++ frame_bytes p s ∷ []
heard_later p ts code s h due on = cc (heard_frame p ts code s h, after_noticed p s (heard_of p.plan s) on, due)

-- ---- a notice

abbrev OfNotice : Plan → State → Raw → Type 0
OfNotice plan s x = SomeSaid (heard_of plan s) true x

pub record HearsNotice (p : Program) (s : State) (events : List Event) (l : Listening) : Type 0 where
  pub after : Listening
  pub hears : HearsAll (fibs_of p.plan.layout (run_frames p s events)) l after
  pub knows : KnowsAt p.plan (run p s events) Nothing (SomeSaid (heard_of p.plan (run p s events)) true) after

pub left_on : (plan : Plan) (count k : ℕ) (before left : Option ℕ) (n m : Configuration) → before ≡ Some k
    → LeftBy plan count before n left m → left ≡ Some k
left_on plan count k None left n m e g = absurd cc
left_on plan count k (Some j) left n m e g = g.0 ∙ e

some_left : (left : Option ℕ) (k : ℕ) → left ≡ Some k → is_due left ≡ false → 1 ≤ k
some_left left k is due = not_due k (sym (ap is_due is) ∙ due)

notice_on : Laws → (p : Program) (ts : List Known) → IsCode p ts → (s : State) (es : List Event) → Holds p ts s
    → (k : ℕ) → s.left ≡ Some k → k < p.plan.notice → BeginsNoPhase p s es → (l : Listening)
    → KnowsAt p.plan s Nothing (OfNotice p.plan s) l → HearsNotice p s es l
notice_on laws p ts code s [] h k is below phase l knows = record { after = l; hears = refl; knows = knows }
notice_on laws p ts code s (Contact d closed ∷ es) h k is below phase l knows =
    let t : State = happens p s (Contact d closed) in
    let same : heard_of p.plan s ≡ heard_of p.plan t = heard_run p ts code s (Contact d closed ∷ []) h in
    let here = subst (λ (xs : List (List ℕ)). KnowsAt p.plan s Nothing (λ x. SomeSaid xs true x) l) same knows in
    let rest = notice_on laws p ts code t es (happens_holds p ts code s (Contact d closed) h) k is below phase l here in
    record { after = rest.after; hears = rest.hears; knows = rest.knows }
notice_on laws p ts code s (Frame ∷ es) h k is below phase l knows =
    let u : State = shown p s in
    let t : State = after_frame p s in
    let plan : Plan = p.plan in
    let a = airs p ts code s h in
    let parts = or_parts (is_due s.left) (is_first_noticed plan.notice u.left) phase.0 in
    let link = links p ts code s h in
    let some : 1 ≤ k = some_left s.left k is parts.0 in
    let left : u.left ≡ Some k = left_on plan s.count k s.left u.left s.next u.next is (link.left parts.0) in
    let on = ap (is_noticed plan.notice) left ∙ noticed plan.notice k some (omega (arith, below)) in
    let N : Raw → Type 0 = OfNotice plan s in
    let M : Raw → Type 0 = Still plan u.left N in
    let heard = frame_heard laws plan u a Nothing M l (enters p ts code s h Nothing N l parts.0 knows) in
    let D : Raw → Type 0 = Or Nothing (RowSaid (shown_bytes plan u) false) in
    let O : Raw → Type 0 = Or M (RowSaid (shown_bytes plan u) true) in
    let had : (x : Raw) → OfNotice plan t x → O x =
    λ x said. elim (said_append (heard_of plan s) (frame_bytes p s ∷ []) true x
    (subst (λ (xs : List (List ℕ)). SomeSaid xs true x) (heard_later p ts code s h parts.0 on) said)) [
      | inl old ↦ inl (parts.1, old)
      | inr now ↦ inr (said_one (frame_bytes p s) true x now)
    ] in
    let here : KnowsAt plan t Nothing (OfNotice plan t) heard.after =
    knows_weaker plan _ _ _ _ D _ O _ _ (λ x none. absurd none) had (knows_after plan u D O _ a heard.knows) in
    let rest = notice_on laws p ts code t es (frame_holds p ts code s h) (k - 1) (ap left_after_frame left)
    (omega (arith, below)) phase.1 heard.after here in
    record {
      after = rest.after;
      hears = frame_then p s _ l _ _ heard.hears rest.hears;
      knows = rest.knows;
    }

notice_from : Laws → (p : Program) (ts : List Known) → IsCode p ts → (s : State) (es : List Event) → Holds p ts s
    → IsNotice p s es → (l : Listening) → IsTuning p.plan s l → HearsNotice p s es l
notice_from laws p ts code s [] h is l tunes = absurd is
notice_from laws p ts code s (Contact d closed ∷ es) h is l tunes =
    let rest = notice_from laws p ts code (happens p s (Contact d closed)) es
    (happens_holds p ts code s (Contact d closed) h) is l tunes in
    record { after = rest.after; hears = rest.hears; knows = rest.knows }
notice_from laws p ts code s (Frame ∷ es) h is l tunes =
    let u : State = shown p s in
    let t : State = after_frame p s in
    let plan : Plan = p.plan in
    let a = airs p ts code s h in
    let heard = frame_heard laws plan u a Nothing Nothing l (enters_tuning p ts code s h l tunes) in
    let D : Raw → Type 0 = Or Nothing (RowSaid (shown_bytes plan u) false) in
    let O : Raw → Type 0 = Or Nothing (RowSaid (shown_bytes plan u) true) in
    let one : heard_of plan t ≡ frame_bytes p s ∷ [] = heard_first p ts code s h is.0 in
    let had : (x : Raw) → OfNotice plan t x → O x = λ x said.
    inr (said_one (frame_bytes p s) true x (subst (λ (xs : List (List ℕ)). SomeSaid xs true x) one said)) in
    let here : KnowsAt plan t Nothing (OfNotice plan t) heard.after =
    knows_weaker plan _ _ _ _ D _ O _ _ (λ x none. absurd none) had (knows_after plan u D O _ a heard.knows) in
    let left : t.left ≡ Some (plan.notice - 1) = ap left_after_frame (begun_left plan.notice u.left is.0) in
    let rest = notice_on laws p ts code t es (frame_holds p ts code s h) (plan.notice - 1) left
    (omega (arith, code.program.planned.notice_from)) is.1 heard.after here in
    record {
      after = rest.after;
      hears = frame_then p s _ l _ _ heard.hears rest.hears;
      knows = rest.knows;
    }

due_after : (p : Program) (s : State) (es : List Event) → IsNotice p s es → is_due (run p s es).left ≡ true
due_after p s [] is = absurd is
due_after p s (Contact d closed ∷ es) is = due_after p (happens p s (Contact d closed)) es is
due_after p s (Frame ∷ es) is = is.2

-- the notice carried the whole next configuration
notice_whole : Laws → (p : Program) (ts : List Known) → IsCode p ts → (s : State) → Holds p ts s → is_due s.left ≡ true
    → HasAll s.next (SomeSaid (heard_of p.plan s) true)
notice_whole laws p ts code s h due e inside =
    let runs = swaps_run laws.pages p ts code s (Frame ∷ []) h in
    let told : IsAnnounced s.current s.next s.count (heard_of p.plan s) = runs.0.announced due in
    let first = whole_had s.next true told.first told.whole_in_first e inside in
    let both = said_front told.first told.second true (raw_entry e) first in
    let all = said_front (told.first ++ told.second) told.third true (raw_entry e) both in
    subst (λ (xs : List (List ℕ)). SomeSaid xs true (raw_entry e)) (sym told.cut) all

-- ---- from the swap on

pub record HearsAfter (p : Program) (s : State) (c : Configuration) (k : ℕ) (events : List Event) (C : Raw → Type 0)
    (l : Listening) : Type 0 where
  pub after : Listening
  pub hears : HearsAll (take k (fibs_of p.plan.layout (run_frames p s events))) l after
  pub current : IsPartial (whole_of c) C after.current

take_none : (k : ℕ) (fibs : List (List ℕ)) → fibs ≡ [] → take k fibs ≡ []
take_none zero fibs e = refl
take_none (suc k) fibs e = ap (take (suc k)) e

-- hearing some FIBs of this frame, or also later ones
frame_take : Laws → (p : Program) (ts : List Known) → IsCode p ts → (s : State) (es : List Event) → Holds p ts s
    → (c : Configuration) → (shown p s).current ≡ c → (C N : Raw → Type 0) (j : ℕ) (l : Listening)
    → InFrame p.plan (shown p s) C N (headed (ensemble_sent p.plan (shown p s)) l)
    → ((d : ℕ) (m : Listening) → KnowsAt p.plan (after_frame p s) (Or C (RowSaid (frame_bytes p s) false))
    (Or N (RowSaid (frame_bytes p s) true)) m
    → HearsAfter p (after_frame p s) c d es (Or C (RowSaid (frame_bytes p s) false)) m)
    → HearsAfter p s c (suc j) (Frame ∷ es) C l
frame_take laws p ts code s es h c same C N j l entered later =
    let u : State = shown p s in
    let plan : Plan = p.plan in
    let a = airs p ts code s h in
    let here : List (List ℕ) = fibs_in plan u in
    let more : List (List ℕ) = fibs_of plan.layout (run_frames p (after_frame p s) es) in
    let cut = fibs_more plan.layout (frame_bytes p s) (run_frames p (after_frame p s) es) in
    elim (split_le (suc j) (length here)) [
      | inl within ↦
          let some = some_heard laws plan u a C N j l entered in
          record {
            after = some.after;
            hears = as_fibs _ _ l _ (ap (take (suc j)) cut ∙ take-append-le (suc j) here more within) some.hears;
            current = subst (λ (x : Configuration). IsPartial (whole_of x) C some.after.current) same some.current;
          }
      | inr past ↦
          let D : Raw → Type 0 = Or C (RowSaid (frame_bytes p s) false) in
          let O : Raw → Type 0 = Or N (RowSaid (frame_bytes p s) true) in
          let heard = frame_heard laws plan u a C N l entered in
          let d : ℕ = suc j - length here in
          let count : suc j ≡ length here + d = omega (arith, past) in
          let rest = later d heard.after (knows_after plan u D O heard.after a heard.knows) in
          record {
            after = rest.after;
            hears = as_fibs (take (suc j) (fibs_of plan.layout (frame_bytes p s ∷ run_frames p (after_frame p s) es)))
                (here ++ take d more) l rest.after
                (ap (take (suc j)) cut ∙ ap (λ (n : ℕ). take n (here ++ more)) count ∙ take-append-add here more d)
                (hears_join here (take d more) l heard.after rest.after heard.hears rest.hears);
            current = weaker (whole_of c) D C rest.after.current (λ x y. inl y) rest.current;
          }
    ]

after_on : Laws → (p : Program) (ts : List Known) → IsCode p ts → (s : State) (es : List Event) → Holds p ts s
    → MakesNoSwap p s es → (c : Configuration) → s.current ≡ c → (C N : Raw → Type 0) (k : ℕ) (l : Listening)
    → KnowsAt p.plan s C N l → HearsAfter p s c k es C l
after_on laws p ts code s [] h none c same C N k l knows =
    let here = current_part p.plan s.left s.current s.next s.count C N l knows in
    record {
      after = l;
      hears = as_fibs (take k []) [] l l (take_none k [] refl) refl;
      current = subst (λ (x : Configuration). IsPartial (whole_of x) C l.current) same here;
    }
after_on laws p ts code s (Contact d closed ∷ es) h none c same C N k l knows =
    let rest = after_on laws p ts code (happens p s (Contact d closed)) es
    (happens_holds p ts code s (Contact d closed) h) none c same C N k l knows in
    record { after = rest.after; hears = rest.hears; current = rest.current }
after_on laws p ts code s (Frame ∷ es) h none c same C N zero l knows =
    record {
      after = l;
      hears = refl;
      current = subst (λ (x : Configuration). IsPartial (whole_of x) C l.current) same
          (current_part p.plan s.left s.current s.next s.count C N l knows);
    }
after_on laws p ts code s (Frame ∷ es) h none c same C N (suc j) l knows =
    let link = links p ts code s h in
    let M : Raw → Type 0 = Still p.plan (shown p s).left N in
    frame_take laws p ts code s es h c (link.current none.0 ∙ same) C M j l (enters p ts code s h C N l none.0 knows)
    (λ d m here. after_on laws p ts code (after_frame p s) es (frame_holds p ts code s h) none.1 c
    (link.current none.0 ∙ same) (Or C (RowSaid (frame_bytes p s) false)) (Or M (RowSaid (frame_bytes p s) true)) d
    m here)

after_swap : Laws → (p : Program) (ts : List Known) → IsCode p ts → (s : State) (es : List Event) → Holds p ts s
    → IsUntilNextSwap p s es → (C N : Raw → Type 0) (j : ℕ) (l : Listening) → KnowsAt p.plan s C N l
    → HearsAfter p s s.next (suc j) es N l
after_swap laws p ts code s [] h is C N j l knows = absurd is
after_swap laws p ts code s (Contact d closed ∷ es) h is C N j l knows =
    let rest = after_swap laws p ts code (happens p s (Contact d closed)) es
    (happens_holds p ts code s (Contact d closed) h) is C N j l knows in
    record { after = rest.after; hears = rest.hears; current = rest.current }
after_swap laws p ts code s (Frame ∷ es) h is C N j l knows =
    let current : (shown p s).current ≡ s.next = current_shown p ts code s h ∙ due_current s is.0 in
    frame_take laws p ts code s es h _ current N _ j l (enters_swap p ts code s h C N l is.0 knows)
    (λ d m here. after_on laws p ts code _ es (frame_holds p ts code s h) is.1 _ current _ _ d m here)

-- ---- the law

record IsFollowed (p : Program) (s : State) (after : List Event) (fibs : ℕ) (l : Listening) : Type 0 where
  heard : Listening
  hears : HearsAll (take fibs (fibs_of p.plan.layout (run_frames p s after))) l heard
  shows : Shows heard.current s.next

followed : Laws → (p : Program) (ts : List Known) → IsCode p ts → (s : State) → Holds p ts s → is_due s.left ≡ true
    → (after : List Event) → IsUntilNextSwap p s after → (fibs : ℕ) → 1 ≤ fibs → (l : Listening)
    → KnowsAt p.plan s Nothing (SomeSaid (heard_of p.plan s) true) l → IsFollowed p s after fibs l
followed laws p ts code s h due after until zero some l knows = absurd (omega (arith, some))
followed laws p ts code s h due after until (suc j) some l knows =
    let C : Raw → Type 0 = SomeSaid (heard_of p.plan s) true in
    let last = after_swap laws p ts code s after h until Nothing C j l knows in
    record {
      heard = last.after;
      hears = last.hears;
      shows = all_shown s.next C last.after.current last.current (notice_whole laws p ts code s h due);
    }

pub knows_the_new : OneList → Laws → (p : Program) (s : State) → IsPlayed p s → KnowsTheNew p s
knows_the_new one_list laws p s h waiting notice after fibs heard tuned is until some all =
    let ts : List Known = h.typed.0 in
    let code = code_of p s h in
    let here = played_holds p s h in
    let t : State = run p s waiting in
    let s2 : State = run p s (waiting ++ notice) in
    let joins : run p s (waiting ++ notice) ≡ run p t notice = state_joins p s waiting notice in
    let w = waits_run laws p ts code s waiting here in
    let v = notice_from laws p ts code t notice (run_holds p ts code s waiting here) is w.after
    (tuning p s waiting w tuned) in
    let knows : KnowsAt p.plan s2 Nothing (SomeSaid (heard_of p.plan s2) true) v.after = rw joins v.knows in
    let due : is_due s2.left ≡ true = ap (λ (x : State). is_due x.left) joins ∙ due_after p t notice is in
    let last = followed laws p ts code s2 (run_holds p ts code s (waiting ++ notice) here) due after until fibs some
    v.after knows in
    let before : List (List ℕ) = fibs_of p.plan.layout (run_frames p s (waiting ++ notice)) in
    let rest : List (List ℕ) = take fibs (fibs_of p.plan.layout (run_frames p s2 after)) in
    let first : HearsAll before untuned v.after =
    as_fibs before (fibs_of p.plan.layout (run_frames p s waiting) ++ fibs_of p.plan.layout (run_frames p t notice))
    untuned v.after (fibs_join p s waiting notice)
    (hears_join (fibs_of p.plan.layout (run_frames p s waiting)) (fibs_of p.plan.layout (run_frames p t notice)) untuned
    w.after v.after w.hears v.hears) in
    let mine = hears_join before rest untuned v.after last.heard first last.hears in
    let same : last.heard ≡ heard = hears_same one_list (before ++ rest) untuned last.heard heard mine all in
    subst (λ (l : Listening). Shows l.current s2.next) same last.shows
