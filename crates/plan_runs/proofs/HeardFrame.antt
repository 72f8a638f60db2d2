-- A listener hearing one frame of a typed code.
use Rattle.plan_runs.proofs.Words.{◌%◌, ◌+◌, ◌∙◌, ◌∷◌, ◌≡◌, ◌≢◌, ◌⊎◌, Bool, EnsembleInformation, Entry, HearsAll}
use Rattle.plan_runs.proofs.Words.{HearsFib, IsHeardInRow, Known, List, Listening, None, Option, Plan, Program, Raw}
use Rattle.plan_runs.proofs.Words.{Some, State, after_burst, ap, arith, cond, count_step, ensemble_of, ensemble_sent}
use Rattle.plan_runs.proofs.Words.{false, fibs_from, frame_fibs, inl, inr, is_due, is_first_noticed, is_noticed}
use Rattle.plan_runs.proofs.Words.{layout_mode, marked, raw_entry, refl, shown, shown_bytes, subst, suc, sym, take}
use Rattle.plan_runs.proofs.Words.{true, untuned, with_due_swap, with_swap, zero, ℕ}
use Rattle.plan_runs.proofs.Passing.{ahead_from}
use Rattle.plan_runs.proofs.Tracked.{Airs, SwapsOn}
use Rattle.plan_runs.proofs.Between.{frame_goes}
use Rattle.plan_runs.proofs.Carries.{frame_carries}
use Rattle.plan_runs.proofs.Facts.{Holds, IsCode, airs}
use Rattle.plan_runs.proofs.Notice.{links}
use Rattle.plan_runs.proofs.Pictures.{whole_of, IsPartial, whole_is_set, weaker}
use Rattle.plan_runs.proofs.Hearing.{hear_marked, headed}
use Rattle.plan_runs.proofs.Tuned.{SaidIn, SaidInSome, Or, tuned_weaker, hears_entries, hears_fibs, passes_entries}
use Rattle.plan_runs.proofs.Tuned.{passes_fibs, some_say, some_sent}
use Rattle.plan_runs.proofs.Contents.{Laws, FrameSays, frame_says}
use Rattle.plan_runs.proofs.Knowing.{KnowsBy, Ready, InFrame, Still, ready_by, headed_ready, unheaded_ready}
use Rattle.plan_runs.proofs.Knowing.{headed_swap, headed_untuned}
use Rattle.plan_runs.proofs.Right.{is_sent, not_sent}
use Rattle.plan_runs.proofs.Announcing.{due_left}
use Rattle.plan_runs.proofs.Periods.{current_kept}

-- ---- FIG 0/0 is sent or not

pub zero_or_not : (n : ℕ) → (n ≡ 0) ⊎ (n ≢ 0)
zero_or_not zero = inl refl
zero_or_not (suc n) = inr (λ e. omega (arith, e))

-- ---- the rest of the frame after FIG 0/0

-- an entry under this C/N flag that is heard in the frame
abbrev pub RowSaid : List ℕ → Bool → Raw → Type 0
RowSaid frame flag x = (e : Entry) × (raw_entry e ≡ x) × IsHeardInRow frame (marked flag e)

abbrev pub fibs_in : Plan → State → List (List ℕ)
fibs_in plan u = fibs_from (frame_fibs plan.layout) 0 (shown_bytes plan u)

pub record HearsFrame (plan : Plan) (u : State) (C N : Raw → Type 0) (l : Listening) : Type 0 where
  pub after : Listening
  pub hears : HearsAll (fibs_in plan u) l after
  pub knows : InFrame plan u (Or C (RowSaid (shown_bytes plan u) false)) (Or N (RowSaid (shown_bytes plan u) true))
      after

row_heard : (plan : Plan) (u : State) → (says : FrameSays plan u) → (flag : Bool) (C : Raw → Type 0) (x : Raw)
    → Or C (RowSaid (shown_bytes plan u) flag) x
    → Or (Or C (SaidIn flag says.entries)) (SaidInSome flag says.more) x
row_heard plan u says flag C x (inl old) = inl (inl old)
row_heard plan u says flag C x (inr (e, is, row)) =
    elim (says.heard (marked flag e) row) [
      | inl here ↦ inl (inr (subst (λ (y : Raw). SaidIn flag says.entries y) is here))
      | inr there ↦ inr (subst (λ (y : Raw). SaidInSome flag says.more y) is there)
    ]

pub as_fibs : (xs ys : List (List ℕ)) (l after : Listening) → xs ≡ ys → HearsAll ys l after → HearsAll xs l after
as_fibs xs ys l after e h = subst (λ (fs : List (List ℕ)). HearsAll fs l after) (sym e) h

pub frame_heard : Laws → (plan : Plan) (u : State) → Airs plan u → (C N : Raw → Type 0) (l : Listening)
    → InFrame plan u C N (headed (ensemble_sent plan u) l) → HearsFrame plan u C N l
frame_heard laws plan u a C N l h =
    let says = frame_says laws plan u a in
    let on : Bool = is_noticed plan.notice u.left in
    let set_c = whole_is_set u.current a.current in
    let set_n = whole_is_set u.next a.next in
    let one = hears_entries on _ _ C N _ _ _ set_c set_n says.entries_sent h.knows in
    let rest = hears_fibs on _ _ _ _ _ _ _ _ set_c set_n says.later says.more_sent one.knows in
    let first : HearsFib says.first_fib_is l one.after =
    (says.first.figs, says.first.is_fib, says.first.hears l ∙ one.is) in
    let all : HearsAll (says.first_fib_is ∷ says.later_are) l rest.after = (one.after, first, rest.hears) in
    record {
      after = rest.after;
      hears = as_fibs (fibs_in plan u) (says.first_fib_is ∷ says.later_are) l rest.after says.fibs all;
      knows = record {
        awaited = h.awaited;
        knows =
            tuned_weaker on _ _ _ _ _ _ _ _ (row_heard plan u says false C) (row_heard plan u says true N) rest.knows;
        waits = h.waits;
        headless = h.headless;
      };
    }

-- hearing the first FIBs of the frame
pub record HearsSome (plan : Plan) (u : State) (C : Raw → Type 0) (k : ℕ) (l : Listening) : Type 0 where
  pub after : Listening
  pub hears : HearsAll (take (suc k) (fibs_in plan u)) l after
  pub current : IsPartial (whole_of u.current) C after.current

pub some_heard : Laws → (plan : Plan) (u : State) → Airs plan u → (C N : Raw → Type 0) (k : ℕ) (l : Listening)
    → InFrame plan u C N (headed (ensemble_sent plan u) l) → HearsSome plan u C k l
some_heard laws plan u a C N k l h =
    let says = frame_says laws plan u a in
    let on : Bool = is_noticed plan.notice u.left in
    let set_c = whole_is_set u.current a.current in
    let set_n = whole_is_set u.next a.next in
    let one = hears_entries on _ _ C N _ _ _ set_c set_n says.entries_sent h.knows in
    let rest = hears_fibs on _ _ _ _ _ _ _ _ set_c set_n (some_say k _ _ says.later)
    (some_sent on _ _ k _ says.more_sent) one.knows in
    let first : HearsFib says.first_fib_is l one.after =
    (says.first.figs, says.first.is_fib, says.first.hears l ∙ one.is) in
    record {
      after = rest.after;
      hears = as_fibs _ _ l _ (ap (take (suc k)) says.fibs) (one.after, first, rest.hears);
      current = weaker (whole_of u.current)
          (Or (Or C (SaidIn false says.entries)) (SaidInSome false (take k says.more))) C rest.after.current
          (λ x c. inl (inl c)) rest.knows.current;
    }

-- an untuned listener ignores a frame without FIG 0/0
pub frame_passed : Laws → (plan : Plan) (u : State) → Airs plan u → u.count % count_step (layout_mode plan.layout) ≢ 0
    → HearsAll (fibs_in plan u) untuned untuned
frame_passed laws plan u a apart =
    let says = frame_says laws plan u a in
    let on : Bool = is_noticed plan.notice u.left in
    let none : hear_marked says.entries (headed (ensemble_sent plan u) untuned) ≡ Some untuned =
    cc (not_sent plan u apart, passes_entries on u.current u.next says.entries says.entries_sent) in
    let first : HearsFib says.first_fib_is untuned untuned =
    (says.first.figs, says.first.is_fib, says.first.hears untuned ∙ none) in
    let all : HearsAll (says.first_fib_is ∷ says.later_are) untuned untuned =
    (untuned, first, passes_fibs on u.current u.next says.later_are says.more says.later says.more_sent) in
    as_fibs (fibs_in plan u) (says.first_fib_is ∷ says.later_are) untuned untuned says.fibs all

-- ---- FIG 0/0 of the frame, given the state before it

as_headed : (plan : Plan) (u : State) (C N : Raw → Type 0) (l : Listening) (o : Option EnsembleInformation)
    → ensemble_sent plan u ≡ o → InFrame plan u C N (headed o l) → InFrame plan u C N (headed (ensemble_sent plan u) l)
as_headed plan u C N l o e h = subst (λ (x : Option EnsembleInformation). InFrame plan u C N (headed x l)) (sym e) h

pub current_shown : (p : Program) (ts : List Known) → IsCode p ts → (s : State) → Holds p ts s
    → (shown p s).current ≡ (with_due_swap s).current
current_shown p ts c s h =
    let v : State = after_burst p s in
    let goes = frame_goes p ts c.program c.typing s h.between in
    let carried = frame_carries p c.program s goes.allowed.steps goes.allowed.executes in
    current_kept v (is_first_noticed p.plan.notice v.left) ∙ carried.current

-- no swap is due
pub enters : (p : Program) (ts : List Known) → IsCode p ts → (s : State) → Holds p ts s
    → (C N : Raw → Type 0) (l : Listening) → is_due s.left ≡ false
    → KnowsBy p.plan s.left s.current s.next s.count C N l
    → InFrame p.plan (shown p s) C (Still p.plan (shown p s).left N) (headed (ensemble_sent p.plan (shown p s)) l)
enters p ts c s h C N l due knows =
    let u : State = shown p s in
    let plan : Plan = p.plan in
    let M : Raw → Type 0 = Still plan u.left N in
    let a = airs p ts c s h in
    let link = links p ts c s h in
    let there : Ready plan u.left s.current u.next s.count C M l =
    ready_by plan _ _ _ _ _ _ C N l (ahead_from _ due) a.ahead (link.left due) knows in
    let here : Ready plan u.left u.current u.next u.count C M l = rw (link.current due) (rw link.count there) in
    elim (zero_or_not (u.count % count_step (layout_mode plan.layout))) [
      | inl whole ↦ as_headed plan u C M l (Some (ensemble_of plan u)) (is_sent plan u whole)
          (headed_ready plan u C M l a (omega (arith, c.program.planned.notice_to)) here)
      | inr apart ↦ as_headed plan u C M l None (not_sent plan u apart) (unheaded_ready plan u C M l apart here)
    ]

pub due_current : (s : State) → is_due s.left ≡ true → (with_due_swap s).current ≡ s.next
due_current s e = ap (λ (b : Bool). (cond b (with_swap s) s).current) e

-- the swap is due
pub enters_swap : (p : Program) (ts : List Known) → IsCode p ts → (s : State) → Holds p ts s
    → (C N : Raw → Type 0) (l : Listening) → is_due s.left ≡ true → KnowsBy p.plan s.left s.current s.next s.count C N l
    → InFrame p.plan (shown p s) N (λ x. ⊥) (headed (ensemble_sent p.plan (shown p s)) l)
enters_swap p ts c s h C N l due knows =
    let u : State = shown p s in
    let plan : Plan = p.plan in
    let a = airs p ts c s h in
    let link = links p ts c s h in
    let is = due_left s.left due in
    let step = subst (λ (o : Option ℕ). SwapsOn plan s.count o) is h.tracked.swaps in
    let none : u.count ≡ s.count + 0 = link.count ∙ (let same : s.count ≡ s.count + 0 = omega arith in same) in
    let whole = ap (λ (k : ℕ). k % count_step (layout_mode plan.layout)) none ∙ step in
    let current : u.current ≡ s.next = current_shown p ts c s h ∙ due_current s due in
    as_headed plan u N (λ x. ⊥) l (Some (ensemble_of plan u)) (is_sent plan u whole)
    (headed_swap plan u s.current s.next s.count C N l a (omega (arith, c.program.planned.notice_from)) h.tracked.count
    link.count current (subst (λ (o : Option ℕ). KnowsBy plan o s.current s.next s.count C N l) is knows))

-- the first FIG 0/0 that is heard
pub enters_untuned : (p : Program) (ts : List Known) → IsCode p ts → (s : State) → Holds p ts s
    → s.count % count_step (layout_mode p.plan.layout) ≡ 0
    → InFrame p.plan (shown p s) (λ x. ⊥) (λ x. ⊥) (headed (ensemble_sent p.plan (shown p s)) untuned)
enters_untuned p ts c s h whole =
    let u : State = shown p s in
    let plan : Plan = p.plan in
    let here = ap (λ (k : ℕ). k % count_step (layout_mode plan.layout)) (links p ts c s h).count ∙ whole in
    as_headed plan u (λ x. ⊥) (λ x. ⊥) _ _ (is_sent plan u here) (headed_untuned plan u (airs p ts c s h))
