-- A plan that takes over leads to the swap, and hands over to the plan in its frame.
use Rattle.takeover_laws.proofs.Words.{[], ◌+◌, ◌-◌, ◌<◌, ◌==◌, ◌∙◌, ◌∷◌, ◌≡◌, Act, AllByRecursion, BeginsWith, Bool}
use Rattle.takeover_laws.proofs.Words.{Configuration, Contacts, Frame, HandsOver, IsConfiguration, IsProgram, IsStart}
use Rattle.takeover_laws.proofs.Words.{IsTakeover, Label, List, None, Option, Plan, PlansTakeOver, Program, Running}
use Rattle.takeover_laws.proofs.Words.{Some, Start, StartIsInRange, State, Transform, ap, arith, beginning, burst}
use Rattle.takeover_laws.proofs.Words.{cond, edits_between, find, hold_after_swap, inl, is_due, is_first_noticed}
use Rattle.takeover_laws.proofs.Words.{label_at, lead, length-map, map, moved_line, plan_acts, ready, refl, replicate}
use Rattle.takeover_laws.proofs.Words.{run, run_frames, shown_bytes, slice_get, start_in, subst, suc, sym, true}
use Rattle.takeover_laws.proofs.Words.{with_hold_ended, with_next_counts, with_swap, zero, ℕ}
use Rattle.takeover_laws.proofs.Leading.{Follows, IsJoined, IsOnWay, IsPacing, Leads, Way, follows, joined_where_due}
use Rattle.takeover_laws.proofs.Leading.{line_of, paced_leads, run_on, still_on_air}
use Rattle.takeover_laws.proofs.Moving.{IsFurther, alike, further, is_further}
use Rattle.takeover_laws.proofs.Ranges.{run_in_range}

-- ---- the plan alone, begun in the frame of the swap

-- its state at the start
abbrev begun_in : Configuration → State → State
begun_in to s =
    record {
      current = to;
      next = to;
      left = None;
      pc = 0;
      hold = Running;
      counters = replicate 8 0;
      contacts = s.contacts;
      count = s.count;
      day = s.day;
      eid = s.eid;
      page_index = 0;
    }

is_start : (old : Program) (to : Configuration) (s : State) → BeginsWith old to
    → IsStart old (start_in s) (begun_in to s)
is_start old to s b = record {
  label = b.label;
  first = b.first;
  current = b.there;
  next = refl;
  left = refl;
  pc = refl;
  hold = refl;
  counters = refl;
  contacts = refl;
  count = refl;
  day = refl;
  eid = refl;
  page_index = refl;
}

-- ---- the swap

swapped : (by : ℕ) (to : Configuration) (w : Way) (s : State) → w.by ≡ by → w.to ≡ to
    → IsJoined w s.pc s.current s.next s.hold s.counters → with_swap s ≡ further by (begun_in to s)
swapped by to w s b t j =
    let place : s.pc ≡ 0 + by = omega (arith, j.at, b) in
    λ i. record s {
      current = (j.next ∙ t) i;
      next = (j.next ∙ t) i;
      left = None;
      pc = place i;
      hold = (ap hold_after_swap j.hold) i;
      counters = j.counters i;
      page_index = 0;
    }

handed : (by : ℕ) (to : Configuration) (w : Way) (s : State) → w.by ≡ by → w.to ≡ to → is_due s.left ≡ true
    → IsJoined w s.pc s.current s.next s.hold s.counters → ready s ≡ further by (begun_in to s)
handed by to w s b t due j =
    ap (λ (d : Bool). with_hold_ended (cond d (with_swap s) s)) due ∙ ap with_hold_ended (swapped by to w s b t j)

-- ---- from its frame on

-- what a frame makes of the state in which its instructions are executed
abbrev sent_from : Program → State → State
sent_from p r =
    let t : State = burst p.plan.budget p r in
    let first : State = record t { page_index = 0 } in cond (is_first_noticed p.plan.notice t.left) first t

pub hands_over : (by : ℕ) (old new : Program) (to : Configuration) (s : State) → IsFurther by old new
    → BeginsWith old to → StartIsInRange (start_in s) → ready s ≡ further by (begun_in to s) → HandsOver by old new to s
hands_over by old new to s further_on b ranged is =
    let begun : State = begun_in to s in
    let u : State = further by begun in
    record {
      begun = begun;
      in_range = ranged;
      starts = is_start old to s b;
      opens = refl;
      made = is;
      onward = λ more.
          let both = alike by old new further_on begun u (Frame ∷ more) refl in
          record {
            bytes =
                ap (λ (r : State). shown_bytes new.plan (sent_from new r)
                ∷ run_frames new (with_next_counts new.plan (sent_from new r)) more) is
                ∙ both.bytes;
            states = ap (λ (r : State). run new (with_next_counts new.plan (sent_from new r)) more) is ∙ both.states;
          };
    }

-- ---- the start

one_of_all : {T : Type 0} (P : T → Type 0) (xs : List T) (i : ℕ) (x : T) → AllByRecursion P xs
    → slice_get xs i ≡ Some x → P x
one_of_all P [] i x h e = absurd cc
one_of_all P (y ∷ ys) zero x h e = subst P (cc e) h.0
one_of_all P (y ∷ ys) (suc i) x h e = one_of_all P ys i x h.1 e

pub same_some : {T : Type 0} (o : Option T) (x y : T) → o ≡ Some x → o ≡ Some y → x ≡ y
same_some o x y e f = cc (sym e ∙ f)

-- what is on air when the code begins
opens_on_air : (line : ℕ) (old new : Program) (from to : Configuration) (start : Start) (first : State)
    → IsTakeover line old from to new → IsStart new start first → first.current ≡ from
opens_on_air line old new from to start first h s =
    let label : s.label ≡ beginning h.index h.cost =
    same_some (label_at new 0) s.label (beginning h.index h.cost) s.first
    (ap (λ (ls : List Label). find (λ l. l.pc == 0) ls) h.labels) in
    same_some (slice_get new.configurations h.index) first.current from
    (sym (ap (λ (l : Label). slice_get new.configurations l.cur) label) ∙ s.current) h.begins

abbrev pub way : (line : ℕ) (old : Program) (from to : Configuration) (new : Program) → Way
way line old from to new = record { code = new; by = lead old line from to; from = from; to = to }

-- its acts are those between the configurations, from the first instruction on
pub record SetsOut (line : ℕ) (old new : Program) (from to : Configuration) (first : State) : Type 0 where
  pub follows : Follows new (lead old line from to) first.pc (plan_acts old.plan from to)
  pub leads : Leads new.plan.notice to (plan_acts old.plan from to) first.next
  pub on_air : first.current ≡ from

pub sets_out : (line : ℕ) (old new : Program) (from to : Configuration) (start : Start) (first : State)
    → Transform (edits_between from to) from to → IsTakeover line old from to new → IsStart new start first
    → SetsOut line old new from to first
sets_out line old new from to start first made h s =
    let plan : Plan = old.plan in
    let acts : List Act = plan_acts plan from to in
    let by : ℕ = lead old line from to in
    let on_air = opens_on_air line old new from to start first h s in
    let next : from ≡ first.next = sym (s.next ∙ on_air) in
    let leads = paced_leads plan (plan.budget - 1) 1 (edits_between from to) from to made.arrive in
    let size = length-map acts (line_of line) in
    record {
      follows = follows line new by first.pc [] (map (moved_line by) old.lines)
          acts h.lines s.pc (omega (arith, size, s.pc));
      leads = subst (λ (p : Plan). Leads p.notice to acts first.next) (sym h.plan)
          (subst (Leads plan.notice to acts) next leads);
      on_air = on_air;
    }

is_on_way : (line : ℕ) (old new : Program) (from to : Configuration) (start : Start) (first : State)
    → IsStart new start first → SetsOut line old new from to first → IsOnWay 1 (way line old from to new) first
is_on_way line old new from to start first s o =
    inl (record {
      acts = plan_acts old.plan from to;
      follows = o.follows;
      leads = o.leads;
      current = o.on_air;
      left = s.left;
      hold = subst IsPacing (sym s.hold) tt;
      counters = s.counters;
    })

-- the edits between two configurations of codes make the second one of the first
pub made_between : ((from to : Configuration) → IsConfiguration from → IsConfiguration to
    → Transform (edits_between from to) from to)
    → (line : ℕ) (old new : Program) (from to : Configuration) → IsProgram old → IsProgram new → BeginsWith old to
    → IsTakeover line old from to new
    → Transform (edits_between from to) from to
made_between between line old new from to is_old is_new b h =
    between from to
    (one_of_all IsConfiguration new.configurations h.index from is_new.configurations_formed h.begins)
    (one_of_all IsConfiguration old.configurations b.label.cur to is_old.configurations_formed b.there)

pub plans_take_over : ((from to : Configuration) → IsConfiguration from → IsConfiguration to
    → Transform (edits_between from to) from to) → PlansTakeOver
plans_take_over between line old new from to is_old is_new b h start first events ranged s within none =
    let made = made_between between line old new from to is_old is_new b h in
    let by : ℕ = lead old line from to in
    let w : Way = way line old from to new in
    let now : State = run new first events in
    let least = is_new.planned.notice_from in
    let on_way = run_on w first events is_new.planned.budget_from (omega (arith, least)) none
    (is_on_way line old new from to start first s (sets_out line old new from to start first made h s)) in
    let at_first : StartIsInRange (start_in first) = record {
      eid = subst (λ (n : ℕ). n < 65536) (sym s.eid) ranged.eid;
      count = subst (λ (n : ℕ). n < 5000) (sym s.count) ranged.count;
      day = subst (λ (n : ℕ). n < 3600000) (sym s.day) ranged.day;
      contacts = subst (λ (c : Contacts). c.0 < 65536) (sym s.contacts) ranged.contacts;
    } in
    record {
      until_then = still_on_air w now on_way;
      from_then = λ due. hands_over by old new to now (is_further line old new from to h) b
          (run_in_range new first events within at_first)
          (handed by to w now refl refl due (joined_where_due w now on_way due));
    }
