-- What a listener knows between two frames, before and after FIG 0/0.
use Rattle.plan_runs.proofs.Words.{◌%◌, ◌+◌, ◌-◌, ◌<◌, ◌==◌, ◌||◌, ◌∙◌, ◌≡◌, ◌≢◌, ◌≤◌, Bool, Configuration}
use Rattle.plan_runs.proofs.Words.{EnsembleInformation, I, IsEnsembleInformation, Listening, Mode, None, Option}
use Rattle.plan_runs.proofs.Words.{Pictured, Plan, Raw, Some, State, ap, arith, at_ensemble, awaiting, blank, cond}
use Rattle.plan_runs.proofs.Words.{count_step, ensemble_of, eq-eqb, false, inl, inr, is_first_noticed, is_made}
use Rattle.plan_runs.proofs.Words.{is_noticed, is_some, layout_mode, left_after_frame, low_of_swap, ne_eqb, or_right}
use Rattle.plan_runs.proofs.Words.{refl, subst, swapped, sym, true, untuned, ℕ}
use Rattle.plan_runs.proofs.Knowledge.{IsAhead}
use Rattle.plan_runs.proofs.Tracked.{Airs, noticed, not_noticed, noticed_from, split_le}
use Rattle.plan_runs.proofs.Carries.{IsNewly, LeftBy}
use Rattle.plan_runs.proofs.Right.{ensemble_right, ensemble_within}
use Rattle.plan_runs.proofs.Announcing.{noticed_information}
use Rattle.plan_runs.proofs.Pictures.{whole_of, IsPartial, weaker, empty_is_partial}
use Rattle.plan_runs.proofs.Tuned.{NextBy, Tuned, tuned_weaker}
use Rattle.plan_runs.proofs.Counted.{swap_not_now, swap_now, next_low}
use Rattle.plan_runs.proofs.Parts.{clash}

-- with k frames left until the swap: the low part of its count is awaited, or the notice has sent no FIG 0/0 so far
abbrev pub Waits : Plan → ℕ → ℕ → Option ℕ → Type 0
Waits plan k count None = plan.notice - k ≤ (count + (count_step (layout_mode plan.layout) - 1))
    % count_step (layout_mode plan.layout)
Waits plan k count (Some low) = low ≡ (count + k) % 5000 % 250

-- before a frame
pub record KnowsNotice (plan : Plan) (k : ℕ) (c n : Configuration) (count : ℕ) (C N : Raw → Type 0)
    (l : Listening) : Type 0 where
  pub awaited : Option ℕ
  pub knows : Tuned true c n C N awaited l
  pub waits : Waits plan k count awaited

pub record KnowsPending (plan : Plan) (k : ℕ) (c n : Configuration) (count : ℕ) (C N : Raw → Type 0)
    (l : Listening) : Type 0 where
  pub outside : plan.notice ≤ k → Tuned false c n C N None l
  pub inside : k < plan.notice → KnowsNotice plan k c n count C N l

abbrev pub KnowsBy : Plan → Option ℕ → Configuration → Configuration → ℕ → (Raw → Type 0) → (Raw → Type 0) → Listening
    → Type 0
KnowsBy plan None c n count C N l = Tuned false c n C N None l
KnowsBy plan (Some k) c n count C N l = KnowsPending plan k c n count C N l

-- ---- in a frame, before FIG 0/0 and after it

pub record WaitsPending (plan : Plan) (k : ℕ) (count : ℕ) (awaited : Option ℕ) : Type 0 where
  pub outside : plan.notice < k → awaited ≡ None
  pub inside : k ≤ plan.notice → Waits plan k count awaited

abbrev pub WaitsBy : Plan → Option ℕ → ℕ → Option ℕ → Type 0
WaitsBy plan None count awaited = awaited ≡ None
WaitsBy plan (Some k) count awaited = WaitsPending plan k count awaited

pub record Ready (plan : Plan) (left : Option ℕ) (c n : Configuration) (count : ℕ) (C N : Raw → Type 0)
    (l : Listening) : Type 0 where
  pub awaited : Option ℕ
  pub knows : Tuned (is_noticed plan.notice left) c n C N awaited l
  pub waits : WaitsBy plan left count awaited

-- FIG 0/0, if it is sent, has been heard
pub record InFrame (plan : Plan) (u : State) (C N : Raw → Type 0) (l : Listening) : Type 0 where
  pub awaited : Option ℕ
  pub knows : Tuned (is_noticed plan.notice u.left) u.current u.next C N awaited l
  pub waits : WaitsBy plan u.left u.count awaited
  pub headless : is_noticed plan.notice u.left ≡ true → awaited ≡ None
      → u.count % count_step (layout_mode plan.layout) ≢ 0

-- ---- from before the frame to the state that its bytes are made from

retuned : (c n m : Configuration) (C N M : Raw → Type 0) (awaited : Option ℕ) (l : Listening)
    → Tuned false c n C N awaited l → Tuned false c m C M awaited l
retuned c n m C N M awaited l h =
    record { is_tuned = h.is_tuned; current = h.current; next = h.next; awaits = h.awaits }

-- a notice begins
begun : (c n m : Configuration) (C N M : Raw → Type 0) (awaited : Option ℕ) (l : Listening) → ((x : Raw) → M x → ⊥)
    → Tuned false c n C N awaited l → Tuned true c m C M awaited l
begun c n m C N M awaited l none h =
    let empty = weaker (whole_of m) (λ x. ⊥) M blank none (empty_is_partial (whole_of m)) in
    record {
      is_tuned = h.is_tuned;
      current = h.current;
      next = subst (λ (p : Pictured). IsPartial (whole_of m) M p) (sym h.next) empty;
      awaits = h.awaits;
    }

-- what is known of the next picture if a notice continues
abbrev pub Still : Plan → Option ℕ → (Raw → Type 0) → Raw → Type 0
Still plan left N x = (is_first_noticed plan.notice left ≡ false) × N x

none_still : (plan : Plan) (k : ℕ) (N : Raw → Type 0) (x : Raw) → k ≡ plan.notice → Still plan (Some k) N x → ⊥
none_still plan k N x same h =
    let yes : (k == plan.notice) ≡ true = eq-eqb k plan.notice same in
    absurd cc

as_noticed : (a b : Bool) (c n : Configuration) (C N : Raw → Type 0) (awaited : Option ℕ) (l : Listening) → a ≡ b
    → Tuned b c n C N awaited l → Tuned a c n C N awaited l
as_noticed a b c n C N awaited l e h = subst (λ (x : Bool). Tuned x c n C N awaited l) (sym e) h

ready_early : (plan : Plan) (k : ℕ) (c n m : Configuration) (count : ℕ) (C N : Raw → Type 0) (l : Listening)
    → plan.notice ≤ k → 1 ≤ k → Tuned false c n C N None l
    → Ready plan (Some k) c m count C (Still plan (Some k) N) l
ready_early plan k c n m count C N l late some h =
    elim (split_le k plan.notice) [
      | inl within ↦
          let same : k ≡ plan.notice = omega (arith, within, late) in
          record {
            awaited = None;
            knows = as_noticed _ true c m C _ None l (noticed plan.notice k some within)
                (begun c n m C N (Still plan (Some k) N) None l (λ x. none_still plan k N x same) h);
            waits = record { outside = λ past. refl; inside = λ inside. omega (arith, same) };
          }
      | inr past ↦
          record {
            awaited = None;
            knows = as_noticed _ false c m C _ None l (not_noticed plan.notice k past) (retuned c n m C N _ None l h);
            waits = record { outside = λ past. refl; inside = λ inside. absurd (omega (arith, past, inside)) };
          }
    ]

ready_newly : (plan : Plan) (left : Option ℕ) (c n m : Configuration) (count : ℕ) (C N : Raw → Type 0) (l : Listening)
    → IsAhead left → IsNewly plan count left → Tuned false c n C N None l
    → Ready plan left c m count C (Still plan left N) l
ready_newly plan None c n m count C N l ahead new h =
    record { awaited = None; knows = retuned c n m C N (Still plan None N) None l h; waits = refl }
ready_newly plan (Some k) c n m count C N l ahead new h = ready_early plan k c n m count C N l new.0 ahead h

ready_pending : (plan : Plan) (k : ℕ) (c n : Configuration) (count : ℕ) (C N : Raw → Type 0) (l : Listening) → 1 ≤ k
    → KnowsPending plan k c n count C N l
    → Ready plan (Some k) c n count C (Still plan (Some k) N) l
ready_pending plan k c n count C N l some h =
    elim (split_le plan.notice k) [
      | inl late ↦ ready_early plan k c n n count C N l late some (h.outside late)
      | inr below ↦
          let at = h.inside below in
          record {
            awaited = at.awaited;
            knows = as_noticed _ true c n C _ _ l (noticed plan.notice k some (omega (arith, below)))
                (tuned_weaker true c n C C N _ _ l (λ x y. y) (λ x y. y.1) at.knows);
            waits = record { outside = λ past. absurd (omega (arith, past, below)); inside = λ inside. at.waits };
          }
    ]

-- no swap is due
pub ready_by : (plan : Plan) (before left : Option ℕ) (c n m : Configuration) (count : ℕ) (C N : Raw → Type 0)
    (l : Listening) → IsAhead before → IsAhead left → LeftBy plan count before n left m
    → KnowsBy plan before c n count C N l → Ready plan left c m count C (Still plan left N) l
ready_by plan None left c n m count C N l ahead later g h = ready_newly plan left c n m count C N l later g h
ready_by plan (Some k) left c n m count C N l ahead later g h =
    let there = ready_pending plan k c n count C N l ahead h in
    rw g.0 (rw g.1 there)

-- ---- FIG 0/0

heard_plain : (e : EnsembleInformation) (l : Listening) → is_made l.awaited e ≡ false
    → at_ensemble e l ≡ awaiting e (record { tuned = true; current = l.current; next = l.next; awaited = l.awaited })
heard_plain e l made = ap (λ (b : Bool). let r : Listening = cond b (swapped l) l in
    awaiting e (record { tuned = true; current = r.current; next = r.next; awaited = r.awaited })) made

heard_swap : (e : EnsembleInformation) (l : Listening) → is_made l.awaited e ≡ true
    → at_ensemble e l ≡ awaiting e (record { tuned = true; current = l.next; next = blank; awaited = None })
heard_swap e l made = ap (λ (b : Bool). let r : Listening = cond b (swapped l) l in
    awaiting e (record { tuned = true; current = r.current; next = r.next; awaited = r.awaited })) made

awaits_new : (e : EnsembleInformation) (l : Listening) → (e.change == 0) ≡ false
    → awaiting e l ≡ record { tuned = l.tuned; current = l.current; next = l.next; awaited = e.occurrence }
awaits_new e l some = ap (λ (b : Bool). cond b l (let r : Listening =
    record { tuned = l.tuned; current = l.current; next = l.next; awaited = e.occurrence } in r)) some

awaits_same : (e : EnsembleInformation) (l : Listening) → (e.change == 0) ≡ true → awaiting e l ≡ l
awaits_same e l none = ap (λ (b : Bool). cond b l (let r : Listening =
    record { tuned = l.tuned; current = l.current; next = l.next; awaited = e.occurrence } in r)) none

some_change : (e : EnsembleInformation) (low : ℕ) → IsEnsembleInformation e → e.occurrence ≡ Some low
    → (e.change == 0) ≡ false
some_change e low h is =
    ne_eqb e.change 0 (λ none. omega (arith, h.flagged.0 (ap is_some is), none))

no_change : (e : EnsembleInformation) → e.change ≡ 0 → (e.change == 0) ≡ true
no_change e none = eq-eqb e.change 0 none

-- the low part of the swap's count is awaited
waits_low : (plan : Plan) (left : Option ℕ) (count : ℕ) → is_noticed plan.notice left ≡ true
    → WaitsBy plan left count (Some (low_of_swap count left))
waits_low plan None count e = absurd cc
waits_low plan (Some k) count e =
    record { outside = λ past. absurd (omega (arith, past, (noticed_from plan.notice k e).1)); inside = λ inside. refl }

-- nothing is awaited outside a notice
waits_none : (plan : Plan) (left : Option ℕ) (count : ℕ) → IsAhead left → is_noticed plan.notice left ≡ false
    → WaitsBy plan left count None
waits_none plan None count ahead e = refl
waits_none plan (Some k) count ahead e = record {
  outside = λ past. refl;
  inside = λ inside. clash (is_noticed plan.notice (Some k)) (noticed plan.notice k ahead inside) e;
}

pub none_awaited : (plan : Plan) (left : Option ℕ) (count : ℕ) (awaited : Option ℕ) → IsAhead left
    → is_noticed plan.notice left ≡ false → WaitsBy plan left count awaited → awaited ≡ None
none_awaited plan None count awaited ahead e w = w
none_awaited plan (Some k) count awaited ahead e w =
    elim (split_le k plan.notice) [
      | inl within ↦ clash (is_noticed plan.notice (Some k)) (noticed plan.notice k ahead within) e
      | inr past ↦ w.outside past
    ]

-- a tuned listener with these pictures, after the change flags of FIG 0/0
settled_by : (plan : Plan) (u : State) → Airs plan u → (C N : Raw → Type 0) (pc pn : Pictured) (a : Option ℕ)
    → IsPartial (whole_of u.current) C pc → NextBy (is_noticed plan.notice u.left) u.next N pn
    → (is_noticed plan.notice u.left ≡ false → a ≡ None) → (b : Bool) → is_noticed plan.notice u.left ≡ b
    → InFrame plan u C N (awaiting (ensemble_of plan u) (record { tuned = true; current = pc; next = pn; awaited = a }))
settled_by plan u airs C N pc pn a is_part next none true e =
    let info = noticed_information plan u e in
    let low : ℕ = low_of_swap u.count u.left in
    let base : Listening = record { tuned = true; current = pc; next = pn; awaited = a } in
    let with_low : Option ℕ → Listening = λ o. record { tuned = true; current = pc; next = pn; awaited = o } in
    let heard : awaiting (ensemble_of plan u) base ≡ with_low (Some low) =
    awaits_new (ensemble_of plan u) base
    (some_change (ensemble_of plan u) low (ensemble_within plan u airs) info.occurrence)
    ∙ ap with_low info.occurrence in
    let after : InFrame plan u C N (with_low (Some low)) =
    record {
      awaited = Some low;
      knows = record { is_tuned = refl; current = is_part; next = next; awaits = refl };
      waits = waits_low plan u.left u.count e;
      headless = λ on nothing. absurd cc;
    } in
    subst (λ (l : Listening). InFrame plan u C N l) (sym heard) after
settled_by plan u airs C N pc pn a is_part next none false e =
    let base : Listening = record { tuned = true; current = pc; next = pn; awaited = a } in
    let with_low : Option ℕ → Listening = λ o. record { tuned = true; current = pc; next = pn; awaited = o } in
    let heard : awaiting (ensemble_of plan u) base ≡ with_low None =
    awaits_same (ensemble_of plan u) base (no_change (ensemble_of plan u) ((ensemble_right plan u).unflagged e).0)
    ∙ ap with_low (none e) in
    let after : InFrame plan u C N (with_low None) =
    record {
      awaited = None;
      knows = record { is_tuned = refl; current = is_part; next = next; awaits = refl };
      waits = waits_none plan u.left u.count airs.ahead e;
      headless = λ on nothing. clash (is_noticed plan.notice u.left) on e;
    } in
    subst (λ (l : Listening). InFrame plan u C N l) (sym heard) after

settled : (plan : Plan) (u : State) → Airs plan u → (C N : Raw → Type 0) (pc pn : Pictured) (a : Option ℕ)
    → IsPartial (whole_of u.current) C pc → NextBy (is_noticed plan.notice u.left) u.next N pn
    → (is_noticed plan.notice u.left ≡ false → a ≡ None)
    → InFrame plan u C N (awaiting (ensemble_of plan u) (record { tuned = true; current = pc; next = pn; awaited = a }))
settled plan u airs C N pc pn a is_part next none = settled_by plan u airs C N pc pn a is_part next none _ refl

-- ---- no swap is assumed in a frame that makes none

not_made_by : (plan : Plan) (u : State) → Airs plan u → plan.notice ≤ 248 → (a left : Option ℕ) → u.left ≡ left
    → IsAhead left → WaitsBy plan left u.count a → is_made a (ensemble_of plan u) ≡ false
not_made_by plan u airs short None left is ahead w = refl
not_made_by plan u airs short (Some low) None is ahead w = absurd cc
not_made_by plan u airs short (Some low) (Some k) is ahead w =
    let e : EnsembleInformation = ensemble_of plan u in
    elim (split_le k plan.notice) [
      | inl within ↦
          let info = noticed_information plan u (ap (is_noticed plan.notice) is ∙ noticed plan.notice k ahead within) in
          let change = some_change e (low_of_swap u.count u.left) (ensemble_within plan u airs) info.occurrence in
          let now : low ≡ (u.count + k) % 5000 % 250 = w.inside within in
          ap (λ (b : Bool). b || (e.count % 250 == low)) change
          ∙ ap (λ (n : ℕ). n % 250 == low) (ensemble_right plan u).count
          ∙ ne_eqb (u.count % 250) low (swap_not_now u.count low k airs.count ahead (omega (arith, within, short)) now)
      | inr past ↦
          let none : Some low ≡ None = w.outside past in
          absurd cc
    ]

pub headed_ready : (plan : Plan) (u : State) (C N : Raw → Type 0) (l : Listening) → Airs plan u → plan.notice ≤ 248
    → Ready plan u.left u.current u.next u.count C N l → InFrame plan u C N (at_ensemble (ensemble_of plan u) l)
headed_ready plan u C N l airs short h =
    let e : EnsembleInformation = ensemble_of plan u in
    let made : is_made l.awaited e ≡ false = ap (λ (o : Option ℕ). is_made o e) h.knows.awaits
    ∙ not_made_by plan u airs short h.awaited u.left refl airs.ahead h.waits in
    subst (λ (x : Listening). InFrame plan u C N x) (sym (heard_plain e l made))
    (settled plan u airs C N l.current l.next l.awaited h.knows.current h.knows.next
    (λ off. h.knows.awaits ∙ none_awaited plan u.left u.count h.awaited airs.ahead off h.waits))

pub unheaded_ready : (plan : Plan) (u : State) (C N : Raw → Type 0) (l : Listening)
    → u.count % count_step (layout_mode plan.layout) ≢ 0 → Ready plan u.left u.current u.next u.count C N l
    → InFrame plan u C N l
unheaded_ready plan u C N l apart h =
    record { awaited = h.awaited; knows = h.knows; waits = h.waits; headless = λ on none. apart }

-- ---- the swap

pub long_notice : (m : Mode) (notice count : ℕ) → 12 ≤ notice
    → notice - 0 ≤ (count + (count_step m - 1)) % count_step m → ⊥
long_notice I notice count long h = omega (arith, long, h)
long_notice _ notice count long h = omega (arith, long, h)

made_by : (plan : Plan) (u : State) (count : ℕ) (a : Option ℕ) → 12 ≤ plan.notice → count < 5000 → u.count ≡ count
    → Waits plan 0 count a → is_made a (ensemble_of plan u) ≡ true
made_by plan u count None long below same w = absurd (long_notice (layout_mode plan.layout) plan.notice count long w)
made_by plan u count (Some low) long below same w =
    let e : EnsembleInformation = ensemble_of plan u in
    let count_is : e.count ≡ count = (ensemble_right plan u).count ∙ same in
    or_right (e.change == 0) (e.count % 250 == low) (ap (λ (n : ℕ). n % 250 == low) count_is
    ∙ eq-eqb (count % 250) low (swap_now count low below w))

next_blank : (noticed : Bool) (n : Configuration) → NextBy noticed n (λ x. ⊥) blank
next_blank true n = empty_is_partial (whole_of n)
next_blank false n = refl

pub headed_swap : (plan : Plan) (u : State) (c n : Configuration) (count : ℕ) (C N : Raw → Type 0) (l : Listening)
    → Airs plan u → 12 ≤ plan.notice → count < 5000 → u.count ≡ count → u.current ≡ n
    → KnowsPending plan 0 c n count C N l → InFrame plan u N (λ x. ⊥) (at_ensemble (ensemble_of plan u) l)
headed_swap plan u c n count C N l airs long below same current h =
    let e : EnsembleInformation = ensemble_of plan u in
    let at = h.inside (omega (arith, long)) in
    let made : is_made l.awaited e ≡ true = ap (λ (o : Option ℕ). is_made o e) at.knows.awaits
    ∙ made_by plan u count at.awaited long below same at.waits in
    let is_part = subst (λ (x : Configuration). IsPartial (whole_of x) N l.next) (sym current) at.knows.next in
    subst (λ (x : Listening). InFrame plan u N (λ x. ⊥) x) (sym (heard_swap e l made))
    (settled plan u airs N (λ x. ⊥) l.next blank None is_part (next_blank _ _) (λ off. refl))

-- the first FIG 0/0 that is heard
pub headed_untuned : (plan : Plan) (u : State) → Airs plan u
    → InFrame plan u (λ x. ⊥) (λ x. ⊥) (at_ensemble (ensemble_of plan u) untuned)
headed_untuned plan u airs =
    subst (λ (x : Listening). InFrame plan u (λ x. ⊥) (λ x. ⊥) x) (sym (heard_plain (ensemble_of plan u) untuned refl))
    (settled plan u airs (λ x. ⊥) (λ x. ⊥) blank blank None (empty_is_partial (whole_of u.current))
    (next_blank (is_noticed plan.notice u.left) u.next) (λ off. refl))

-- ---- after the frame

waits_on : (m : Mode) (notice k count : ℕ) → 1 ≤ k → k ≤ notice → count % count_step m ≢ 0
    → notice - k ≤ (count + (count_step m - 1)) % count_step m
    → notice - (k - 1) ≤ ((count + 1) % 5000 + (count_step m - 1)) % count_step m
waits_on I notice k count some within apart h = omega (arith, some, within, apart, h)
waits_on _ notice k count some within apart h = omega (arith, some, within, apart, h)

waits_later : (plan : Plan) (k count : ℕ) (a : Option ℕ) → 1 ≤ k → k ≤ plan.notice
    → (a ≡ None → count % count_step (layout_mode plan.layout) ≢ 0) → Waits plan k count a
    → Waits plan (k - 1) ((count + 1) % 5000) a
waits_later plan k count None some within headless w =
    waits_on (layout_mode plan.layout) plan.notice k count some within (headless refl) w
waits_later plan k count (Some low) some within headless w = next_low count low k some w

as_awaited : (noticed : Bool) (c n : Configuration) (C N : Raw → Type 0) (a b : Option ℕ) (l : Listening) → a ≡ b
    → Tuned noticed c n C N a l → Tuned noticed c n C N b l
as_awaited noticed c n C N a b l e h = subst (λ (o : Option ℕ). Tuned noticed c n C N o l) e h

after_by : (plan : Plan) (left : Option ℕ) (c n : Configuration) (count : ℕ) (C N : Raw → Type 0) (a : Option ℕ)
    (l : Listening) → IsAhead left → Tuned (is_noticed plan.notice left) c n C N a l → WaitsBy plan left count a
    → (is_noticed plan.notice left ≡ true → a ≡ None → count % count_step (layout_mode plan.layout) ≢ 0)
    → KnowsBy plan (left_after_frame left) c n ((count + 1) % 5000) C N l
after_by plan None c n count C N a l ahead h w headless = as_awaited false c n C N a None l w h
after_by plan (Some k) c n count C N a l ahead h w headless = record {
  outside = λ late.
      let past : plan.notice < k = omega (arith, late, ahead) in
      as_awaited false c n C N a None l (w.outside past)
      (as_noticed false (is_noticed plan.notice (Some k)) c n C N a l (sym (not_noticed plan.notice k past)) h);
  inside = λ below.
      let within : k ≤ plan.notice = omega (arith, below, ahead) in
      let on = noticed plan.notice k ahead within in
      record {
        awaited = a;
        knows = as_noticed true (is_noticed plan.notice (Some k)) c n C N a l (sym on) h;
        waits = waits_later plan k count a ahead within (headless on) (w.inside within);
      };
}

pub knows_after : (plan : Plan) (u : State) (C N : Raw → Type 0) (l : Listening) → Airs plan u → InFrame plan u C N l
    → KnowsBy plan (left_after_frame u.left) u.current u.next ((u.count + 1) % 5000) C N l
knows_after plan u C N l airs h =
    after_by plan u.left u.current u.next u.count C N h.awaited l airs.ahead h.knows h.waits h.headless
