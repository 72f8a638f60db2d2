-- The frames before that of the first swap of a plan that takes over.
use Rattle.takeover_laws.proofs.Words.{[], ◌%◌, ◌*◌, ◌++◌, ◌+◌, ◌-◌, ◌/◌, ◌<◌, ◌==◌, ◌∙◌, ◌∷◌, ◌≡◌, ◌≤◌, ◌⊎◌, Act}
use Rattle.takeover_laws.proofs.Words.{Bool, CommitIn, Configuration, Contact, Edit, Edits, Event, FitFrames, Frame}
use Rattle.takeover_laws.proofs.Words.{Hold, Instr, IsConfiguration, Join, Joins, List, MakesNoSwap, Option, Plan}
use Rattle.takeover_laws.proofs.Words.{PlansTakeOverInTime, Program, Running, Some, State, Transform, Wait, Waits}
use Rattle.takeover_laws.proofs.Words.{WaitsSwap, after_burst, after_frame, ap, append_assoc, arith, burst, cases_lt}
use Rattle.takeover_laws.proofs.Words.{changed, commit, committed, cond, count_step, edits_between, effect, eqb-true}
use Rattle.takeover_laws.proofs.Words.{false, false≢true, frame_count, happens, hold_after_frame, if◌then◌else◌, inl}
use Rattle.takeover_laws.proofs.Words.{inr, instr_at, is_due, is_first_noticed, is_here, is_running, layout_mode}
use Rattle.takeover_laws.proofs.Words.{le-div_iff_mul-le, left_after_frame, left_in, length, mod-eq_of_lt, mod-le}
use Rattle.takeover_laws.proofs.Words.{most_before, paced, pause_after, plan_acts, ready, refl, shown, step, subst}
use Rattle.takeover_laws.proofs.Words.{suc, suc-mod, suc-mul, suspend, sym, true, with_hold_ended, with_next_counts}
use Rattle.takeover_laws.proofs.Words.{with_swap, zero, ℕ}
use Rattle.std.proofs.Math.Numerals.{suc-eq-add-one}
use Rattle.script_config.proofs.Pacing.{plan_fits}
use Rattle.takeover_laws.proofs.Handing.{made_between, sets_out, way}
use Rattle.takeover_laws.proofs.Leading.{Follows, Leads, Way, either_way, stepped}

-- ---- how many frames the edits fill

abbrev waits_in : List Act → ℕ
waits_in [] = 0
waits_in (Wait n ∷ acts) = suc (waits_in acts)
waits_in (_ ∷ acts) = waits_in acts

one_on : (full n : ℕ) → (n + 1) % full ≤ n % full + 1
one_on full n =
    let same : (n + 1) % full ≡ suc (n % full) % full =
    ap (λ (k : ℕ). k % full) (sym (suc-eq-add-one n)) ∙ suc-mod n full in
    let least = mod-le (suc (n % full)) full in
    omega (arith, same, least)

full_then : (full n : ℕ) → 0 < full → (n + 1) % full ≡ 0 → full ≤ n % full + 1
full_then full n some none =
    let same : (n + 1) % full ≡ suc (n % full) % full =
    ap (λ (k : ℕ). k % full) (sym (suc-eq-add-one n)) ∙ suc-mod n full in
    elim (cases_lt (suc (n % full)) full) [
      | inl less ↦ let more = mod-eq_of_lt less in absurd (omega (arith, same, more, none))
      | inr most ↦ omega (arith, most)
    ]

paused_waits : (full n : ℕ) (acts : List Act) (size : ℕ) (b : Bool) → 0 < full → ((n + 1) % full == 0) ≡ b
    → waits_in acts * full ≤ (n + 1) % full + size
    → waits_in ((if b then Wait 1 ∷ [] else []) ++ acts) * full ≤ n % full + (size + 1)
paused_waits full n acts size true some e h =
    let none : (n + 1) % full ≡ 0 = eqb-true ((n + 1) % full) 0 e in
    let filled = full_then full n some none in
    let more = suc-mul (waits_in acts) full in
    omega (arith, h, none, filled, more)
paused_waits full n acts size false some e h = let more = one_on full n in omega (arith, h, more)

waits_paced : (header : Plan) (full n : ℕ) (es : List Edit) → 0 < full
    → waits_in (paced full (n + 1) es ++ committed header) * full ≤ n % full + length es
waits_paced header full n [] some = omega arith
waits_paced header full n (e ∷ es) some =
    let rest = waits_paced header full (n + 1) es some in
    let acts : List Act = paced full ((n + 1) + 1) es ++ committed header in
    let size : length es + 1 ≡ length (e ∷ es) = omega arith in
    subst (λ (k : ℕ). waits_in (paced full (n + 1) (e ∷ es) ++ committed header) * full ≤ n % full + k) size
    (subst (λ (xs : List Act). waits_in xs * full ≤ n % full + (length es + 1))
    (sym (append_assoc (pause_after full (n + 1)) (paced full ((n + 1) + 1) es) (committed header)))
    (paused_waits full n acts (length es) ((n + 1) % full == 0) some refl rest))

few_waits : (header : Plan) (full : ℕ) (es : List Edit) → 0 < full
    → waits_in (paced full 1 es ++ committed header) ≤ length es / full
few_waits header full es some =
    let all = waits_paced header full 0 es some in
    let none : 0 % full ≡ 0 = mod-eq_of_lt some in
    (le-div_iff_mul-le some).1 (omega (arith, all, none))

-- ---- where the machine is, with at most so many frames before that of the swap

-- the notice and the frames up to the next count on which a swap can fall
abbrev latest : Plan → ℕ
latest plan = plan.notice + (count_step (layout_mode plan.layout) - 1)

-- instructions are executed in the next frame
abbrev IsReady : Hold → Type 0
IsReady Running = Unit {0}
IsReady (Waits n) = n ≡ 0
IsReady _ = ⊥

record Paces (w : Way) (most pc : ℕ) (coming : Configuration) (wait : Hold) : Type 0 where
  pub acts : List Act
  pub follows : Follows w.code w.by pc acts
  pub leads : Leads w.code.plan.notice w.to acts coming
  pub fits : FitFrames w.code.plan.budget w.code.plan.budget acts
  pub enough : waits_in acts + latest w.code.plan ≤ most
  pub ready : IsReady wait

record Awaits (most : ℕ) (swap : Option ℕ) (wait : Hold) : Type 0 where
  pub frames : ℕ
  pub left : swap ≡ Some frames
  pub few : frames ≤ most
  pub hold : wait ≡ WaitsSwap

abbrev Nears : Way → ℕ → State → Type 0
Nears w most s = Paces w most s.pc s.next s.hold ⊎ Awaits most s.left s.hold

-- the same after the instructions of a frame
record Pauses (w : Way) (most pc : ℕ) (coming : Configuration) (wait : Hold) : Type 0 where
  pub acts : List Act
  pub follows : Follows w.code w.by pc acts
  pub leads : Leads w.code.plan.notice w.to acts coming
  pub fits : FitFrames w.code.plan.budget w.code.plan.budget acts
  pub enough : waits_in acts + 1 + latest w.code.plan ≤ most
  pub hold : wait ≡ Waits 1

abbrev Ends : Way → ℕ → State → Type 0
Ends w most s = Pauses w most s.pc s.next s.hold ⊎ Awaits most s.left s.hold

-- ---- the instructions of a frame

burst_stops : (p : Program) (most : ℕ) (s : State) → is_running s.hold ≡ false → burst most p s ≡ s
burst_stops p zero s stops = refl
burst_stops p (suc most) s stops = ap (λ (b : Bool). cond b (burst most p (step p s)) s) stops

burst_goes : (p : Program) (most : ℕ) (s : State) (i : Instr) → s.hold ≡ Running → instr_at p s.pc ≡ Some i
    → burst (suc most) p s ≡ burst most p (effect p.plan i s)
burst_goes p most s i runs at =
    ap (λ (h : Hold). cond (is_running h) (burst most p (step p s)) s) runs ∙ ap (burst most p) (stepped p s i at)

joins : (w : Way) (most frames fuel : ℕ) (s : State) → s.hold ≡ Running → s.left ≡ Some frames → frames ≤ most
    → instr_at w.code s.pc ≡ Some Joins → 1 ≤ fuel → Ends w most (burst fuel w.code s)
joins w most frames zero s runs some few at one = absurd (omega (arith, one))
joins w most frames (suc fuel) s runs some few at one =
    let u : State = suspend WaitsSwap s in
    subst (Ends w most) (sym (burst_goes w.code fuel s Joins runs at ∙ burst_stops w.code fuel u refl))
    (inr (record { frames = frames; left = some; few = few; hold = refl }))

no_more : (a b c : ℕ) → a + (b - c) ≤ a + b
no_more a b c = omega arith

burst_ends : (w : Way) (most fuel : ℕ) (s : State) (acts : List Act) → s.hold ≡ Running
    → Follows w.code w.by s.pc acts → Leads w.code.plan.notice w.to acts s.next
    → FitFrames w.code.plan.budget fuel acts → waits_in acts + latest w.code.plan ≤ most
    → Ends w most (burst fuel w.code s)
burst_ends w most fuel s [] runs f l fit enough = absurd l
burst_ends w most zero s (a ∷ acts) runs f l fit enough = absurd (omega (arith, fit.0))
burst_ends w most (suc fuel) s (Edits e ∷ acts) runs f l fit enough =
    let one : suc fuel - 1 ≡ fuel = omega arith in
    let u : State = record s { next = changed e s.next; pc = s.pc + 1 } in
    subst (Ends w most) (sym (burst_goes w.code fuel s _ runs f.0))
    (burst_ends w most fuel u acts runs f.1 l
    (subst (λ (k : ℕ). FitFrames w.code.plan.budget k acts) one fit.1) enough)
burst_ends w most (suc fuel) s (Wait n ∷ acts) runs f l fit enough =
    let u : State = suspend (Waits n) s in
    subst (Ends w most) (sym (burst_goes w.code fuel s _ runs f.0 ∙ burst_stops w.code fuel u refl))
    (inl (record {
      acts = acts;
      follows = f.1;
      leads = l.1;
      fits = fit.1;
      enough = omega (arith, enough);
      hold = ap (λ (k : ℕ). Waits k) l.0;
    }))
burst_ends w most (suc fuel) s (CommitIn k ∷ acts) runs f l fit enough =
    let one : suc fuel - 1 ≡ fuel = omega arith in
    let g : Follows w.code w.by (s.pc + 1) (Join ∷ []) = subst (Follows w.code w.by (s.pc + 1)) l.2 f.1 in
    let room : FitFrames w.code.plan.budget (suc fuel - 1) (Join ∷ []) =
    subst (FitFrames w.code.plan.budget (suc fuel - 1)) l.2 fit.1 in
    let apart : ℕ = count_step (layout_mode w.code.plan.layout) in
    let frames : ℕ = left_in apart s.count k in
    let latest_is = no_more k (apart - 1) ((s.count + k + (apart - 1)) % apart) in
    let few : frames ≤ most = omega (arith, latest_is, enough, l.0) in
    subst (Ends w most) (sym (burst_goes w.code fuel s _ runs f.0))
    (joins w most frames fuel (commit frames s) runs refl few g.0 (omega (arith, room.0, one)))
burst_ends w most (suc fuel) s (_ ∷ acts) runs f l fit enough = absurd l

-- ---- a frame without a swap

here_now : (s : State) (hold : Hold) → IsReady hold → is_here s hold ≡ true
here_now s Running h = refl
here_now s (Waits n) h = ap (λ (k : ℕ). k == 0) h
here_now s _ h = absurd h

some_left : (n : ℕ) → is_due (Some n) ≡ false → 1 ≤ n
some_left zero waits = absurd (false≢true (sym waits))
some_left (suc n) waits = omega arith

frame_ends : (w : Way) (most : ℕ) (s : State) → is_due s.left ≡ false → Nears w most s
    → Ends w most (after_burst w.code s)
frame_ends w most s waits (inl h) =
    let run : State = record s { hold = Running } in
    let begun : ready s ≡ run =
    ap (λ (b : Bool). with_hold_ended (cond b (with_swap s) s)) waits
    ∙ ap (λ (b : Bool). cond b run s) (here_now s s.hold h.ready) in
    subst (λ (r : State). Ends w most (burst w.code.plan.budget w.code r)) (sym begun)
    (burst_ends w most w.code.plan.budget run h.acts refl h.follows h.leads h.fits h.enough)
frame_ends w most s waits (inr a) =
    let run : State = record s { hold = Running } in
    let begun : ready s ≡ s =
    ap (λ (b : Bool). with_hold_ended (cond b (with_swap s) s)) waits
    ∙ ap (λ (h : Hold). cond (is_here s h) run s) a.hold in
    let stops : is_running s.hold ≡ false = ap is_running a.hold in
    subst (λ (r : State). Ends w most (burst w.code.plan.budget w.code r)) (sym begun)
    (subst (Ends w most) (sym (burst_stops w.code w.code.plan.budget s stops)) (inr a))

counts_on : (w : Way) (most : ℕ) (plan : Plan) (s : State) → Ends w most s
    → Nears w (most - 1) (with_next_counts plan s)
counts_on w most plan s (inl h) =
    inl (record {
      acts = h.acts;
      follows = h.follows;
      leads = h.leads;
      fits = h.fits;
      enough = let enough = h.enough in omega (arith, enough);
      ready = subst IsReady (sym (ap hold_after_frame h.hold)) refl;
    })
counts_on w most plan s (inr a) =
    inr (record {
      frames = a.frames - 1;
      left = ap left_after_frame a.left;
      few = let few = a.few in omega (arith, few);
      hold = ap hold_after_frame a.hold;
    })

frame_nears : (w : Way) (most : ℕ) (s : State) → is_due s.left ≡ false → Nears w most s
    → Nears w (most - 1) (after_frame w.code s)
frame_nears w most s waits h =
    let end : State = after_burst w.code s in
    let ended : Ends w most end = frame_ends w most s waits h in
    counts_on w most w.code.plan (shown w.code s)
    (either_way (Ends w most) (is_first_noticed w.code.plan.notice end.left)
    (let first : State = record end { page_index = 0 } in first) end (λ first. ended) ended)

not_yet : (w : Way) (most : ℕ) (s : State) → 1 ≤ w.code.plan.notice → is_due s.left ≡ false → Nears w most s → 1 ≤ most
not_yet w most s one waits (inl h) = let enough = h.enough in omega (arith, enough, one)
not_yet w most s one waits (inr a) =
    let some = some_left a.frames (sym (ap is_due a.left) ∙ waits) in
    let few = a.few in
    omega (arith, some, few)

-- ---- a run without a swap

run_nears : (w : Way) (most : ℕ) (s : State) (events : List Event) → 1 ≤ w.code.plan.notice
    → MakesNoSwap w.code s events → Nears w most s → frame_count events ≤ most
run_nears w most s [] one none h = omega arith
run_nears w most s (Contact c closed ∷ es) one none h =
    run_nears w most (happens w.code s (Contact c closed)) es one none h
run_nears w most s (Frame ∷ es) one none h =
    let some = not_yet w most s one none.0 h in
    let rest = run_nears w (most - 1) (after_frame w.code s) es one none.1 (frame_nears w most s none.0 h) in
    omega (arith, some, rest)

pub plans_take_over_in_time : ((from to : Configuration) → IsConfiguration from → IsConfiguration to
    → Transform (edits_between from to) from to) → PlansTakeOverInTime
plans_take_over_in_time between line old new from to is_old is_new b h two start first events s none =
    let plan : Plan = old.plan in
    let made = made_between between line old new from to is_old is_new b h in
    let out = sets_out line old new from to start first made h s in
    let w : Way = way line old from to new in
    let acts : List Act = plan_acts plan from to in
    let waits = few_waits plan (plan.budget - 1) (edits_between from to) (omega (arith, two)) in
    let least = is_new.planned.notice_from in
    let nears : Nears w (most_before plan from to) first =
    inl (record {
      acts = acts;
      follows = out.follows;
      leads = out.leads;
      fits = subst (λ (p : Plan). FitFrames p.budget p.budget acts) (sym h.plan) (plan_fits plan from to two);
      enough = subst (λ (p : Plan). waits_in acts + latest p ≤ most_before plan from to) (sym h.plan)
          (omega (arith, waits));
      ready = subst IsReady (sym s.hold) tt;
    }) in
    run_nears w (most_before plan from to) first events (omega (arith, least)) none nears
