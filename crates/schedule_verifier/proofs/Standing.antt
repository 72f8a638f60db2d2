-- A certified code between frames, and its next frame.
use Rattle.schedule_verifier.proofs.Words.{◌%◌, ◌+◌, ◌<◌, ◌≡◌, ◌≢◌, ◌||◌, Airing, Bool, Configuration, Contacts}
use Rattle.schedule_verifier.proofs.Words.{Ended, Executes, FrameIsAllowed, Hold, IfSome, IsAway, IsCertified}
use Rattle.schedule_verifier.proofs.Words.{IsProgram, IsTop, Jump, Keeps, Leads, Names, None, Option, PerformsFrame}
use Rattle.schedule_verifier.proofs.Words.{Program, Running, Some, State, TakesUp, Tree, WaitsAny, WaitsSwap}
use Rattle.schedule_verifier.proofs.Words.{after_burst}
use Rattle.schedule_verifier.proofs.Words.{after_counts, after_frame, after_swap, airing_of, ap, arith, cond}
use Rattle.schedule_verifier.proofs.Words.{any_closed, any_open, due, eq-eqb, eqb, false, hold_after_frame}
use Rattle.schedule_verifier.proofs.Words.{inl, inr, is_any_here, is_day, is_due, is_first_noticed}
use Rattle.schedule_verifier.proofs.Words.{is_running, left_after_frame, ready, refl, subst, suc, sym, true}
use Rattle.schedule_verifier.proofs.Words.{with_hold_ended, with_next_counts, with_swap, zero, ℕ}
use Rattle.plan_code.specs.declared.limits.TheConstants.{FRAMES_A_DAY}
use Rattle.plan_code.specs.Program.{IsDayFrame}
use Rattle.plan_runs.proofs.Between.{step_is}
use Rattle.schedule_verifier.proofs.Windows.{later_before}
use Rattle.schedule_verifier.proofs.Bursts.{Onward, IsIdle, IsWait, HoldsBy, Settles, moment_of, resting, rests_as}
use Rattle.schedule_verifier.proofs.Bursts.{stopped, before_it, burst_leads}

-- ---- between frames

-- a code is at a top, or it is suspended
abbrev pub StandsBy : Tree → Program → Hold → ℕ → Option ℕ → Configuration → Configuration → ℕ → Type 0
StandsBy s p Running pc left c n day = IsIdle left c n × IsTop p pc × Names p pc c
StandsBy s p (WaitsAny closed opened until frames) pc left c n day =
    IsWait s p closed opened until frames pc left c n day
StandsBy s p WaitsSwap pc left c n day = (left ≢ None) × Onward p pc n
StandsBy s p Ended pc left c n day =
    IsIdle left c n × ((contacts : Contacts) (later : ℕ) → later < FRAMES_A_DAY → due s contacts later ≡ c)
StandsBy s p _ pc left c n day = ⊥

pub record Stands (s : Tree) (p : Program) (u : State) : Type 0 where
  pub by_hold : StandsBy s p u.hold u.pc u.left u.current u.next u.day
  pub dated : u.day < FRAMES_A_DAY

-- ---- after a frame

still_pending : (left : Option ℕ) → left ≢ None → left_after_frame left ≢ None
still_pending None some e = some refl
still_pending (Some l) some e = cc

still_idle : (left : Option ℕ) (c n : Configuration) → IsIdle left c n → IsIdle (left_after_frame left) c n
still_idle left c n h = record { none = ap left_after_frame h.none; same = h.same }

keeps_on : (s : Tree) (c : Configuration) (closed opened : Contacts) (until : Option ℕ) (day : ℕ)
    → day < FRAMES_A_DAY → IfSome until IsDayFrame → until ≢ Some day → Keeps s c closed opened until day
    → Keeps s c closed opened until ((day + 1) % FRAMES_A_DAY)
keeps_on s c closed opened None day low within apart keeps contacts later here away before =
    keeps contacts later here away before
keeps_on s c closed opened (Some until) day low within apart keeps contacts later here away before =
    keeps contacts later here away (later_before until day later low within here (λ e. apart (ap Some e)) before)

next_day : (s : Tree) (p : Program) (hold : Hold) (pc : ℕ) (left : Option ℕ) (c n : Configuration) (day : ℕ)
    → day < FRAMES_A_DAY → HoldsBy s p hold pc left c n day
    → StandsBy s p (hold_after_frame hold) pc (left_after_frame left) c n ((day + 1) % FRAMES_A_DAY)
next_day s p (WaitsAny closed opened until frames) pc left c n day low (h, apart) = record {
  idle = still_idle left c n h.idle;
  endless = ap left_after_frame h.endless;
  within = h.within;
  keeps = keeps_on s c closed opened until day low h.within apart h.keeps;
  onward = h.onward;
}
next_day s p WaitsSwap pc left c n day low h = (still_pending left h.0, h.1)
next_day s p Ended pc left c n day low h = (still_idle left c n h.0, h.1)
next_day s p _ pc left c n day low h = absurd h

-- what is taken up leaves the day
taken_day : (s : Tree) (x y : Airing) → TakesUp s x y → y.day ≡ x.day
taken_day s x y (inl h) = ap (λ (z : Airing). z.day) h.1
taken_day s x y (inr (inl h)) = ap (λ (z : Airing). z.day) h.2
taken_day s x y (inr (inr h)) = ap (λ (z : Airing). z.day) h.2

-- the counts advance
pub record Closes (s : Tree) (p : Program) (t v : State) : Type 0 where
  pub airs : airing_of (with_next_counts p.plan v) ≡ after_counts (airing_of t)
  pub stands : Stands s p (with_next_counts p.plan v)

closes : (s : Tree) (p : Program) (x : Airing) (t : State) (b : Bool) → x.day < FRAMES_A_DAY → Settles s p x t
    → Closes s p t (cond b (let v : State = record t { page_index = 0 } in v) t)
closes s p x t true low h =
    let day : t.day ≡ x.day = taken_day s x (airing_of t) h.taken in
    record {
      airs = refl;
      stands = record {
        by_hold = next_day s p t.hold t.pc t.left t.current t.next t.day (omega (arith, day, low)) h.holds;
        dated = omega arith;
      };
    }
closes s p x t false low h =
    let day : t.day ≡ x.day = taken_day s x (airing_of t) h.taken in
    record {
      airs = refl;
      stands = record {
        by_hold = next_day s p t.hold t.pc t.left t.current t.next t.day (omega (arith, day, low)) h.holds;
        dated = omega arith;
      };
    }

-- ---- waits

neither : (a b : Bool) → (a || b) ≡ false → (a ≡ false) × (b ≡ false)
neither false b e = (refl, e)
neither true b e = absurd cc

not_this_day : (until : Option ℕ) (day : ℕ) → is_day day until ≡ false → until ≢ Some day
not_this_day None day away e = cc
not_this_day (Some t) day away e =
    let same : t ≡ day = cc e in
    let here : eqb day t ≡ true = eq-eqb day t (sym same) in
    absurd cc

-- ---- the instructions of a frame

module _ (s : Tree) (opening : Configuration) (p : Program) (pr : IsProgram p) (cert : IsCertified s opening p) where
  top_settles : (n : ℕ) (u t : State) → is_running u.hold ≡ true → IsIdle u.left u.current u.next
      → u.day < FRAMES_A_DAY → IsTop p u.pc → Names p u.pc u.current → Executes p u n t → Settles s p (resting u) t
  top_settles n u t runs idle low top names ex =
      let leads = cert.tops u.pc u.current top names u.contacts u.day low in
      burst_leads s p pr cert.header leads.0 n t u runs idle.none low
      (subst (λ (c : Configuration). Leads (moment_of s p u) leads.0 u.pc c) (sym idle.same) leads.1) ex

  jump_settles : (n : ℕ) (u t : State) → is_running u.hold ≡ true → IsIdle u.left u.current u.next
      → u.day < FRAMES_A_DAY → Onward p u.pc u.current → Executes p u n t → Settles s p (resting u) t
  jump_settles zero u t runs idle low on ex = let stops = ex.0 in absurd cc
  jump_settles (suc n) u t runs idle low on ex =
      top_settles n (let v : State = record u { pc = on.to } in v) t runs idle low on.top on.names
      (subst (λ (w : State). Executes p w n t) (step_is p u (Jump on.to) on.jumps) ex.2)

  -- nothing happens while what is on air is due
  rests_on : (n : ℕ) (u t : State) → is_running u.hold ≡ false → IsIdle u.left u.current u.next
      → due s u.contacts u.day ≡ u.current → HoldsBy s p u.hold u.pc u.left u.current u.next u.day
      → Executes p u n t → Settles s p (airing_of u) t
  rests_on n u t stops idle now holds ex =
      let all : Settles s p (airing_of u) u = record {
        taken = inr (inl (idle.none, now, refl));
        holds = holds;
      } in
      subst (λ (w : State). Settles s p (airing_of u) w) (stopped p n u t stops ex) all

  waits_on : (n : ℕ) (u t : State) (closed opened : Contacts) (until : Option ℕ)
      → IsWait s p closed opened until None u.pc u.left u.current u.next u.day → u.day < FRAMES_A_DAY
      → u.hold ≡ WaitsAny closed opened until None → is_any_here u closed opened until None ≡ false
      → Executes p u n t → Settles s p (airing_of u) t
  waits_on n u t closed opened until h low hold away ex =
      let first = neither (any_closed closed u.contacts) _ away in
      let second = neither (any_open opened u.contacts) _ first.1 in
      let third = neither (is_day u.day until) _ second.1 in
      let apart : until ≢ Some u.day = not_this_day until u.day third.0 in
      let is_away : IsAway closed opened u.contacts =
      record { closed_none = first.0; opened_none = second.0 } in
      rests_on n u t (ap is_running hold) h.idle
      (h.keeps u.contacts u.day low is_away (before_it until u.day h.within low apart))
      (subst (λ (x : Hold). HoldsBy s p x u.pc u.left u.current u.next u.day) (sym hold) (h, apart)) ex

  -- the wait is over, or not
  by_wait : (n : ℕ) (u t : State) (closed opened : Contacts) (until : Option ℕ)
      → IsWait s p closed opened until None u.pc u.left u.current u.next u.day → u.day < FRAMES_A_DAY
      → u.hold ≡ WaitsAny closed opened until None → (b : Bool) → is_any_here u closed opened until None ≡ b
      → Executes p (cond b (let v : State = record u { hold = Running } in v) u) n t → Settles s p (airing_of u) t
  by_wait n u t closed opened until h low hold true here ex =
      subst (λ (x : Airing). Settles s p x t) (sym (rests_as u h.idle.none h.idle.same))
      (jump_settles n (let v : State = record u { hold = Running } in v) t refl h.idle low h.onward ex)
  by_wait n u t closed opened until h low hold false away ex =
      waits_on n u t closed opened until h low hold away ex

  -- the swap is due, or not
  by_swap : (n l : ℕ) (u t : State) → Onward p u.pc u.next → u.day < FRAMES_A_DAY → (b : Bool)
      → Executes p
      (with_hold_ended (let v : State = record u { left = Some l; hold = WaitsSwap } in cond b (with_swap v) v))
      n t
      → Settles s p (let x : Airing = record (airing_of u) { left = Some l } in
      cond b (let y : Airing = record x { current = x.next; left = None } in y) x) t
  by_swap n l u t on low true ex =
      let v : State = record u { left = None; hold = Running; current = u.next; page_index = 0 } in
      jump_settles n v t refl (record { none = refl; same = refl }) low on ex
  by_swap n l u t on low false ex =
      let v : State = record u { left = Some l; hold = WaitsSwap } in
      let all : Settles s p (airing_of v) v = record {
        taken = inl (λ e. cc, refl);
        holds = (λ e. cc, on);
      } in
      subst (λ (w : State). Settles s p (airing_of v) w) (stopped p n v t refl ex) all

  frame_settles : (n : ℕ) (u t : State) (left : Option ℕ) (hold : Hold)
      → StandsBy s p hold u.pc left u.current u.next u.day → u.day < FRAMES_A_DAY
      → Executes p (ready (let v : State = record u { left = left; hold = hold } in v)) n t
      → Settles s p (after_swap (airing_of (let v : State = record u { left = left; hold = hold } in v))) t
  frame_settles n u t None Running h low ex =
      let v : State = record u { left = None; hold = Running } in
      subst (λ (x : Airing). Settles s p x t) (sym (rests_as v refl h.0.same))
      (top_settles n v t refl h.0 low h.1 h.2 ex)
  frame_settles n u t None (WaitsAny closed opened until None) h low ex =
      let v : State = record u { left = None; hold = WaitsAny closed opened until None } in
      by_wait n v t closed opened until h low refl (is_any_here v closed opened until None) refl ex
  frame_settles n u t None (WaitsAny closed opened until (Some k)) h low ex = let e = h.endless in absurd cc
  frame_settles n u t None WaitsSwap h low ex = absurd (h.0 refl)
  frame_settles n u t None Ended h low ex =
      let v : State = record u { left = None; hold = Ended } in
      rests_on n v t refl h.0 (h.1 u.contacts u.day low) h ex
  frame_settles n u t (Some l) Running h low ex = let e = h.0.none in absurd cc
  frame_settles n u t (Some l) (WaitsAny closed opened until frames) h low ex = let e = h.idle.none in absurd cc
  frame_settles n u t (Some l) WaitsSwap h low ex = by_swap n l u t h.1 low (is_due (Some l)) ex
  frame_settles n u t (Some l) Ended h low ex = let e = h.0.none in absurd cc
  frame_settles n u t left _ h low ex = absurd h

  -- ---- a frame

  pub record Passes (u : State) : Type 0 where
    pub performs : PerformsFrame s (airing_of u) (airing_of (after_frame p u))
    pub stands : Stands s p (after_frame p u)

  swap_day : (x : Airing) (b : Bool) → (cond b (let y : Airing = record x { current = x.next; left = None } in y) x).day
      ≡ x.day
  swap_day x true = refl
  swap_day x false = refl

  pub frame_passes : (u : State) → Stands s p u → FrameIsAllowed p u → Passes u
  frame_passes u h fine =
      let t : State = after_burst p u in
      let done = frame_settles fine.steps u t u.left u.hold h.by_hold h.dated fine.executes in
      let day = swap_day (airing_of u) (is_due u.left) in
      let closed = closes s p (after_swap (airing_of u)) t (is_first_noticed p.plan.notice t.left)
      (omega (arith, day, h.dated)) done in
      record { performs = (airing_of t, done.taken, closed.airs); stands = closed.stands }
