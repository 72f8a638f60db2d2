-- If a block is judged, each of its instructions is fine, and each path continues to a point that it fits.
use Rattle.script_compiler.proofs.Words.{[], ◌++◌, ◌+◌, ◌<◌, ◌∙◌, ◌∷◌, ◌≡◌, ◌≤◌, ◌⊎◌, Act, Block, Bool, BranchesAgree}
use Rattle.script_compiler.proofs.Words.{Condition, End, FitsEntry, FitsFlow, FitsSwap, Flow, Idle, Instr, IsFine}
use Rattle.script_compiler.proofs.Words.{IsJudged, Jump, Known, List, Loop, None, Option, Perhaps, PlacedInstr, Plan}
use Rattle.script_compiler.proofs.Words.{ProgramPoint, Reached, Set, Some, Swap, WaysAgree, Within, after_instr}
use Rattle.script_compiler.proofs.Words.{all_places, alone, ap, apply, arith, at_label, basic, continues}
use Rattle.script_compiler.proofs.Words.{counters_change_alone, either, falls_out, false, first_counters, forever, head}
use Rattle.script_compiler.proofs.Words.{if◌then◌else◌, inl, inr, instr_of_act, is_set, is_some, join, known_at}
use Rattle.script_compiler.proofs.Words.{known_with, length, length-append, meet, merged, nested, nothing, onward}
use Rattle.script_compiler.proofs.Words.{placed_instr, places, point_after, refl, repeat, same_Some, set_after}
use Rattle.script_compiler.proofs.Words.{slice_get, stop, subst, suc, sym, target_of, test_of, true, when}
use Rattle.script_compiler.proofs.Words.{without_counter, without_label, ℕ}
use Rattle.plan_code.specs.declared.flags.Counters.{Counters}
use Rattle.plan_verifier.proofs.Finding.{commit_fine}
use Rattle.script_front.specs.declared.tree.Act.TheVariants.{Edit as Edits, Wait as Waits, WaitContact as WaitsContact}
use Rattle.script_front.specs.declared.tree.Act.TheVariants.{Until as WaitsUntil, WaitAny as WaitsAny}
use Rattle.script_front.specs.declared.tree.Act.TheVariants.{CommitIn as CommitsIn, CommitAt as CommitsAt}
use Rattle.script_front.specs.declared.tree.Act.TheVariants.{Join as Joins, Settle as Settles}
use Rattle.script_front.specs.declared.tree.Condition.TheVariants.{Contact as IfContact, Time as IfTime}
use Rattle.script_compiler.proofs.Places.{after_falls, Stand, stand_front, stand_back, stand_all}

pub falls_from : (plan : Plan) (b : Block) (s u : ProgramPoint) → point_after plan b s ≡ Some u → falls_out b ≡ true
falls_from plan b s u e = sym (after_falls plan b s) ∙ ap (λ w. is_some w) e

-- ---- a state that fits another

swap_same : (p : Swap) (t : Known) → FitsSwap p p t t
swap_same Idle t = (refl, refl)
swap_same (Within lo hi) t = ((refl, refl), omega arith, omega arith)
swap_same (Perhaps hi) t = ((refl, refl), omega arith)

swap_trans : (p q r : Swap) (a b c : Known) → FitsSwap p q a b → FitsSwap q r b c → FitsSwap p r a c
swap_trans Idle Idle Idle a b c h k = (h.0 ∙ k.0, h.1 ∙ k.1)
swap_trans Idle Idle (Within lo hi) a b c h k = absurd k
swap_trans Idle Idle (Perhaps hi) a b c h k = (h.0 ∙ k.0, h.1 ∙ k.1)
swap_trans Idle (Within lo hi) r a b c h k = absurd h
swap_trans Idle (Perhaps hi) Idle a b c h k = absurd k
swap_trans Idle (Perhaps hi) (Within lo hi') a b c h k = absurd k
swap_trans Idle (Perhaps hi) (Perhaps hi') a b c h k = (h.0 ∙ k.0.1, h.1 ∙ k.0.1)
swap_trans (Within lo hi) Idle r a b c h k = absurd h
swap_trans (Within lo hi) (Within l2 h2) Idle a b c h k = absurd k
swap_trans (Within lo hi) (Within l2 h2) (Within l3 h3) a b c h k =
    ((h.0.0 ∙ k.0.0, h.0.1 ∙ k.0.1), omega (arith, h.1, k.1), omega (arith, h.2, k.2))
swap_trans (Within lo hi) (Within l2 h2) (Perhaps h3) a b c h k =
    ((h.0.0 ∙ k.0.0, h.0.1 ∙ k.0.1), omega (arith, h.2, k.1))
swap_trans (Within lo hi) (Perhaps h2) Idle a b c h k = absurd k
swap_trans (Within lo hi) (Perhaps h2) (Within l3 h3) a b c h k = absurd k
swap_trans (Within lo hi) (Perhaps h2) (Perhaps h3) a b c h k =
    ((h.0.0 ∙ k.0.0, h.0.1 ∙ k.0.1), omega (arith, h.1, k.1))
swap_trans (Perhaps hi) Idle r a b c h k = absurd h
swap_trans (Perhaps hi) (Within l2 h2) r a b c h k = absurd h
swap_trans (Perhaps hi) (Perhaps h2) Idle a b c h k = absurd k
swap_trans (Perhaps hi) (Perhaps h2) (Within l3 h3) a b c h k = absurd k
swap_trans (Perhaps hi) (Perhaps h2) (Perhaps h3) a b c h k = ((h.0.0 ∙ k.0.0, h.0.1 ∙ k.0.1), omega (arith, h.1, k.1))

pub fits_same : (t : Flow) → FitsFlow t t
fits_same t = swap_same t.pending (known_at t)

pub fits_trans : (a b c : Flow) → FitsFlow a b → FitsFlow b c → FitsFlow a c
fits_trans a b c h k = swap_trans a.pending b.pending c.pending (known_at a) (known_at b) (known_at c) h k

-- ---- paths that merge

record Meeting (w : Option ProgramPoint) (t : Flow) : Type 0 where
  flow : Flow
  there : w ≡ Some (at_label flow)
  fits : FitsFlow t flow

meets_left : (v w : Option ProgramPoint) (s : ProgramPoint) → WaysAgree v w → v ≡ Some s → Meeting (meet v w) s.flow
meets_left v w s h e = subst (λ x. WaysAgree x w → Meeting (meet x w) s.flow) (sym e) (by w) h
  where
    by : (w : Option ProgramPoint) → WaysAgree (Some s) w → Meeting (meet (Some s) w) s.flow
    by None h = record { flow = s.flow; there = refl; fits = fits_same s.flow }
    by (Some t) h = record { flow = merged s.flow t.flow; there = refl; fits = h.0 }

meets_right : (v w : Option ProgramPoint) (t : ProgramPoint) → WaysAgree v w → w ≡ Some t → Meeting (meet v w) t.flow
meets_right v w t h e = subst (λ x. WaysAgree v x → Meeting (meet v x) t.flow) (sym e) (by v) h
  where
    by : (v : Option ProgramPoint) → WaysAgree v (Some t) → Meeting (meet v (Some t)) t.flow
    by None h = record { flow = t.flow; there = refl; fits = fits_same t.flow }
    by (Some s) h = record { flow = merged s.flow t.flow; there = refl; fits = h.1 }

-- the number of counters set after an instruction
abbrev pub counted : Instr → ℕ → ℕ
counted (Set counter times) r = counter + 1
counted (Loop counter target) r = counter
counted _ r = r

-- ---- properties of a code

-- the instruction at this pc has this point, or a label there that it fits
pub record Lands (code : List PlacedInstr) (pc r : ℕ) (s : ProgramPoint) : Type 0 where
  pub place : PlacedInstr
  pub there : slice_get code pc ≡ Some place
  pub repeats : place.repeats ≡ r
  pub fits : (place.point ≡ s) ⊎ ((place.point.labelled ≡ true) × FitsFlow s.flow place.point.flow)

-- the instruction at this pc has a label that the flow fits
pub record Meets (code : List PlacedInstr) (pc r : ℕ) (t : Flow) : Type 0 where
  pub place : PlacedInstr
  pub there : slice_get code pc ≡ Some place
  pub repeats : place.repeats ≡ r
  pub labelled : place.point.labelled ≡ true
  pub fits : FitsFlow t place.point.flow

pub record Holds (plan : Plan) (code : List PlacedInstr) (pc : ℕ) (p : PlacedInstr) : Type 0 where
  pub fine : (allowance : ℕ) → IsFine plan p.instr (known_with p.point.flow (first_counters p.repeats) allowance)
  pub onward : continues p.instr ≡ true → Lands code (pc + 1) (counted p.instr p.repeats)
      (without_label (after_instr plan p.instr p.point.flow))
  pub targets : (to : ℕ) → target_of p.instr ≡ Some to → Meets code to p.repeats p.point.flow
  pub counters : set_after p.instr (first_counters p.repeats) ≡ first_counters (counted p.instr p.repeats)

abbrev pub AllHold : Plan → List PlacedInstr → ℕ → List PlacedInstr → Type 0
AllHold plan code pc [] = Unit {0}
AllHold plan code pc (p ∷ ps) = Holds plan code pc p × AllHold plan code (pc + 1) ps

abbrev pub Exit : List PlacedInstr → ℕ → ℕ → Option ProgramPoint → Type 0
Exit code pc r w = (u : ProgramPoint) → w ≡ Some u → Lands code pc r u

no_target : {A : Type 0} (to : ℕ) (o : Option ℕ) → o ≡ None → o ≡ Some to → A
no_target to o e h = let f : None ≡ Some to = sym e ∙ h in cc

some_number : (m n : ℕ) → Some m ≡ Some n → m ≡ n
some_number m n e = cc

module _ (plan : Plan) (code : List PlacedInstr) where
  hold_both : (pc : ℕ) (a b : List PlacedInstr) → AllHold plan code pc a → AllHold plan code (pc + length a) b
      → AllHold plan code pc (a ++ b)
  hold_both pc [] b h k = let e : pc + 0 ≡ pc = omega arith in subst (λ n. AllHold plan code n b) e k
  hold_both pc (p ∷ a) b h k =
      (h.0, hold_both (pc + 1) a b h.1 (subst (λ n. AllHold plan code n b) (omega arith) k))

  -- it has such a label, if the point requires one
  lands_meets : (pc r : ℕ) (s : ProgramPoint) (t : Flow) → Lands code pc r s → s.labelled ≡ true → FitsFlow t s.flow
      → Meets code pc r t
  lands_meets pc r s t l e h = elim l.fits [
    | inl same ↦ record {
      place = l.place;
      there = l.there;
      repeats = l.repeats;
      labelled = ap (λ (x : ProgramPoint). x.labelled) same ∙ e;
      fits = subst (λ (x : ProgramPoint). FitsFlow t x.flow) (sym same) h;
    }
    | inr k ↦ record {
      place = l.place;
      there = l.there;
      repeats = l.repeats;
      labelled = k.0;
      fits = fits_trans t s.flow l.place.point.flow h k.1;
    }
  ]

  meets_lands : (pc r : ℕ) (s : ProgramPoint) → Meets code pc r s.flow → Lands code pc r s
  meets_lands pc r s m = record {
    place = m.place;
    there = m.there;
    repeats = m.repeats;
    fits = inr (m.labelled, m.fits);
  }

  -- the head of a loop
  lands_head : (f : Bool) (pc r : ℕ) (s : ProgramPoint)
      → Lands code pc r (record { flow = s.flow; labelled = if f then true else s.labelled }) → Lands code pc r s
  lands_head true pc r s l = meets_lands pc r s (lands_meets pc r (at_label s.flow) s.flow l refl (fits_same s.flow))
  lands_head false pc r s l = l

  lands_at : (line pc r : ℕ) (i : Instr) (s : ProgramPoint) → slice_get code pc ≡ Some (placed_instr line i r s)
      → Lands code pc r s
  lands_at line pc r i s h = record { place = placed_instr line i r s; there = h; repeats = refl; fits = inl refl }

  exit_moved : (a b : ℕ) → a ≡ b → (r : ℕ) (w : Option ProgramPoint) → Exit code a r w → Exit code b r w
  exit_moved a b e r w h = subst (λ n. Exit code n r w) e h

  -- the rest of a block, if it can be reached
  rest_holds : (q r pc : ℕ) (emit : ProgramPoint → List PlacedInstr) (jump_past : ProgramPoint → Option ProgramPoint)
      (rest : Block) (judged : ProgramPoint → Type 0) (w : Option ProgramPoint) →
      ((s : ProgramPoint) → w ≡ Some s → judged s → Stand code pc (emit s)
      → Exit code (pc + length (emit s)) r (jump_past s) → AllHold plan code pc (emit s) × Lands code pc q s) →
      Reached w rest judged → Stand code pc (onward w [] emit)
      → Exit code (pc + length (onward w [] emit)) r (onward w None jump_past) →
      AllHold plan code pc (onward w [] emit) × Exit code pc q w
  rest_holds q r pc emit jump_past rest judged None ih j st ex = (tt, λ u e. cc)
  rest_holds q r pc emit jump_past rest judged (Some s) ih j st ex =
      let g = ih s refl j st ex in
      (g.0, λ u e. let same : s ≡ u = same_Some s u e in subst (λ x. Lands code pc q x) same g.1)

  -- an instruction after a block, if that falls out
  back_exit : (line : ℕ) (i : Instr) (q pc : ℕ) (more : ProgramPoint → List PlacedInstr) (w : Option ProgramPoint)
      → Stand code pc (onward w [] (λ u. placed_instr line i q u ∷ more u)) → Exit code pc q w
  back_exit line i q pc more None st u e = cc
  back_exit line i q pc more (Some s) st u e =
      let same : s ≡ u = same_Some s u e in subst (λ x. Lands code pc q x) same (lands_at line pc q i s st.0)

  -- one iteration of a loop
  comes_round : (w : Option ProgramPoint) (start u : ProgramPoint) → FitsEntry w start → w ≡ Some u
      → FitsFlow u.flow start.flow
  comes_round w start u h e = subst (λ x. FitsEntry x start) e h

  head_labelled : (body : Block) (s u : ProgramPoint) → point_after plan body (head body s) ≡ Some u
      → (head body s).labelled ≡ true
  head_labelled body s u e = ap (λ f. if f then true else s.labelled) (falls_from plan body (head body s) u e)

  -- after a first branch, the jump over the second
  jump_holds_where : (line end r pc : ℕ) (w : Option ProgramPoint)
      → ((u : ProgramPoint) → w ≡ Some u → Holds plan code pc (placed_instr line (Jump end) r u))
      → AllHold plan code pc (onward w [] (alone line (Jump end) r))
  jump_holds_where line end r pc None h = tt
  jump_holds_where line end r pc (Some u) h = (h u refl, tt)

  jump_length : (line end r : ℕ) (w : Option ProgramPoint) (f : Bool) → is_some w ≡ f
      → length (onward w [] (alone line (Jump end) r)) ≡ (if f then 1 else 0)
  jump_length line end r None f e = ap (λ b. if b then 1 else 0) e
  jump_length line end r (Some u) f e = ap (λ b. if b then 1 else 0) e

  -- both branches continue to what follows them
  first_meets : (pc r : ℕ) (a b : Option ProgramPoint) → BranchesAgree a b → Exit code pc r (join a b)
      → (u : ProgramPoint) → a ≡ Some u → Meets code pc r u.flow
  first_meets pc r None b h ex u e = cc
  first_meets pc r (Some s) b h ex u e =
      let m = meets_right b (Some s) u h e in
      lands_meets pc r (at_label m.flow) u.flow (ex (at_label m.flow) m.there) refl m.fits

  second_lands : (pc r : ℕ) (a b : Option ProgramPoint) → BranchesAgree a b → Exit code pc r (join a b)
      → Exit code pc r b
  second_lands pc r None b h ex u e = ex u e
  second_lands pc r (Some s) b h ex u e =
      let m = meets_left b (Some s) u h e in
      meets_lands pc r u (lands_meets pc r (at_label m.flow) u.flow (ex (at_label m.flow) m.there) refl m.fits)

  -- a statement that is one instruction neither jumps nor counts
  act_goes_on : (a : Act) → (target_of (instr_of_act a) ≡ None) × ((r : ℕ) → counted (instr_of_act a) r ≡ r)
      × ((c : Counters) → set_after (instr_of_act a) c ≡ c)
  act_goes_on (Edits edit) = (refl, λ r. refl, λ c. refl)
  act_goes_on (Waits frames) = (refl, λ r. refl, λ c. refl)
  act_goes_on (WaitsContact contact closed) = (refl, λ r. refl, λ c. refl)
  act_goes_on (WaitsUntil moment) = (refl, λ r. refl, λ c. refl)
  act_goes_on (WaitsAny all) = (refl, λ r. refl, λ c. refl)
  act_goes_on (CommitsIn delay) = (refl, λ r. refl, λ c. refl)
  act_goes_on (CommitsAt count) = (refl, λ r. refl, λ c. refl)
  act_goes_on Joins = (refl, λ r. refl, λ c. refl)
  act_goes_on Settles = (refl, λ r. refl, λ c. refl)

  act_fine : (a : Act) (t : Flow) (c : Counters) (n : ℕ) → IsFine plan (instr_of_act a) (known_at t)
      → IsFine plan (instr_of_act a) (known_with t c n)
  act_fine (Edits edit) t c n h = h
  act_fine (Waits frames) t c n h = h
  act_fine (WaitsContact contact closed) t c n h = h
  act_fine (WaitsUntil moment) t c n h = h
  act_fine (WaitsAny all) t c n h = h
  act_fine (CommitsIn delay) t c n h = (commit_fine plan t _ c 0 n h.0, h.1)
  act_fine (CommitsAt count) t c n h = (commit_fine plan t _ c 0 n h.0, h.1)
  act_fine Joins t c n h = h
  act_fine Settles t c n h = h

  basic_holds : (line : ℕ) (a : Act) (r pc : ℕ) (s : ProgramPoint) → IsFine plan (instr_of_act a) (known_at s.flow)
      → Lands code (pc + 1) r (without_label (after_instr plan (instr_of_act a) s.flow))
      → Holds plan code pc (placed_instr line (instr_of_act a) r s)
  basic_holds line a r pc s h l = record {
    fine = λ n. act_fine a s.flow (first_counters r) n h;
    onward = λ _. rw ((act_goes_on a).1 r) l;
    targets = λ to e. no_target to (target_of (instr_of_act a)) (act_goes_on a).0 e;
    counters = (act_goes_on a).2 (first_counters r) ∙ ap first_counters (sym ((act_goes_on a).1 r));
  }

  end_holds : (line : ℕ) (r pc : ℕ) (s : ProgramPoint) → Holds plan code pc (placed_instr line End r s)
  end_holds line r pc s = record { fine = λ n. tt; onward = λ e. cc; targets = λ to e. cc; counters = refl }

  test_holds : (line : ℕ) (c : Condition) (to r pc : ℕ) (s : ProgramPoint)
      → Lands code (pc + 1) r (without_label s.flow) → Meets code to r s.flow
      → Holds plan code pc (placed_instr line (test_of c to) r s)
  test_holds line (IfContact contact) to r pc s l m =
      record {
        fine = λ n. tt;
        onward = λ _. l;
        targets = λ n e. rw (← some_number to n e) m;
        counters = refl;
      }
  test_holds line (IfTime from until) to r pc s l m =
      record {
        fine = λ n. tt;
        onward = λ _. l;
        targets = λ n e. subst (λ x. Meets code x r s.flow) (some_number _ _ e) m;
        counters = refl;
      }

  jump_holds : (line : ℕ) (to r pc : ℕ) (s : ProgramPoint) → Meets code to r s.flow
      → Holds plan code pc (placed_instr line (Jump to) r s)
  jump_holds line to r pc s m =
      record {
        fine = λ n. tt;
        onward = λ e. cc;
        targets = λ n e. rw (← some_number to n e) m;
        counters = refl;
      }

  set_holds : (line : ℕ) (n r pc : ℕ) (s : ProgramPoint) → Lands code (pc + 1) (r + 1) (without_label s.flow)
      → Holds plan code pc (placed_instr line (Set r n) r s)
  set_holds line n r pc s l = record {
    fine = λ n. tt;
    onward = λ _. l;
    targets = λ to e. cc;
    counters = let one : suc r ≡ r + 1 = omega arith in ap first_counters one;
  }

  -- the last of the first counters is set
  set_there : (r : ℕ) → r < 8 → is_set (first_counters (r + 1)) r ≡ true
  set_there r low = let one : suc r ≡ r + 1 = omega arith in
      subst (λ n. is_set (first_counters n) r ≡ true) one (counters_change_alone (first_counters r) r low).0

  unset_after : (r : ℕ) → r < 8 → without_counter r (first_counters (r + 1)) ≡ first_counters r
  unset_after (suc (suc (suc (suc (suc (suc (suc (suc r)))))))) low = absurd (omega (arith, low))
  unset_after _ low = refl

  loop_holds : (line : ℕ) (to r pc : ℕ) (s : ProgramPoint) → r < 8 → Lands code (pc + 1) r (without_label s.flow)
      → Meets code to (r + 1) s.flow → Holds plan code pc (placed_instr line (Loop r to) (r + 1) s)
  loop_holds line to r pc s low l m =
      record {
        fine = λ n. set_there r low;
        onward = λ _. l;
        targets = λ n e. subst (λ x. Meets code x (r + 1) s.flow) (some_number to n e) m;
        counters = unset_after r low;
      }

  pub sound : (b : Block) (r pc : ℕ) (s : ProgramPoint) → r + nested b ≤ 8 → IsJudged plan b s
      → Stand code pc (places plan r pc b s) → Exit code (pc + length (places plan r pc b s)) r (point_after plan b s)
      → AllHold plan code pc (places plan r pc b s) × Lands code pc r s
  sound nothing r pc s deep j st ex = (tt, (subst (λ n. Lands code n r s) (omega arith) (ex s refl)))
  sound (basic line act rest) r pc s deep j st ex =
      let t = without_label (after_instr plan (instr_of_act act) s.flow) in
      let ih = sound rest r (pc + 1) t (omega (arith, deep)) j.1 st.1 (exit_moved _ _ (omega arith) _ _ ex) in
      ((basic_holds line act r pc s j.0 ih.1, ih.0), lands_at line pc r (instr_of_act act) s st.0)
  sound (stop line rest) r pc s deep j st ex = ((end_holds line r pc s, tt), lands_at line pc r End s st.0)
  sound (when line c first rest) r pc s deep j st ex =
      let t = without_label s.flow in
      let firsts = places plan r (pc + 1) first t in
      let a = point_after plan first t in
      let w = meet a (Some s) in
      let end = pc + 1 + length firsts in
      let rests = onward w [] (λ u. places plan r end rest u) in
      let back = rest_holds r r end (λ u. places plan r end rest u) (λ u. point_after plan rest u) rest
      (λ u. IsJudged plan rest u) w (λ u _. sound rest r end u (omega (arith, deep))) j.2
      (stand_back code (pc + 1) firsts rests st.1)
      (exit_moved _ _ (omega (arith, length-append firsts rests)) r (point_after plan (when line c first rest) s) ex) in
      let front = sound first r (pc + 1) t (omega (arith, deep)) j.0 (stand_front code (pc + 1) firsts rests st.1)
      (λ u h.
      let m = meets_left a (Some s) u j.1 h in
      meets_lands end r u (lands_meets end r (at_label m.flow) u.flow (back.1 (at_label m.flow) m.there) refl
      m.fits)) in
      let m = meets_right a (Some s) s j.1 refl in
      let target = lands_meets end r (at_label m.flow) s.flow (back.1 (at_label m.flow) m.there) refl m.fits in (
        (test_holds line c end r pc s front.1 target, hold_both (pc + 1) firsts rests front.0 back.0),
        lands_at line pc r (test_of c end) s st.0,
      )
  sound (either line c first second rest) r pc s deep j st ex =
      let t = without_label s.flow in
      let firsts = places plan r (pc + 1) first t in
      let a = point_after plan first t in
      let out = pc + 1 + length firsts in
      let start = out + (if falls_out first then 1 else 0) in
      let seconds = places plan r start second (at_label s.flow) in
      let b = point_after plan second (at_label s.flow) in
      let end = start + length seconds in
      let w = join a b in
      let rests = onward w [] (λ u. places plan r end rest u) in
      let jumps = onward a [] (alone line (Jump end) r) in
      let len = jump_length line end r a (falls_out first) (after_falls plan first t) in
      let at_start : out + length jumps ≡ start = ap (λ n. out + n) len in
      let e : pc + length (places plan r pc (either line c first second rest) s) ≡ end + length rests =
      omega (
        arith,
        len,
        length-append firsts (jumps ++ (seconds ++ rests)),
        length-append jumps (seconds ++ rests),
        length-append seconds rests,
      ) in
      let st_jumps = stand_back code (pc + 1) firsts (jumps ++ (seconds ++ rests)) st.1 in
      let st_seconds = subst (λ n. Stand code n (seconds ++ rests)) at_start (stand_back _ _ _ _ st_jumps) in
      let back = rest_holds r r end (λ u. places plan r end rest u) (λ u. point_after plan rest u) rest
      (λ u. IsJudged plan rest u) w (λ u _. sound rest r end u (omega (arith, deep))) j.3
      (stand_back code start seconds rests st_seconds)
      (exit_moved _ _ e r (point_after plan (either line c first second rest) s) ex) in
      let middle = sound second r start (at_label s.flow) (omega (arith, deep)) j.1
      (stand_front code start seconds rests st_seconds) (second_lands end r a b j.2 back.1) in
      let front = sound first r (pc + 1) t (omega (arith, deep)) j.0 (stand_front _ _ _ _ st.1)
      (back_exit _ _ _ _ (λ u. []) _ (stand_front _ _ _ _ st_jumps)) in
      let jump = jump_holds_where _ _ _ _ _ (λ u h. jump_holds _ _ _ _ _ (first_meets _ _ _ _ j.2 back.1 _ h)) in
      let target = lands_meets start r (at_label s.flow) s.flow middle.1 refl (fits_same s.flow) in
      let seconds_hold = hold_both start seconds rests middle.0 back.0 in
      let jumps_hold = hold_both out jumps (seconds ++ rests) jump
      (subst (λ n. AllHold plan code n (seconds ++ rests)) (sym at_start) seconds_hold) in (
        (
          test_holds line c start r pc s front.1 target,
          hold_both (pc + 1) firsts (jumps ++ (seconds ++ rests)) front.0 jumps_hold,
        ),
        lands_at line pc r (test_of c start) s st.0,
      )
  sound (repeat line n body rest) r pc s deep j st ex =
      let t = without_label s.flow in
      let start = head body t in
      let bodies = places plan (r + 1) (pc + 1) body start in
      let a = point_after plan body start in
      let end = pc + 1 + length bodies in
      let more = λ (u : ProgramPoint). places plan r (end + 1) rest (without_label u.flow) in
      let rests = onward a [] (λ u. placed_instr line (Loop r (pc + 1)) (r + 1) u ∷ more u) in
      let e : pc + length (places plan r pc (repeat line n body rest) s) ≡ end + length rests =
      omega (arith, length-append bodies rests) in
      let st_rests = stand_back code (pc + 1) bodies rests st.1 in
      let front = sound body (r + 1) (pc + 1) start (omega (arith, deep)) j.0 (stand_front _ _ _ _ st.1)
      (back_exit _ _ _ _ _ _ st_rests) in
      let back = rest_holds (r + 1) r end (λ u. placed_instr line (Loop r (pc + 1)) (r + 1) u ∷ more u)
      (λ u. point_after plan rest (without_label u.flow)) rest (λ u. IsJudged plan rest (without_label u.flow)) a
      (λ u h k su eu.
      let ih = sound rest r (end + 1) (without_label u.flow) (omega (arith, deep)) k su.1
      (exit_moved _ _ (omega arith) r (point_after plan rest (without_label u.flow)) eu) in
      let m = lands_meets (pc + 1) (r + 1) start u.flow front.1 (head_labelled body t u h)
      (comes_round a start u j.1 h) in (
        (loop_holds line (pc + 1) r end u (omega (arith, deep)) ih.1 m, ih.0),
        lands_at line end (r + 1) (Loop r (pc + 1)) u su.0,
      ))
      j.2 st_rests (exit_moved _ _ e r (point_after plan (repeat line n body rest) s) ex) in (
        (
          set_holds line n r pc s (lands_head (falls_out body) (pc + 1) (r + 1) t front.1),
          hold_both (pc + 1) bodies rests front.0 back.0,
        ),
        lands_at line pc r (Set r n) s st.0,
      )
  sound (forever line body rest) r pc s deep j st ex =
      let start = head body s in
      let bodies = places plan r pc body start in
      let a = point_after plan body start in
      let end = pc + length bodies in
      let jumps = onward a [] (alone line (Jump pc) r) in
      let front = sound body r pc start (omega (arith, deep)) j.0 (stand_front code pc bodies jumps st)
      (back_exit line (Jump pc) r end (λ u. []) a (stand_back code pc bodies jumps st)) in
      let jump = jump_holds_where line pc r end a (λ u h.
      jump_holds line pc r end u
      (lands_meets pc r start u.flow front.1 (head_labelled body s u h) (comes_round a start u j.1 h))) in
      (hold_both pc bodies jumps front.0 jump, lands_head (falls_out body) pc r s front.1)
  sound (apply line k named rest) r pc s deep j st ex =
      let names = places plan r pc named s in
      let w = point_after plan named s in
      let end = pc + length names in
      let rests = onward w [] (λ u. places plan r end rest u) in
      let e : pc + length (places plan r pc (apply line k named rest) s) ≡ end + length rests =
      omega (arith, length-append names rests) in
      let back = rest_holds r r end (λ u. places plan r end rest u) (λ u. point_after plan rest u) rest
      (λ u. IsJudged plan rest u) w (λ u _. sound rest r end u (omega (arith, deep))) j.1
      (stand_back code pc names rests st) (exit_moved _ _ e r (point_after plan (apply line k named rest) s) ex) in
      let front = sound named r pc s (omega (arith, deep)) j.0 (stand_front code pc names rests st) back.1 in
      (hold_both pc names rests front.0 back.0, front.1)

-- the whole code of a judged script
module _ (plan : Plan) (last : ℕ) (b : Block) (s : ProgramPoint) where
  whole_holds : nested b ≤ 8 → IsJudged plan b s → AllHold plan (all_places plan last b s) 0 (all_places plan last b s)
      × Lands (all_places plan last b s) 0 0 s
  whole_holds deep j =
      let code = all_places plan last b s in
      let body = places plan 0 0 b s in
      let ending = onward (point_after plan b s) [] (alone last End 0) in
      let st : Stand code 0 code = stand_all code [] in
      let st_end = stand_back code 0 body ending st in
      let front = sound plan code b 0 0 s (omega (arith, deep)) j (stand_front code 0 body ending st)
      (back_exit plan code last End 0 (0 + length body) (λ u. []) (point_after plan b s) st_end) in
      (hold_both plan code 0 body ending front.0 (ending_holds (point_after plan b s) code (0 + length body)), front.1)
    where
      ending_holds : (w : Option ProgramPoint) (code : List PlacedInstr) (pc : ℕ)
          → AllHold plan code pc (onward w [] (alone last End 0))
      ending_holds None code pc = tt
      ending_holds (Some u) code pc = (end_holds plan code last 0 pc u, tt)

  pub all_hold : nested b ≤ 8 → IsJudged plan b s → AllHold plan (all_places plan last b s) 0 (all_places plan last b s)
  all_hold deep j = (whole_holds deep j).0

  -- its first instruction has a label
  pub opens : nested b ≤ 8 → IsJudged plan b s → s.labelled ≡ true → Meets (all_places plan last b s) 0 0 s.flow
  opens deep j e = lands_meets plan (all_places plan last b s) 0 0 s s.flow (whole_holds deep j).1 e (fits_same s.flow)
