-- The code of a judged script whose needs are within the budget is typed.
use Rattle.script_compiler.proofs.Words.{[], ◌+◌, ◌-◌, ◌<◌, ◌∙◌, ◌∷◌, ◌≡◌, ◌≤◌, AreLabelsOf, Block, Bool, CommitAt}
use Rattle.script_compiler.proofs.Words.{CommitIn, Configuration, Contains, CostsItsNeeds, Edit, End, FitsFlow}
use Rattle.script_compiler.proofs.Words.{FitsSwap, Flow, Idle, Instr, IsAccepted, IsCodeOf, IsFine, IsJudged, IsLabelOf}
use Rattle.script_compiler.proofs.Words.{IsNeed, IsSound, IsWithinBudget, Join, Jump, Known, Label, List, Loop, None}
use Rattle.script_compiler.proofs.Words.{Option, Perhaps, PlacedInstr, Plan, Program, Set, Settle, Some, StepsTo, Swap}
use Rattle.script_compiler.proofs.Words.{Test, TestTime, Tree, Until, Wait, WaitAny, WaitContact, Within, after_instr}
use Rattle.script_compiler.proofs.Words.{all_places, ap, arith, beginning, body_of, cases_lt, continues, false}
use Rattle.script_compiler.proofs.Words.{first_counters, if◌then◌else◌, inl, inr, instr_at, instrs_of, is_set, known_at}
use Rattle.script_compiler.proofs.Words.{known_with, label_at, leaves, left_over, length, lines_of_placed, longest}
use Rattle.script_compiler.proofs.Words.{nested, opening_of, option_map, pages_alone, placed_instrs, refl, rests}
use Rattle.script_compiler.proofs.Words.{same_Some, slice_get, slice_get_within, spent, subst, suc, suspends, sym}
use Rattle.script_compiler.proofs.Words.{target_of, true, unpriced_label, unpriced_labels, without_label, zero, ℕ}
use Rattle.plan_code.specs.declared.flags.Counters.{Counters}
use Rattle.plan_verifier.proofs.Leaving.{leaves_known}
use Rattle.plan_verifier.specs.Typing.{Declares, CanEnter, Arrives, HasOpening, IsLabelTyped, Reaches, IsAfter, IsSafe}
use Rattle.plan_verifier.specs.Typing.{IsTyped}
use Rattle.script_compiler.proofs.Paths.{one_least, need_most, need_onward, is_need, one_need}
use Rattle.script_compiler.proofs.Emitted.{length_lines}
use Rattle.script_compiler.proofs.Places.{Stand, stand_all, first_of_all}
use Rattle.script_compiler.proofs.Sound.{counted, Lands, Meets, Holds, AllHold, all_hold, opens, fits_same}
use Rattle.script_compiler.proofs.Labelled.{Connected, all_connected, Found, label_found, label_contained}
use Rattle.script_compiler.proofs.Labelled.{found_contained, label_place}
use Rattle.script_compiler.proofs.Words.{slice_there}

-- ---- successors of an instruction

-- an instruction that goes on in the same frame, to the next one or to its target, does not suspend
runs_on : (i : Instr) → (continues i ≡ true → rests i ≡ false → suspends i ≡ false)
    × ((to : ℕ) → target_of i ≡ Some to → suspends i ≡ false)
runs_on (Wait frames) = (λ h k. k, λ to h. (cc))
runs_on (Until day) = (λ h k. k, λ to h. (cc))
runs_on (WaitContact contact closed) = (λ h k. k, λ to h. (cc))
runs_on (WaitAny closed opened until frames) = (λ h k. k, λ to h. (cc))
runs_on (CommitIn delay) = (λ h k. refl, λ to h. (cc))
runs_on (CommitAt count) = (λ h k. refl, λ to h. (cc))
runs_on Join = (λ h k. k, λ to h. (cc))
runs_on Settle = (λ h k. refl, λ to h. (cc))
runs_on End = (λ h k. (cc), λ to h. (cc))
runs_on (Edit edit) = (λ h k. refl, λ to h. (cc))
runs_on (Test contact target) = (λ h k. refl, λ to h. refl)
runs_on (TestTime from until target) = (λ h k. refl, λ to h. refl)
runs_on (Jump target) = (λ h k. refl, λ to h. refl)
runs_on (Set counter times) = (λ h k. refl, λ to h. (cc))
runs_on (Loop counter target) = (λ h k. refl, λ to h. refl)

-- ---- states that fit labels

swap_known : (p q : Swap) (s t : Flow) (c d : Counters) (a b : ℕ) → FitsSwap p q (known_at s) (known_at t)
    → FitsSwap p q (known_with s c a) (known_with t d b)
swap_known Idle Idle s t c d a b h = h
swap_known Idle (Within lo hi) s t c d a b h = h
swap_known Idle (Perhaps hi) s t c d a b h = h
swap_known (Within lo hi) Idle s t c d a b h = h
swap_known (Within lo hi) (Within l2 h2) s t c d a b h = h
swap_known (Within lo hi) (Perhaps h2) s t c d a b h = h
swap_known (Perhaps hi) Idle s t c d a b h = h
swap_known (Perhaps hi) (Within l2 h2) s t c d a b h = h
swap_known (Perhaps hi) (Perhaps h2) s t c d a b h = h

-- ---- instructions of a code

instr_of_place : (ps : List PlacedInstr) (pc : ℕ) (p : PlacedInstr) → slice_get ps pc ≡ Some p
    → slice_get (instrs_of (lines_of_placed ps)) pc ≡ Some p.instr
instr_of_place [] pc p e = cc
instr_of_place (q ∷ ps) zero p e = ap (λ (x : PlacedInstr). Some x.instr) (same_Some q p e)
instr_of_place (q ∷ ps) (suc pc) p e = instr_of_place ps pc p e

place_of : (ps : List PlacedInstr) (pc : ℕ) (i : Instr)
    → option_map (λ l. l.instr) (slice_get (lines_of_placed ps) pc) ≡ Some i → (p : PlacedInstr)
    × (slice_get ps pc ≡ Some p) × (p.instr ≡ i)
place_of [] pc i e = cc
place_of (p ∷ ps) zero i e = (p, refl, same_Some p.instr i e)
place_of (p ∷ ps) (suc pc) i e = place_of ps pc i e

instr_line : (ps : List PlacedInstr) (pc : ℕ) (p : PlacedInstr) → slice_get ps pc ≡ Some p
    → option_map (λ l. l.instr) (slice_get (lines_of_placed ps) pc) ≡ Some p.instr
instr_line [] pc p e = cc
instr_line (q ∷ ps) zero p e = ap (λ (x : PlacedInstr). Some x.instr) (same_Some q p e)
instr_line (q ∷ ps) (suc pc) p e = instr_line ps pc p e

module _ (code : Program) (whole : List PlacedInstr) where
  abbrev plan : Plan
  plan = code.plan

  abbrev instrs : List Instr
  instrs = instrs_of (lines_of_placed whole)

  abbrev need : ℕ → ℕ
  need pc = longest instrs (plan.budget + 1) pc

  -- what is known at an instruction, given the allowance with which it is reached
  abbrev known_there : ℕ → PlacedInstr → ℕ → Known
  known_there pc p came = known_with p.point.flow (first_counters p.repeats)
      (if p.point.labelled then need pc else came)

  abbrev knowns : ℕ → ℕ → List PlacedInstr → List Known
  knowns came pc [] = []
  knowns came pc (p ∷ ps) = known_there pc p came ∷ knowns (left_over plan p.instr (known_there pc p came).allowance)
      (pc + 1) ps

  length_knowns : (came pc : ℕ) (ps : List PlacedInstr) → length (knowns came pc ps) ≡ length ps
  length_knowns came pc [] = refl
  length_knowns came pc (p ∷ ps) = let ih =
      length_knowns (left_over plan p.instr (known_there pc p came).allowance) (pc + 1) ps in omega (arith, ih)

  -- what is known at one instruction, and at the next
  record At (pc : ℕ) (p : PlacedInstr) (t : Known) (following : Option PlacedInstr) (next : Option Known) : Type 0 where
    known : t ≡ known_with p.point.flow (first_counters p.repeats) t.allowance
    affords : need pc ≤ t.allowance
    marked : p.point.labelled ≡ true → t.allowance ≡ need pc
    onward : (q : PlacedInstr) → following ≡ Some q → next
        ≡ Some (known_there (pc + 1) q (left_over plan p.instr t.allowance))
    connected : (q : PlacedInstr) → following ≡ Some q → q.point.labelled ≡ false → continues p.instr ≡ true

  module _ (within : IsWithinBudget plan.budget instrs) where
    -- an instruction leaves a sufficient allowance for each of its successors
    enough : (pc to : ℕ) (p : PlacedInstr) (a : ℕ) → slice_get whole pc ≡ Some p → need pc ≤ a
        → (rests p.instr ≡ false → StepsTo p.instr pc to) → need to ≤ left_over plan p.instr a
    enough pc to p a e h g = by (rests p.instr) refl
      where
        by : (b : Bool) → rests p.instr ≡ b → need to ≤ (if b then plan.budget else a - 1)
        by true s = need_most instrs plan.budget to within
        by false s = let more = need_onward instrs plan.budget pc to p.instr within (instr_of_place whole pc p e)
            (g s) in omega (arith, more, h)

    head_affords : (pc came : ℕ) (b : Bool) → (b ≡ false → need pc ≤ came) → need pc ≤ (if b then need pc else came)
    head_affords pc came true h = omega arith
    head_affords pc came false h = h refl

    next_head : (came pc : ℕ) (ps : List PlacedInstr) (q : PlacedInstr) → slice_get ps 0 ≡ Some q
        → slice_get (knowns came pc ps) 0 ≡ Some (known_there pc q came)
    next_head came pc [] q h = cc
    next_head came pc (p ∷ ps) q h = ap (λ x. Some (known_there pc x came)) (same_Some p q h)

    follows_head : (came : Bool) (ps : List PlacedInstr) (q : PlacedInstr) → Connected came ps → slice_get ps 0 ≡ Some q
        → q.point.labelled ≡ false → came ≡ true
    follows_head came [] q c h = cc
    follows_head came (p ∷ ps) q c h = let same : p ≡ q = same_Some p q h in
        subst (λ (x : PlacedInstr). x.point.labelled ≡ false → came ≡ true) same c.0

    at_head : (q : PlacedInstr) (ps : List PlacedInstr) (k came : ℕ) (c : Bool) → Connected c (q ∷ ps)
        → (c ≡ true → need k ≤ came) →
        At k q (known_there k q came) (slice_get ps 0)
        (slice_get (knowns (left_over plan q.instr (known_there k q came).allowance) (k + 1) ps) 0)
    at_head q ps k came c co h = record {
      known = refl;
      affords = head_affords k came q.point.labelled (λ e. h (co.0 e));
      marked = λ e. ap (λ b. if b then need k else came) e;
      onward = λ x e. next_head (left_over plan q.instr (known_there k q came).allowance) (k + 1) ps x e;
      connected = λ x e. follows_head (continues q.instr) ps x co.1 e;
    }

    at_each : (ps : List PlacedInstr) (k came : ℕ) (c : Bool) → Stand whole k ps → Connected c ps
        → (c ≡ true → need k ≤ came) → (j : ℕ) (p : PlacedInstr) (t : Known) →
        slice_get ps j ≡ Some p → slice_get (knowns came k ps) j ≡ Some t
        → At (k + j) p t (slice_get ps (j + 1)) (slice_get (knowns came k ps) (j + 1))
    at_each [] k came c st co h j p t e f = cc
    at_each (q ∷ ps) k came c st co h zero p t e f =
        let after_it = slice_get (knowns (left_over plan q.instr (known_there k q came).allowance) (k + 1) ps) 0 in
        let first = at_head q ps k came c co h in
        let as_p = subst (λ x. At k x (known_there k q came) (slice_get ps 0) after_it) (same_Some q p e) first in
        let as_t = subst (λ x. At k p x (slice_get ps 0) after_it) (same_Some (known_there k q came) t f) as_p in
        subst (λ n. At n p t (slice_get ps 0) after_it) (omega arith) as_t
    at_each (q ∷ ps) k came c st co h (suc j) p t e f =
        let a = (known_there k q came).allowance in
        let came' = left_over plan q.instr a in
        let further : suc (j + 1) ≡ suc j + 1 = omega arith in
        let afford = head_affords k came q.point.labelled (λ e. h (co.0 e)) in
        let ih = at_each ps (k + 1) came' (continues q.instr) st.1 co.1
        (λ g. enough k (k + 1) q a st.0 afford (λ s. ((runs_on q.instr).0 g s, inl (g, refl)))) j p t e f in
        let at_here = subst (λ n. At n p t (slice_get ps (j + 1)) (slice_get (knowns came' (k + 1) ps) (j + 1)))
        (omega arith) ih in
        subst (λ n. At (k + suc j) p t (slice_get (q ∷ ps) n) (slice_get (knowns came k (q ∷ ps)) n)) further at_here

    -- ---- the typing of the whole code

    abbrev typing : List Known
    typing = knowns 0 0 whole

    module _ (st : Stand whole 0 whole) (co : Connected false whole) (holds : AllHold plan whole 0 whole) where
      at_pc : (pc : ℕ) (p : PlacedInstr) (t : Known) → slice_get whole pc ≡ Some p → slice_get typing pc ≡ Some t
          → At pc p t (slice_get whole (pc + 1)) (slice_get typing (pc + 1))
      at_pc pc p t e f = let point_here : 0 + pc ≡ pc = omega arith in
          subst (λ n. At n p t (slice_get whole (pc + 1)) (slice_get typing (pc + 1))) point_here
          (at_each whole 0 0 false st co (λ g. cc) pc p t e f)

      hold_at : (ps : List PlacedInstr) (k j : ℕ) (p : PlacedInstr) → AllHold plan whole k ps → slice_get ps j ≡ Some p
          → Holds plan whole (k + j) p
      hold_at [] k j p h e = cc
      hold_at (q ∷ ps) k zero p h e = let point_here : k ≡ k + 0 = omega arith in
          subst (λ n. Holds plan whole n p) point_here (subst (λ x. Holds plan whole k x) (same_Some q p e) h.0)
      hold_at (q ∷ ps) k (suc j) p h e = let point_here : k + 1 + j ≡ k + suc j = omega arith in
          subst (λ n. Holds plan whole n p) point_here (hold_at ps (k + 1) j p h.1 e)

      hold_pc : (pc : ℕ) (p : PlacedInstr) → slice_get whole pc ≡ Some p → Holds plan whole pc p
      hold_pc pc p e = let point_here : 0 + pc ≡ pc = omega arith in
          subst (λ n. Holds plan whole n p) point_here (hold_at whole 0 pc p holds e)

      -- what is known at a pc
      known_of : (pc : ℕ) (p : PlacedInstr) → slice_get whole pc ≡ Some p → (t : Known) × (slice_get typing pc ≡ Some t)
      known_of pc p e = slice_there typing pc (omega (arith, slice_get_within whole pc p e, length_knowns 0 0 whole))

      -- ---- labels

      module _ (lines_are : code.lines ≡ lines_of_placed whole)
          (labels_are : AreLabelsOf code.configurations (unpriced_labels 0 whole) code.labels)
          (costs : CostsItsNeeds code) where
        label_there : (pc : ℕ) (p : PlacedInstr) → slice_get whole pc ≡ Some p → p.point.labelled ≡ true
            → Found code.configurations pc p code.labels
        label_there pc p e l = let point_here : 0 + pc ≡ pc = omega arith in
            subst (λ n. Found code.configurations n p code.labels) point_here
            (label_found code.configurations whole code.labels 0 pc p labels_are e l)

        no_label : (pc : ℕ) (p : PlacedInstr) → slice_get whole pc ≡ Some p → p.point.labelled ≡ false
            → (o : Option Label) → label_at code pc ≡ o → o ≡ None
        no_label pc p e l None h = refl
        no_label pc p e l (Some x) h = let m =
            label_place code.configurations whole code.labels pc x p labels_are h e in let f : true ≡ false =
            sym m ∙ l in cc

        -- its cost is the need of its pc
        cost_is : (l : Label) (pc : ℕ) → Contains code.labels l → l.pc ≡ pc → l.cost ≡ need pc
        cost_is l pc has at =
            let is = subst (λ ls. IsNeed (instrs_of ls) l.pc l.cost) lines_are (costs l has) in
            let point_here : IsNeed instrs pc l.cost = subst (λ n. IsNeed instrs n l.cost) at is in
            one_need instrs pc l.cost (need pc) point_here (is_need instrs plan.budget pc within)

        declares_place : (pc : ℕ) (p : PlacedInstr) (l : Label) → Contains code.labels l
            → IsLabelOf code.configurations (unpriced_label pc p) l
            → Declares code l (known_with p.point.flow (first_counters p.repeats) (need pc))
        declares_place pc p l has is = record {
          current = is.current;
          next = is.following;
          pending = is.pending;
          counters = is.counters;
          cost = cost_is l pc has is.place;
        }

        comes_to : (pc : ℕ) (p : PlacedInstr) (f : Flow) (c : Counters) (a : ℕ)
            (m : Found code.configurations pc p code.labels) → FitsFlow f p.point.flow → c ≡ first_counters p.repeats
            → need pc ≤ a → CanEnter code m.label (known_with f c a)
        comes_to pc p f c a m fits ec n =
            let has = found_contained code.configurations code.labels pc m.label m.there in
            record {
              declared = known_with p.point.flow (first_counters p.repeats) (need pc);
              declares = declares_place pc p m.label has m.is;
              fits = record {
                swap = swap_known _ _ _ _ _ _ _ _ fits;
                counters = λ r on. subst (λ x. is_set x r ≡ true) (sym ec) on;
              };
              affords = omega (arith, cost_is m.label pc has m.is.place, n);
            }

        meets_reaches : (to : ℕ) (p : PlacedInstr) (a : ℕ) → need to ≤ a → Meets whole to p.repeats p.point.flow
            → Reaches code to (known_with p.point.flow (first_counters p.repeats) a)
        meets_reaches to p a n m =
            let found = label_there to m.place m.there m.labelled in
            record {
              label = found.label;
              there = found.there;
              comes = comes_to to _ _ _ a found m.fits (ap first_counters (sym m.repeats)) n;
            }

        arrives_at : (pc r a : ℕ) (f : Flow) → need pc ≤ a → (l : Lands whole pc r (without_label f))
            → slice_get typing pc ≡ Some (known_there pc l.place a) → (b : Bool) → l.place.point.labelled ≡ b →
            Arrives code typing pc (label_at code pc) (known_with f (first_counters r) a)
        arrives_at pc r a f n l known true b =
            let fits : FitsFlow f l.place.point.flow =
            elim l.fits [ inl same ↦ rw same (fits_same f) | inr h ↦ h.1 ] in
            let found = label_there pc l.place l.there b in
            rw found.there (comes_to pc l.place f (first_counters r) a found fits (ap first_counters (sym l.repeats)) n)
        arrives_at pc r a f n l known false b =
            let point : l.place.point ≡ without_label f = elim l.fits [
              | inl same ↦ same
              | inr h ↦ let e : true ≡ false = sym h.0 ∙ b in cc
            ] in
            let same : known_there pc l.place a ≡ known_with f (first_counters r) a = cc (b, point, l.repeats) in
            subst (λ o. Arrives code typing pc o (known_with f (first_counters r) a))
            (sym (no_label pc l.place l.there b (label_at code pc) refl)) (known ∙ ap (λ x. Some x) same)

        safe_place : (pc : ℕ) (p : PlacedInstr) (t : Known) → slice_get whole pc ≡ Some p → slice_get typing pc ≡ Some t
            → IsSafe code typing pc p.instr t
        safe_place pc p t e f =
            let a = at_pc pc p t e f in
            let h = hold_pc pc p e in
            let c = first_counters p.repeats in
            let least = one_least instrs plan.budget pc p.instr (instr_of_place whole pc p e) in
            let left : leaves plan p.instr t ≡ known_with (after_instr plan p.instr p.point.flow)
            (first_counters (counted p.instr p.repeats)) (left_over plan p.instr t.allowance) =
            ap (λ x. leaves plan p.instr x) a.known ∙ leaves_known plan p.instr p.point.flow c t.allowance
            ∙ ap (λ x. known_with (after_instr plan p.instr p.point.flow) x (left_over plan p.instr t.allowance))
            h.counters in
            record {
              allowance = omega (arith, least, a.affords);
              fine = subst (λ x. IsFine plan p.instr x) (sym a.known) (h.fine t.allowance);
              inside = λ g. let l = h.onward g in let n = ap length lines_are in let m = length_lines whole in
                  omega (arith, slice_get_within whole (pc + 1) l.place l.there, n, m);
              onward = λ g.
                  let l = h.onward g in
                  let n = enough pc (pc + 1) p t.allowance e a.affords
                  (λ s. ((runs_on p.instr).0 g s, inl (g, refl))) in
                  subst (λ x. Arrives code typing (pc + 1) (label_at code (pc + 1)) x) (sym left)
                  (arrives_at (pc + 1) (counted p.instr p.repeats) (left_over plan p.instr t.allowance)
                  (after_instr plan p.instr p.point.flow) n l (a.onward l.place l.there) l.place.point.labelled
                  refl);
              targets = λ to g.
                  let more = need_onward instrs plan.budget pc to p.instr within (instr_of_place whole pc p e)
                  ((runs_on p.instr).1 to g, inr g) in
                  subst (λ x. Reaches code to (spent x)) (sym a.known)
                  (meets_reaches to p (t.allowance - 1) (omega (arith, more, a.affords)) (h.targets to g));
            }

        safe : (pc : ℕ) (i : Instr) (t : Known) → instr_at code pc ≡ Some i → slice_get typing pc ≡ Some t
            → IsSafe code typing pc i t
        safe pc i t e f =
            let there = subst (λ ls. option_map (λ l. l.instr) (slice_get ls pc) ≡ Some i) lines_are e in
            let p = place_of whole pc i there in subst (λ x. IsSafe code typing pc x t) p.2 (safe_place pc p.0 t p.1 f)

        placed_label : (l : Label) → Contains code.labels l → IsLabelTyped code typing l
        placed_label l has =
            let m = label_contained code.configurations whole code.labels 0 l labels_are has in
            let is = subst (λ n. IsLabelOf code.configurations (unpriced_label n m.place) l) (omega arith) m.is in
            let t = known_of m.index m.place m.there in
            let a = at_pc m.index m.place t.0 m.there t.1 in
            let same : t.0 ≡ known_with m.place.point.flow (first_counters m.place.repeats) (need m.index) =
            cc (a.known, a.marked m.labelled) in
            record {
              known = known_with m.place.point.flow (first_counters m.place.repeats) (need m.index);
              there = ap (λ n. slice_get typing n) is.place ∙ t.1 ∙ ap (λ x. Some x) same;
              declares = declares_place m.index m.place l has is;
              within = omega (arith, cost_is l m.index has is.place, need_most instrs plan.budget m.index within);
            }

        after_one : (pc : ℕ) → pc < length code.lines → label_at code pc ≡ None → 0 < pc → IsAfter code pc
        after_one zero lt h pos = absurd (omega (arith, pos))
        after_one (suc pc) lt h pos =
            let n = length_lines whole in
            let before = slice_there whole pc (omega (arith, lt, n, ap length lines_are)) in
            let point_here = slice_there whole (suc pc) (omega (arith, lt, n, ap length lines_are)) in
            let t = known_of pc before.0 before.1 in
            let a = at_pc pc before.0 t.0 before.1 t.1 in
            let next : suc pc ≡ pc + 1 = omega arith in
            let there : instr_at code pc ≡ Some before.0.instr =
            subst (λ ls. option_map (λ l. l.instr) (slice_get ls pc) ≡ Some before.0.instr) (sym lines_are)
            (instr_line whole pc before.0 before.1) in
            record {
              before = pc;
              instr = before.0.instr;
              next = next;
              there = there;
              onward = a.connected point_here.0 (subst (λ n. slice_get whole n ≡ Some point_here.0) next point_here.1)
                  (unlabelled (suc pc) point_here.0 point_here.1 h point_here.0.point.labelled refl);
            }
          where
            unlabelled : (pc : ℕ) (p : PlacedInstr) → slice_get whole pc ≡ Some p → label_at code pc ≡ None → (b : Bool)
                → p.point.labelled ≡ b → p.point.labelled ≡ false
            unlabelled pc p e h true l = let found = label_there pc p e l in let f : None ≡ Some found.label =
                sym h ∙ found.there in cc
            unlabelled pc p e h false l = l

        typed_by : HasOpening code → IsTyped code
        typed_by o = (
          typing,
          record {
            each = length_knowns 0 0 whole ∙ sym (length_lines whole) ∙ sym (ap length lines_are);
            opening = o;
            labels = placed_label;
            safe = safe;
            reached = λ pc lt h. elim (cases_lt 0 pc) [
              | inl pos ↦ after_one pc lt h pos
              | inr le ↦ let zero_pc : pc ≡ 0 = omega (arith, le) in let f : None ≡ Some o.label =
                  sym h ∙ subst (λ n. label_at code n ≡ Some o.label) (sym zero_pc) o.first in cc
            ];
          },
        )

        opening_by : (p : PlacedInstr) (c : Configuration) → slice_get whole 0 ≡ Some p → p.point.labelled ≡ true
            → p.point.flow ≡ (beginning c).flow → p.repeats ≡ 0 → IsSound c → pages_alone plan c ≤ plan.period
            → HasOpening code
        opening_by p c e l flow repeats sound period =
            let found = label_there 0 p e l in
            let has = found_contained code.configurations code.labels 0 found.label found.there in
            let known = known_with p.point.flow (first_counters p.repeats) (need 0) in
            let current : p.point.flow.current ≡ c = ap (λ (x : Flow). x.current) flow in
            record {
              label = found.label;
              known = known;
              first = found.there;
              declares = declares_place 0 p found.label has found.is;
              opening = record {
                initial = record {
                  same = current ∙ sym (ap (λ (x : Flow). x.next) flow);
                  idle = ap (λ (x : Flow). x.pending) flow;
                  unset = ap (λ n. (first_counters n).0) repeats;
                };
                sound = subst IsSound (sym current) sound;
                within_period = subst (λ x. pages_alone plan x ≤ plan.period) (sym current) period;
              };
            }

-- ---- the theorem

pub typed_from : (code : Program) (last : ℕ) (b : Block) (c : Configuration)
    → code.lines ≡ lines_of_placed (all_places code.plan last b (beginning c))
    → AreLabelsOf code.configurations (unpriced_labels 0 (all_places code.plan last b (beginning c))) code.labels
    → CostsItsNeeds code
    → IsSound c → pages_alone code.plan c ≤ code.plan.period → nested b ≤ 8 → IsJudged code.plan b (beginning c)
    → IsWithinBudget code.plan.budget (instrs_of (lines_of_placed (all_places code.plan last b (beginning c))))
    → IsTyped code
typed_from code last b c lines_are labels_are costs sound period deep judged within =
    let s = beginning c in
    let whole = all_places code.plan last b s in
    let st = stand_all whole [] in
    let co = all_connected code.plan last b s refl in
    let holds = all_hold code.plan last b s deep judged in
    let first = first_of_all code.plan last b s in
    let there : slice_get whole 0 ≡ Some first.place = ap (λ xs. slice_get xs 0) first.is in
    let m = opens code.plan last b s deep judged refl in
    let same : m.place ≡ first.place = same_Some m.place first.place (sym m.there ∙ there) in
    typed_by code whole within st co holds lines_are labels_are costs
    (opening_by code whole within st co holds lines_are labels_are costs first.place c there (first.labelled refl)
    first.flow (sym (ap (λ (x : PlacedInstr). x.repeats) same) ∙ m.repeats) sound period)

pub accepted_typed : (s : Tree) (code : Program) → IsAccepted s → IsCodeOf s code → CostsItsNeeds code → IsTyped code
accepted_typed s code a is costs =
    let b = body_of s in
    let c = opening_of s in
    let e : s.header ≡ code.plan = sym is.plan in
    let places_are = ap (λ (p : Plan). all_places p s.last_line b (beginning c)) e in
    typed_from code s.last_line b c (is.lines ∙ ap lines_of_placed places_are)
    (subst (λ ps. AreLabelsOf code.configurations (unpriced_labels 0 ps) code.labels) places_are is.labels) costs
    a.sound
    (subst (λ (p : Plan). pages_alone p c ≤ p.period) e a.within_period) a.repeats
    (subst (λ (p : Plan). IsJudged p b (beginning c)) e a.judged)
    (subst (λ ps. IsWithinBudget code.plan.budget (instrs_of (lines_of_placed ps))) places_are
    (subst (λ (p : Plan). IsWithinBudget p.budget (instrs_of (lines_of_placed (placed_instrs s)))) e a.within))
