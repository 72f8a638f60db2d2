-- What is known along a code is what a typing of it says.
use Rattle.std.proofs.Common.{◌≡◌, ◌==◌, ℕ, ◌+◌, ◌<◌, ◌≤◌, true, false, List, [], ◌∷◌, ◌++◌, length, drop, get_or}
use Rattle.std.proofs.Common.{slice_get, Option, Some, None, option_map, refl, sym, ap, subst, ◌∙◌, append_assoc}
use Rattle.std.proofs.Common.{append-nil}
use Rattle.std.specs.Prelude.{Result, Ok, Err, IsOk, OnOk, ◌↔◌}
use Rattle.std.proofs.lemmas.Bool.{eqb-true, false≢true}
use Rattle.std.proofs.lemmas.Option.{slice_get-get_or}
use Rattle.std.proofs.lemmas.List.{drop_more, drop_all}
use Rattle.mux_types.specs.Configuration.{nothing}
use Rattle.plan_code.specs.declared.instr.Instr.{Instr}
use Rattle.plan_code.specs.declared.instr.Instr.TheVariants.{Wait, Until, WaitContact, WaitAny, CommitIn, CommitAt}
use Rattle.plan_code.specs.declared.instr.Instr.TheVariants.{Join, Settle, End, Edit, Test, TestTime, Jump, Set, Loop}
use Rattle.plan_code.specs.declared.instr.Line.{Line}
use Rattle.plan_code.specs.declared.flags.Counters.{Counters}
use Rattle.plan_code.specs.declared.plan.Plan.{Plan}
use Rattle.plan_code.specs.declared.label.Label.{Label}
use Rattle.plan_code.specs.Program.{Program, instr_at, label_at}
use Rattle.plan_verifier.specs.Rules.{leaves, IsFine}
use Rattle.plan_verifier.specs.Flows.{Flow, flow_of, known_with, after_instr, HasItsCounter}
use Rattle.plan_verifier.specs.declared.cause.Cause.{Cause}
use Rattle.plan_verifier.proofs.Leaving.{leaves_known}
use Rattle.plan_verifier.specs.Typing.{Known, Declares, IsTyping}
use Rattle.plan_verifier.proofs.Tabled.{found, unlabelled}
use Rattle.plan_explain.specs.declared.warning.Warning.{Warning}
use Rattle.plan_explain.specs.Walking.{or_else, at_label, entered, Knows, at_flow}
use Rattle.plan_explain.specs.ConfigurationChanges.{between, at_opening, at_instr, at_commits}

pub some_same : {A : Type 0} (x y : A) → Some x ≡ Some y → x ≡ y
some_same x y e = cc

-- what a label declares is known there
pub declared : (p : Program) (label : Label) (t : Known) (f : Flow) → Declares p label t
    → at_label p (Some label) f ≡ flow_of t
declared p label t f d =
    let current : or_else (slice_get p.configurations label.cur) f.current ≡ t.current =
    ap (λ o. or_else o f.current) d.current in
    let next : or_else (slice_get p.configurations label.next) f.next ≡ t.next = ap (λ o. or_else o f.next) d.next in
    let pending : label.pending ≡ t.pending = d.pending in
    cc

-- with a label, it is what the label declares
labelled : (p : Program) (typing : List Known) (pc : ℕ) (label : Label) (f : Flow) (t : Known) → IsTyping p typing
    → label_at p pc ≡ Some label → slice_get typing pc ≡ Some t → at_label p (Some label) f ≡ flow_of t
labelled p typing pc label f t h e there =
    let within = found (λ (l : Label). l.pc == pc) p.labels label e in
    let at : label.pc ≡ pc = eqb-true label.pc pc within.1 in
    let typed = h.labels label within.0 in
    let here : slice_get typing pc ≡ Some typed.known =
    subst (λ k. slice_get typing k ≡ Some typed.known) at typed.there in
    let same : typed.known ≡ t = some_same typed.known t (sym here ∙ there) in
    subst (λ u. at_label p (Some label) f ≡ flow_of u) same (declared p label typed.known f typed.declares)

entering : (p : Program) (typing : List Known) (pc : ℕ) (i : Instr) (t u : Known) (f : Flow) (o : Option Label)
    → IsTyping p typing → instr_at p pc ≡ Some i → slice_get typing pc ≡ Some t → f ≡ flow_of (leaves p.plan i t)
    → label_at p (pc + 1) ≡ o → slice_get typing (pc + 1) ≡ Some u → at_label p o f ≡ flow_of u
entering p typing pc i t u f None h at there left e later =
    left ∙ ap (λ v. flow_of v) (sym (unlabelled p typing pc i t u h at there e later))
entering p typing pc i t u f (Some label) h at there left e later = labelled p typing (pc + 1) label f u h e later

-- from an instruction to the next one
pub onward : (p : Program) (typing : List Known) (pc : ℕ) (i : Instr) (t : Known) (f : Flow) → IsTyping p typing
    → instr_at p pc ≡ Some i → slice_get typing pc ≡ Some t → f ≡ flow_of (leaves p.plan i t)
    → Knows p typing (pc + 1) f
onward p typing pc i t f h at there left u later =
    entering p typing pc i t u f (label_at p (pc + 1)) h at there left refl later

-- at the first one
pub at_first : (p : Program) (typing : List Known) (f : Flow) → IsTyping p typing → Knows p typing 0 f
at_first p typing f h t there =
    let o = h.opening in
    rw o.first (labelled p typing 0 o.label f t h o.first there)

-- ---- the opening

opening_of : (p : Program) (begin : ℕ) (typing : List Known) (f : Flow) → IsTyping p typing → Knows p typing 0 f
    → between begin nothing (entered p 0 f).current ≡ at_opening begin typing
opening_of p begin [] f h k =
    let o = h.opening in
    let within = found (λ (l : Label). l.pc == 0) p.labels o.label o.first in
    let typed = h.labels o.label within.0 in
    absurd cc
opening_of p begin (t ∷ ts) f h k = ap (λ (g : Flow). between begin nothing g.current) (k t refl)

pub opened : (p : Program) (begin : ℕ) (typing : List Known) (f : Flow) → IsTyping p typing
    → between begin nothing (entered p 0 f).current ≡ at_opening begin typing
opened p begin typing f h = opening_of p begin typing f h (at_first p typing f h)

-- ---- the commits

-- ---- an instruction that can't be refused

its_counter : (plan : Plan) (i : Instr) (t : Known) → IsFine plan i t → HasItsCounter i t.counters
its_counter plan (Wait n) t h = tt
its_counter plan (Until d) t h = tt
its_counter plan (WaitContact k b) t h = tt
its_counter plan (WaitAny closed opened until frames) t h = tt
its_counter plan (CommitIn d) t h = tt
its_counter plan (CommitAt n) t h = tt
its_counter plan Join t h = tt
its_counter plan Settle t h = tt
its_counter plan End t h = tt
its_counter plan (Edit e) t h = tt
its_counter plan (Test k u) t h = tt
its_counter plan (TestTime from to u) t h = tt
its_counter plan (Jump u) t h = tt
its_counter plan (Set k n) t h = tt
its_counter plan (Loop k u) t h = h

pub leaves_flow : (plan : Plan) (i : Instr) (t : Known) → flow_of (leaves plan i t) ≡ after_instr plan i (flow_of t)
leaves_flow plan i t = ap (λ (k : Known). flow_of k) (leaves_known plan i (flow_of t) t.counters t.allowance)

pub passed : (plan : Plan) (i : Instr) (r : Result (Unit {0}) Cause) (old new : Flow) (t : Known)
    → ((counters : Counters) (allowance : ℕ) → HasItsCounter i counters → IsOk r
    ↔ IsFine plan i (known_with old counters allowance))
    → OnOk r (new ≡ after_instr plan i old) → old ≡ flow_of t → IsFine plan i t → new ≡ flow_of (leaves plan i t)
passed plan i (Ok u) old new t fine left same h = left ∙ ap (λ (f : Flow). after_instr plan i f) same
    ∙ sym (leaves_flow plan i t)
passed plan i (Err cause) old new t fine left same h =
    let here : IsFine plan i (known_with old t.counters t.allowance) =
    subst (λ (f : Flow). IsFine plan i (known_with f t.counters t.allowance)) (sym same) h in
    let impossible : false ≡ true = (fine t.counters t.allowance (its_counter plan i t h)).1 here in
    absurd (false≢true impossible)

-- the warnings so far and those that follow, and what is known at the next instruction
pub record SoFar (p : Program) (old new : List Warning) (pc at : ℕ) (flow : Flow) : Type 0 where
  pub all : (typing : List Known) → IsTyping p typing → new ++ at_commits (drop at p.lines) (drop at typing) ≡ old
      ++ at_commits p.lines typing
  pub known : (typing : List Known) → IsTyping p typing → Knows p typing at flow
  pub place : pc ≡ at

pub none_yet : (p : Program) (old : List Warning) (flow : Flow) → SoFar p old old 0 0 flow
none_yet p old flow = record { all = λ typing h. refl; known = λ typing h. at_first p typing flow h; place = refl }

-- a state is known at each instruction
pub record IsAt (p : Program) (typing : List Known) (i : ℕ) (l : Line) : Type 0 where
  pub known : Known
  pub there : slice_get typing i ≡ Some known
  pub instr : instr_at p i ≡ Some l.instr
  pub cut_lines : drop i p.lines ≡ l ∷ drop (i + 1) p.lines
  pub cut_typing : drop i typing ≡ known ∷ drop (i + 1) typing

known_at : (p : Program) (typing : List Known) (i : ℕ) (l : Line) → IsTyping p typing → i < length p.lines
    → l ≡ get_or p.lines i l → IsAt p typing i l
known_at p typing i l h lt same =
    let within : i < length typing = subst (λ n. i < n) (sym h.each) lt in
    let d : Known = h.opening.known in
    let t : Known = get_or typing i d in
    let there : slice_get typing i ≡ Some t = slice_get-get_or typing i d within in
    let line : slice_get p.lines i ≡ Some l = slice_get-get_or p.lines i l lt ∙ ap Some (sym same) in
    record {
      known = t;
      there = there;
      instr = ap (option_map (λ (x : Line). x.instr)) line;
      cut_lines = drop_more p.lines i l lt ∙ ap (λ (x : Line). x ∷ drop (i + 1) p.lines) (sym same);
      cut_typing = drop_more typing i d within;
    }

-- one more instruction
step_all : (p : Program) (old new more : List Warning) (i : ℕ) (l : Line) (here : Flow) (typing : List Known)
    → (a : IsAt p typing i l) → here ≡ flow_of a.known → more ≡ new ++ at_flow l here
    → new ++ at_commits (drop i p.lines) (drop i typing) ≡ old ++ at_commits p.lines typing → more
    ++ at_commits (drop (i + 1) p.lines) (drop (i + 1) typing) ≡ old ++ at_commits p.lines typing
step_all p old new more i l here typing a is pushed so_far =
    let behind = at_commits (drop (i + 1) p.lines) (drop (i + 1) typing) in
    let said : at_flow l here ≡ at_instr l a.known = ap (λ (f : Flow). at_flow l f) is in
    let step : at_instr l a.known ++ behind ≡ at_commits (drop i p.lines) (drop i typing) =
    rw (a.cut_lines, a.cut_typing) refl in
    ap (λ (ws : List Warning). ws ++ behind) (pushed ∙ ap (λ (ws : List Warning). new ++ ws) said)
    ∙ append_assoc new (at_instr l a.known) behind ∙ ap (λ (ws : List Warning). new ++ ws) step ∙ so_far

pub one_more : (p : Program) (plan : Plan) (ls : List Line) (old new more : List Warning) (pc i : ℕ) (l : Line)
    (flow here left : Flow) → plan ≡ p.plan → ls ≡ p.lines → i < length ls → l ≡ get_or ls i l
    → here ≡ entered p pc flow → more ≡ new ++ at_flow l here
    → ((t : Known) → here ≡ flow_of t → IsFine plan l.instr t → left ≡ flow_of (leaves plan l.instr t))
    → SoFar p old new pc i flow
    → SoFar p old more (pc + 1) (i + 1) left
one_more p plan ls old new more pc i l flow here left planned listed lt_here same_here is pushed passes_here s =
    let lt : i < length p.lines = subst (λ (xs : List Line). i < length xs) listed lt_here in
    let same : l ≡ get_or p.lines i l = subst (λ (xs : List Line). l ≡ get_or xs i l) listed same_here in
    let passes = subst (λ (q : Plan). (t : Known) → here ≡ flow_of t → IsFine q l.instr t
    → left ≡ flow_of (leaves q l.instr t)) planned passes_here in
    let at : here ≡ entered p i flow = is ∙ ap (λ n. entered p n flow) s.place in
    record {
      all = λ typing h.
          let a = known_at p typing i l h lt same in
          let knows : here ≡ flow_of a.known = at ∙ s.known typing h a.known a.there in
          step_all p old new more i l here typing a knows pushed (s.all typing h);
      known = λ typing h.
          let a = known_at p typing i l h lt same in
          let knows : here ≡ flow_of a.known = at ∙ s.known typing h a.known a.there in
          let fine = (h.safe i l.instr a.known a.instr a.there).fine in
          onward p typing i l.instr a.known left h a.instr a.there (passes a.known knows fine);
      place = ap (λ n. n + 1) s.place;
    }

-- no instruction is left
pub all_done : (p : Program) (ls : List Line) (old new : List Warning) (pc i : ℕ) (flow : Flow) (typing : List Known)
    → ls ≡ p.lines → length ls ≤ i → SoFar p old new pc i flow → IsTyping p typing
    → new ≡ old ++ at_commits p.lines typing
all_done p ls old new pc i flow typing listed past_here s h =
    let past : length p.lines ≤ i = subst (λ (xs : List Line). length xs ≤ i) listed past_here in
    let none : at_commits (drop i p.lines) (drop i typing) ≡ [] = rw (drop_all i p.lines past) refl in
    sym (append-nil new) ∙ sym (ap (λ (ws : List Warning). new ++ ws) none) ∙ s.all typing h
