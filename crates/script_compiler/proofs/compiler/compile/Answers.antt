use Rattle.script_compiler.proofs.Words.{[], ◌+◌, ◌<◌, ◌∙◌, ◌≡◌, ◌≢◌, ◌≤◌, AreFine, AreLabelsOf, Configuration, Cost}
use Rattle.script_compiler.proofs.Words.{CostsItsNeeds, HasCostAt, IfLimit, IfRefused, IsAccepted, IsCodeOf}
use Rattle.script_compiler.proofs.Words.{IsCostRefused, IsDeepAtMost, IsItemRefused, IsOpeningRefused, IsProgram}
use Rattle.script_compiler.proofs.Words.{IsRefused, IsRefusedIn, IsSound, IsWithinBudget, Item, Line, List, Memory}
use Rattle.script_compiler.proofs.Words.{Passes, Priced, Program, Tabled, UnpricedLabel, ap, arith, beginning, body_of}
use Rattle.script_compiler.proofs.Words.{err_from_is_err_and, false, get_or, inl, inr, instrs_of, length}
use Rattle.script_compiler.proofs.Words.{lines_of_placed, longest, pages_alone, placed_instrs, refl, rules, subst, sym}
use Rattle.script_compiler.proofs.Words.{true, ℕ}
use Rattle.mux_config.specs.Configuration.{nothing}
use Rattle.script_compiler.proofs.Uncosted.{in_uncosted, item_uncosted}
use Rattle.script_compiler.proofs.Rooms.{nested_deep, accepted_within}
use Rattle.script_compiler.proofs.Emitted.{length_lines}
use Rattle.script_compiler.proofs.Spaces.{limit_map}
use Rattle.script_compiler.proofs.Formed.{IsKept, fault_either, parts_formed}
use Rattle.script_compiler.proofs.Making.{opens, of_script, places_are, laid_few, laid_judged, judged_there}
use Rattle.script_compiler.proofs.Making.{over_budget, Parts, lines_are, marks_are, parts_code, parts_cost}
use Rattle.script_compiler.proofs.Making.{parts_accepted}
use Rattle.script_compiler.proofs.Refusing.{refused_map, refused_but_memory}
use Rattle.script_compiler.proofs.compiler.compile.Goals.{After-test_costs, After-new}
use Rattle.script_compiler.proofs.compiler.compile.Goals as goal

-- ---- the items, and the opening

pub returns-in_err-config-clause-why : goal.returns-in_err-config-clause-why
returns-in_err-config-clause-why c =
    let s = c.args.script.now in
    let h : IfRefused c.in_err-config.field-0.0 (λ line cause. IsRefused s line cause) =
    refused_map c.in_err-config.field-0.0 (λ at given k.
    inl (subst (λ (xs : List Item). IsItemRefused xs nothing at given) c.items.ensures.value k))
    c.in_err-config.ensures.why in
    search (rules, h)

pub returns-in_err-config-clause-cost : goal.returns-in_err-config-clause-cost
returns-in_err-config-clause-cost c =
    let h : IfRefused c.in_err-config.field-0.0 (λ line cause. cause ≡ Cost → IsCostRefused c.args.script.now line) =
    refused_map c.in_err-config.field-0.0 (λ at given k e. absurd (item_uncosted _ nothing at given k e))
    c.in_err-config.ensures.why in
    search (rules, h)

pub returns-in_err-test-clause-why : goal.returns-in_err-test-clause-why
returns-in_err-test-clause-why c =
    let s = c.args.script.now in
    let o = opens s c.header-plan.result c.in_ok-config.config _ c.header-plan.ensures.value c.in_ok-config.ensures.made
    c.items.ensures.value in
    let fine : AreFine s.items nothing =
    subst (λ (xs : List Item). AreFine xs nothing) c.items.ensures.value (c.in_ok-config.ensures.fine.0 refl) in
    let h : IfRefused c.in_err-test.field-0.0 (λ line cause. IsRefused s line cause) =
    refused_map c.in_err-test.field-0.0 (λ at given k.
    inr (fine, inl (k.0 ∙ c.begin_line.ensures, of_script o (λ q x. IsOpeningRefused q x given) k.1)))
    c.in_err-test.ensures.why in
    let r = err_from_is_err_and c.from_residual-in_err-test.result c.from_residual-in_err-test.ensures.1 in
    rw (r.1, r.2) h

-- ---- the statements

pub returns-in_err-work-clause-refused : goal.returns-in_err-work-clause-refused
returns-in_err-work-clause-refused c =
    let s = c.args.script.now in
    let fault = c.in_err-work.field-0.0 in
    let o = opens s c.header-plan.result c.in_ok-config.config _ c.header-plan.ensures.value c.in_ok-config.ensures.made
    c.items.ensures.value in
    let h : fault ≢ Memory → IsAccepted s → ⊥ = λ is accepted.
    let judged = laid_judged o accepted.judged in
    fault_either ⊥ fault (λ r. c.in_err-work.ensures.refused r judged)
    (limit_map fault (λ at k limited. limited judged (laid_few o k (accepted_within k s accepted)))
    c.in_err-work.ensures.limited) is in
    search (rules, h)

pub returns-in_err-work-clause-limit : goal.returns-in_err-work-clause-limit
returns-in_err-work-clause-limit c =
    let s = c.args.script.now in
    let o = opens s c.header-plan.result c.in_ok-config.config _ c.header-plan.ensures.value c.in_ok-config.ensures.made
    c.items.ensures.value in
    let h : IfLimit c.in_err-work.field-0.0 (λ _ limit. Passes limit s) =
    limit_map c.in_err-work.field-0.0 (λ at k limited judged within.
    limited (laid_judged o judged) (laid_few o k within)) c.in_err-work.ensures.limited in
    search (rules, h)

pub returns-in_err-work-clause-why : goal.returns-in_err-work-clause-why
returns-in_err-work-clause-why c =
    let s = c.args.script.now in
    let o = opens s c.header-plan.result c.in_ok-config.config _ c.header-plan.ensures.value c.in_ok-config.ensures.made
    c.items.ensures.value in
    let fine : AreFine s.items nothing =
    subst (λ (xs : List Item). AreFine xs nothing) c.items.ensures.value (c.in_ok-config.ensures.fine.0 refl) in
    let opening = of_script o (λ q x. IsSound x × (pages_alone q x ≤ q.period)) (c.in_ok-test.ensures.fine.0 refl) in
    let h : IfRefused c.in_err-work.field-0.0 (λ line cause. IsRefused s line cause) =
    refused_map c.in_err-work.field-0.0 (λ at given k.
    inr (
      fine,
      inr (
        opening.0,
        opening.1,
        inl (of_script o (λ q x. IsRefusedIn q (body_of s) (beginning x) at given) k),
      ),
    )) c.in_err-work.ensures.why in
    search (rules, h)

pub returns-in_err-work-clause-cost : goal.returns-in_err-work-clause-cost
returns-in_err-work-clause-cost c =
    let h : IfRefused c.in_err-work.field-0.0 (λ line cause. cause ≡ Cost → IsCostRefused c.args.script.now line) =
    refused_map c.in_err-work.field-0.0 (λ at given k e. absurd (in_uncosted _ _ _ at given k e))
    c.in_err-work.ensures.why in
    search (rules, h)

-- ---- the costs

-- the needs of an accepted code are within the budget
within_budget : (c : After-test_costs) (pc : ℕ) → c.header-plan.result.budget < get_or c.deref-3.result.now pc 0
    → IsWithinBudget c.args.script.now.header.budget (instrs_of (lines_of_placed (placed_instrs c.args.script.now))) → ⊥
within_budget c pc over within =
    let plan = c.header-plan.result in
    let lines = c.in_ok-work.work.lines.items in
    let o = opens c.args.script.now plan c.in_ok-config.config _ c.header-plan.ensures.value c.in_ok-config.ensures.made
    c.items.ensures.value in
    let each : (pc : ℕ) → get_or c.in_ok-costs.costs.items pc 0 ≡ longest (instrs_of lines) (plan.budget + 1) pc =
    λ pc. c.in_ok-costs.ensures pc ∙ ap (λ (ls : List Line). longest (instrs_of ls) (plan.budget + 1) pc)
    c.deref.ensures.value in
    let same = ap (λ xs. get_or xs pc 0) c.deref-3.ensures.value in
    over_budget o lines c.in_ok-costs.costs.items c.in_ok-work.ensures.lines each pc (omega (arith, over, same)) within

pub returns-in_err-test_costs-clause-refused : goal.returns-in_err-test_costs-clause-refused
returns-in_err-test_costs-clause-refused c =
    let h : c.in_err-test_costs.field-0.0 ≢ Memory → IsAccepted c.args.script.now → ⊥ = λ is accepted.
    let over = c.in_err-test_costs.ensures.refused is in
    within_budget (goal.at.returns-in_err-test_costs-clause-refused c).After-test_costs over.0 over.1 accepted.within in
    search (rules, h)

pub returns-in_err-test_costs-clause-why : goal.returns-in_err-test_costs-clause-why
returns-in_err-test_costs-clause-why c =
    let s = c.args.script.now in
    let o = opens s c.header-plan.result c.in_ok-config.config _ c.header-plan.ensures.value c.in_ok-config.ensures.made
    c.items.ensures.value in
    let fine : AreFine s.items nothing =
    subst (λ (xs : List Item). AreFine xs nothing) c.items.ensures.value (c.in_ok-config.ensures.fine.0 refl) in
    let opening = of_script o (λ q x. IsSound x × (pages_alone q x ≤ q.period)) (c.in_ok-test.ensures.fine.0 refl) in
    let h : IfRefused c.in_err-test_costs.field-0.0 (λ line cause. IsRefused s line cause) =
    refused_but_memory c.in_err-test_costs.field-0.0 (λ at given is k.
    let over = c.in_err-test_costs.ensures.refused is in
    inr (
      fine,
      inr (
        opening.0,
        opening.1,
        inr (
          judged_there o (c.in_ok-work.ensures.judged refl),
          within_budget (goal.at.returns-in_err-test_costs-clause-why c).After-test_costs over.0 over.1,
          k,
        ),
      ),
    ))
    c.in_err-test_costs.ensures.why in
    search (rules, h)

pub returns-in_err-test_costs-clause-cost : goal.returns-in_err-test_costs-clause-cost
returns-in_err-test_costs-clause-cost c =
    let s = c.args.script.now in
    let plan = c.header-plan.result in
    let o = opens s plan c.in_ok-config.config _ c.header-plan.ensures.value c.in_ok-config.ensures.made
    c.items.ensures.value in
    let h : IfRefused c.in_err-test_costs.field-0.0 (λ line cause. cause ≡ Cost → IsCostRefused s line) =
    refused_map c.in_err-test_costs.field-0.0 (λ at given k e.
    let there = subst (λ (ls : List Line). HasCostAt plan.budget ls at)
    (c.deref-2.ensures.value ∙ c.in_ok-work.ensures.lines ∙ ap lines_of_placed (places_are o)) k in
    of_script o (λ q x. HasCostAt q.budget (lines_of_placed (placed_instrs s)) at) there)
    c.in_err-test_costs.ensures.line in
    search (rules, h)

-- ---- the parts of the code

pub labels-requires-clause-deep : goal.labels-requires-clause-deep
labels-requires-clause-deep c =
    subst (λ (ms : List UnpricedLabel). IsDeepAtMost 8 ms) (sym c.in_ok-work.ensures.unpriced)
    (nested_deep c.header-plan.result c.args.script.now.last_line (body_of c.args.script.now)
    (beginning c.in_ok-config.config) (c.in_ok-work.ensures.repeats refl))

parts_are : (c : After-new) → Parts c.args.script.now c.header-plan.result c.in_ok-config.config
    c.in_ok-work.work.lines.items c.in_ok-work.work.unpriced.items c.in_ok-costs.costs.items
    c.in_ok-configs.configs.items c.in_ok-labels.labels.items
parts_are c =
    let plan = c.header-plan.result in
    let unpriced = c.in_ok-work.work.unpriced.items in
    let labels = c.in_ok-labels.labels.items in
    record {
      made_from = opens c.args.script.now plan c.in_ok-config.config _ c.header-plan.ensures.value
          c.in_ok-config.ensures.made c.items.ensures.value;
      emitted = c.in_ok-work.ensures.lines;
      marked = c.in_ok-work.ensures.unpriced;
      each = λ pc. c.in_ok-costs.ensures pc ∙ ap (λ (ls : List Line). longest (instrs_of ls) (plan.budget + 1) pc)
          c.deref.ensures.value;
      within = λ pc. let h = c.in_ok-test_costs.ensures.within refl pc in let e =
          ap (λ xs. get_or xs pc 0) c.deref-3.ensures.value in omega (arith, h, e);
      tabled = subst (λ (t : List Configuration). Tabled [] unpriced t) (sym c.in_ok-configs.ensures.value)
          c.in_ok-work.ensures.table;
      labelled = subst (λ (t : List Configuration). AreLabelsOf t unpriced labels) (sym c.in_ok-configs.ensures.value)
          c.in_ok-labels.ensures.labels;
      priced = subst (λ xs. Priced xs labels) c.deref-4.ensures.value c.in_ok-labels.ensures.costs;
    }

pub promise-requires : goal.promise-requires
promise-requires c =
    let s = c.args.script.now in
    let parts = parts_are (goal.at.promise-requires c).After-new in
    let same = sym c.in-Some.ensures.value in
    let formed = c.in-Some.ensures.within.0 refl in
    let fine : AreFine s.items nothing =
    subst (λ (xs : List Item). AreFine xs nothing) c.items.ensures.value (c.in_ok-config.ensures.fine.0 refl) in
    record {
      formed = subst IsProgram same formed;
      code = subst (λ (p : Program). IsCodeOf s p) same (parts_code parts);
      costs = subst CostsItsNeeds same (parts_cost parts);
      accepted = parts_accepted parts formed fine (c.in_ok-test.ensures.fine.0 refl) (c.in_ok-work.ensures.judged refl)
          (c.in_ok-work.ensures.repeats refl);
    }

pub unreachable-requires : goal.unreachable-requires
unreachable-requires c =
    let s = c.args.script.now in
    let configs = c.in_ok-configs.configs.items in
    let parts = parts_are (goal.at.unreachable-requires c).After-new in
    let kept : IsKept s configs = record {
      judged = judged_there parts.made_from (c.in_ok-work.ensures.judged refl);
      repeats = c.in_ok-work.ensures.repeats refl;
      instructions = let few = c.in_ok-work.ensures.room in let n = ap length (lines_are parts) in let m =
          length_lines (placed_instrs s) in omega (arith, few, n, m);
      labels = let few = c.in_ok-work.ensures.labels in let n = ap length (marks_are parts) in omega (arith, few, n);
      configurations = let few = c.in_ok-work.ensures.configurations in let n =
          ap length c.in_ok-configs.ensures.value in omega (arith, few, n);
    } in
    let formed = parts_formed parts c.items.ensures.formed kept c.in-None.ensures.configurations
    c.in-None.ensures.lines in
    let no : false ≡ true = c.in-None.ensures.within.1 formed in cc
