use Rattle.script_compiler.proofs.Words.{[], ◌++◌, ◌∙◌, ◌∷◌, ◌≡◌, GrowsBy, Line, Option, StepsTo, ap, arith, instrs_of}
use Rattle.script_compiler.proofs.Words.{option_to_list, slice_get_past, subst, sym, ℕ}
use Rattle.script_compiler.proofs.Cycles.{step_by, step_past}
use Rattle.script_compiler.proofs.Paths.{instrs_length, instr_at}
use Rattle.script_compiler.proofs.cost.Reached.step.Goals as goal

pub returns-in_ok-add_following-clause-onward : goal.returns-in_ok-add_following-clause-onward
returns-in_ok-add_following-clause-onward c = λ _ pc n s.
    let lines = c.args.lines.now in
    let old = c.args.self.now in
    let ws = c.pop.new.self.items in
    let place = c.in-Some.place in
    let line = c.index-lines-place.result in
    let e : old.waiting.items ≡ ws ++ place ∷ [] = c.pop.ensures.items
    ∙ ap (λ (r : Option ℕ). ws ++ option_to_list r) c.in-Some.is in
    let there = instr_at lines place line c.index-lines-place.is c.if-place-lines.true in
    let grows = subst (λ (l : Line). GrowsBy old.places.items c.add_following.new.self.places.items ws
    c.add_following.new.self.waiting.items (StepsTo l.instr place)) (sym c.index-lines-place.is)
    c.in_ok-add_following.ensures in
    step_by (instrs_of lines) pc n old.places.items c.add_following.new.self.places.items old.waiting.items ws
    c.add_following.new.self.waiting.items place line.instr there e s grows

pub returns-else-place-lines-clause-onward : goal.returns-else-place-lines-clause-onward
returns-else-place-lines-clause-onward c = λ _ pc n s.
    let lines = c.args.lines.now in
    let old = c.args.self.now in
    let ws = c.pop.new.self.items in
    let place = c.in-Some.place in
    let e : old.waiting.items ≡ ws ++ place ∷ [] = c.pop.ensures.items
    ∙ ap (λ (r : Option ℕ). ws ++ option_to_list r) c.in-Some.is in
    let long = instrs_length lines in
    let without_label = slice_get_past (instrs_of lines) place (omega (arith, c.if-place-lines.false, long)) in
    step_past (instrs_of lines) pc n old.places.items old.waiting.items ws place without_label e s
