use Rattle.script_compiler.proofs.Words.{◌+◌, ◌∙◌, ◌≡◌, Some, StepsTo, continues, false, inl, inr, suspends, sym}
use Rattle.script_compiler.proofs.Words.{target_of, true}
use Rattle.script_compiler.proofs.Cycles.{grows_both}
use Rattle.script_compiler.proofs.Putting.{on_ok_map}
use Rattle.script_compiler.proofs.cost.Reached.add_following.Goals as goal

pub returns : goal.returns
returns c =
    let i = c.args.instr.now in
    let pc = c.args.pc in
    let s : suspends i ≡ false = sym c.suspends.ensures ∙ c.if-suspends.false in
    let old = c.args.self.now in
    let mid = c.add_target.new.self in
    let new = c.add_next.new.self in
    on_ok_map c.add_next.result (λ h.
    grows_both old.places.items mid.places.items new.places.items old.waiting.items mid.waiting.items new.waiting.items
    (λ k. target_of i ≡ Some k) (λ k. (continues i ≡ true) × (k ≡ pc + 1)) (StepsTo i pc)
    (λ k x. (s, inr x)) (λ k x. (s, inl x)) (λ k x. elim x.1 [ inl y ↦ inr y | inr y ↦ inl y ])
    c.in_ok-add_target.ensures h) c.add_next.ensures
