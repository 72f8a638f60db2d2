use Rattle.fib_reader.proofs.Words.{◌∙◌, ◌≢◌, Bool, IfSome, LeavesRoom, Listening, ap, eq-eqb, false, false≢true}
use Rattle.fib_reader.proofs.Words.{hear_entry, subst, sym, true, ℕ}
use Rattle.fib_reader.proofs.Forecast.{leaves_if_next, leaves_if_current}
use Rattle.fib_reader.proofs.receiver.Receiver.new_at_entry.Goals as goal

pub returns-then-next : goal.returns-then-next
returns-then-next c =
    let other : c.args.entry.now.ext ≢ 0 =
    λ e. false≢true (sym (sym c.is_ensemble.ensures.value ∙ c.if-is_ensemble.false)
    ∙ eq-eqb c.args.entry.now.ext 0 e) in
    subst (λ (b : Bool). IfSome c.new_members.result (λ (all : ℕ).
    LeavesRoom c.args.self.now c.args.others all (hear_entry b c.args.entry.now)))
    (sym c.if-next.true)
    (subst (λ (l : Listening). IfSome c.new_members.result
    (λ (all : ℕ). LeavesRoom l c.args.others all (hear_entry true c.args.entry.now)))
    c.self.view_is
    (leaves_if_next _ c.args.others c.args.entry.now c.new_members.result other
    (ap (λ l. l.tuned) c.self.view_is ∙ sym c.is_tuned.ensures ∙ c.if-not-is_tuned.false) c.new_members.ensures))

pub returns-else-next : goal.returns-else-next
returns-else-next c =
    let other : c.args.entry.now.ext ≢ 0 =
    λ e. false≢true (sym (sym c.is_ensemble.ensures.value ∙ c.if-is_ensemble.false)
    ∙ eq-eqb c.args.entry.now.ext 0 e) in
    subst (λ (b : Bool). IfSome c.new_members-else-next.result
    (λ (all : ℕ). LeavesRoom c.args.self.now c.args.others all (hear_entry b c.args.entry.now)))
    (sym c.if-next.false)
    (subst (λ (l : Listening). IfSome c.new_members-else-next.result
    (λ (all : ℕ). LeavesRoom l c.args.others all (hear_entry false c.args.entry.now)))
    c.self.view_is
    (leaves_if_current _ c.args.others c.args.entry.now c.new_members-else-next.result other
    (ap (λ l. l.tuned) c.self.view_is ∙ sym c.is_tuned.ensures ∙ c.if-not-is_tuned.false)
    c.new_members-else-next.ensures))
