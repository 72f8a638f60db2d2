use Rattle.plan_verifier.proofs.Words.{◌∙◌, Flow, flow_at, held, known_at, refl}
use Rattle.plan_verifier.proofs.Answering.{fit_as, both_turned}
use Rattle.plan_verifier.proofs.tracked.TrackedFlow.is_fit_by.Goals as goal

pub returns-in-Never : goal.returns-in-Never
returns-in-Never g c =
    let s : Flow = flow_at c.args.table.now c.args.other.now in
    let t : Flow = record (held g.S.Store.content c.args.self.now.flow) { pending = c.args.pending } in
    fit_as _ _ _ _ _ _ _ (c.needed.ensures (known_at _) (known_at _)) c.in-Never.is refl

pub returns-in-Both : goal.returns-in-Both
returns-in-Both g c =
    let s : Flow = flow_at c.args.table.now c.args.other.now in
    let t : Flow = record (held g.S.Store.content c.args.self.now.flow) { pending = c.args.pending } in
    fit_as _ _ _ _ _ _ _ (c.needed.ensures (known_at s) (known_at t)) c.in-Both.is
    (c.has.ensures ∙ both_turned t.current s.current t.next s.next)

pub returns-in-NextTwice : goal.returns-in-NextTwice
returns-in-NextTwice g c =
    let s : Flow = flow_at c.args.table.now c.args.other.now in
    let t : Flow = record (held g.S.Store.content c.args.self.now.flow) { pending = c.args.pending } in
    fit_as _ _ _ _ _ _ _ (c.needed.ensures (known_at s) (known_at t)) c.in-NextTwice.is
    (c.has_next_twice.ensures ∙ both_turned t.next s.current t.next s.next)
