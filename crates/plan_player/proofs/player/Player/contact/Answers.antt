use Rattle.plan_player.proofs.Words.{◌∙◌, Contact, Playing, State, ap, arith, happens, state_of}
use Rattle.plan_player.proofs.FrameFacts.{contact_goes}
use Rattle.plan_player.proofs.player.Player.contact.Goals as goal

pub invariant_of-self : goal.invariant_of-self
invariant_of-self g c =
    let p = c.self.inside.code.now in
    let s = state_of g.S.Store.content c.self.inside.machine in
    let going = contact_goes p s c.self.inside.steps c.self.inside.pages c.args.contact c.args.closed c.self.invariant
    (omega (arith, c.get-number.ensures.value, c.get-number.ensures.in_range)) in
    rw (c.set_contact.ensures p) going

pub returns-clause-played : goal.returns-clause-played
returns-clause-played g c =
    let p = c.self.inside.code.now in
    let s = state_of g.S.Store.content c.self.inside.machine in
    let going = contact_goes p s c.self.inside.steps c.self.inside.pages c.args.contact c.args.closed c.self.invariant
    (omega (arith, c.get-number.ensures.value, c.get-number.ensures.in_range)) in
    rw (c.set_contact.ensures p) going.played

pub returns-clause-state : goal.returns-clause-state
returns-clause-state g c =
    let p = c.self.inside.code.now in
    let e = c.set_contact.ensures p in
    ap (λ (t : State). let r : Playing = record { code = p; state = t; steps = c.self.inside.steps } in r) e
    ∙ ap (λ (x : Playing). let r : Playing =
    record x { state = happens x.code x.state (Contact c.args.contact c.args.closed) } in r) c.self.view_is
