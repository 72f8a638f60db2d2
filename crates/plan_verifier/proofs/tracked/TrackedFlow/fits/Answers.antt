use Rattle.plan_verifier.proofs.Words.{Flow, flow_at, held, known_at, refl}
use Rattle.plan_verifier.proofs.Answering.{fit_as}
use Rattle.plan_verifier.proofs.tracked.TrackedFlow.fits.Goals as goal

pub returns-in-Never-clause-fits : goal.returns-in-Never-clause-fits
returns-in-Never-clause-fits g c =
    let s : Flow = held g.S.Store.content c.args.self.now.flow in
    let t : Flow = flow_at c.args.table.now c.args.other.now in
    fit_as _ _ _ _ _ _ _ (c.needed.ensures (known_at _) (known_at _)) c.in-Never.is refl

pub returns-in-Both-clause-fits : goal.returns-in-Both-clause-fits
returns-in-Both-clause-fits g c =
    let s : Flow = held g.S.Store.content c.args.self.now.flow in
    let t : Flow = flow_at c.args.table.now c.args.other.now in
    fit_as _ _ _ _ _ _ _ (c.needed.ensures (known_at _) (known_at _)) c.in-Both.is c.has.ensures

pub returns-in-NextTwice-clause-fits : goal.returns-in-NextTwice-clause-fits
returns-in-NextTwice-clause-fits g c =
    let s : Flow = held g.S.Store.content c.args.self.now.flow in
    let t : Flow = flow_at c.args.table.now c.args.other.now in
    fit_as _ _ _ _ _ _ _ (c.needed.ensures (known_at _) (known_at _)) c.in-NextTwice.is c.has-in-NextTwice.ensures
