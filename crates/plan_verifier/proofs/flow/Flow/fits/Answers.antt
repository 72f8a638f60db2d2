use Rattle.plan_verifier.proofs.Words.{Flow, held, known_at, refl}
use Rattle.plan_verifier.proofs.Answering.{fit_as}
use Rattle.plan_verifier.proofs.flow.Flow.fits.Goals as goal

pub returns-in-Never-clause-fits : goal.returns-in-Never-clause-fits
returns-in-Never-clause-fits g c =
    let s : Flow = held g.S.Store.content c.args.self.now in
    let t : Flow = record {
      current = g.T.Store.content c.args.current.now;
      next = g.T.Store.content c.args.next.now;
      pending = c.args.pending;
    } in
    fit_as _ _ _ _ _ _ _ (c.needed.ensures (known_at _) (known_at _)) c.in-Never.is refl

pub returns-in-Both-clause-fits : goal.returns-in-Both-clause-fits
returns-in-Both-clause-fits g c =
    let s : Flow = held g.S.Store.content c.args.self.now in
    let t : Flow = record {
      current = g.T.Store.content c.args.current.now;
      next = g.T.Store.content c.args.next.now;
      pending = c.args.pending;
    } in
    fit_as _ _ _ _ _ _ _ (c.needed.ensures (known_at _) (known_at _)) c.in-Both.is c.has.ensures

pub returns-in-NextTwice-clause-fits : goal.returns-in-NextTwice-clause-fits
returns-in-NextTwice-clause-fits g c =
    let s : Flow = held g.S.Store.content c.args.self.now in
    let t : Flow = record {
      current = g.T.Store.content c.args.current.now;
      next = g.T.Store.content c.args.next.now;
      pending = c.args.pending;
    } in
    fit_as _ _ _ _ _ _ _ (c.needed.ensures (known_at _) (known_at _)) c.in-NextTwice.is c.has-in-NextTwice.ensures
