use Rattle.plan_verifier.proofs.Answering.{same_answer}
use Rattle.plan_verifier.proofs.DecidingFlows.{decides_includes}
use Rattle.plan_verifier.proofs.known.includes.Goals as goal

pub returns : goal.returns
returns c = same_answer _ _ _ c.includes.ensures (decides_includes c.args.counters c.args.others)
