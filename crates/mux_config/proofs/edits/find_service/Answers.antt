use Rattle.mux_config.proofs.Words.{IsService, service_key, sym}
use Rattle.mux_config.proofs.Keeping.{entry_holds}
use Rattle.mux_config.proofs.edits.find_service.Goals as goal

pub returns-in-Some-clause-formed : goal.returns-in-Some-clause-formed
returns-in-Some-clause-formed c =
    entry_holds IsService service_key c.sid_key.result c.config.inside.services c.in-Some.service.now
    c.config.invariant.services_formed (sym c.in-Some.ensures.value)
