use Rattle.script_config.proofs.HearingAgain.{by_laws}
use Rattle.script_config.proofs.laws.heard_again.Goals as goal

pub returns : goal.returns
returns c =
    by_laws c.pages.ensures.each c.carried.ensures.pageable c.carried.ensures.valid c.carried.ensures.heard
    c.carried.ensures.ensemble c.pages.ensures.fibs c.ensemble.ensures
