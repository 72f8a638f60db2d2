use Rattle.cli_scripts.proofs.Beginning.{begun_whole}
use Rattle.cli_scripts.proofs.compile_from.begun_with.Goals as goal

pub returns-in-Ok-clause-found : goal.returns-in-Ok-clause-found
returns-in-Ok-clause-found g c =
    λ file is.
    begun_whole file c.in_ok-text.text.now c.args.on_air.now.config c.in-Ok.compiled (c.in_ok-text.ensures.text file is)
    c.in-Ok.ensures
