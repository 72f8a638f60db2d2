use Rattle.cli_scripts.proofs.Succeeding.{has_opening}
use Rattle.cli_scripts.proofs.openings.opening_of_bytes.Goals as goal

pub returns-in-Ok-clause-opening : goal.returns-in-Ok-clause-opening
returns-in-Ok-clause-opening c =
    λ file is. has_opening file c.in_ok-text.text.now c.in-Ok.opening (c.in_ok-text.ensures.text file is)
    c.in-Ok.ensures.opens
