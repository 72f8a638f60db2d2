use Rattle.cli_scripts.proofs.Compiling.{found, refused}
use Rattle.cli_scripts.proofs.compile.compile_bytes.Goals as goal

pub returns-in-Ok-clause-found : goal.returns-in-Ok-clause-found
returns-in-Ok-clause-found g c =
    λ file is. found file c.in_ok-text.text.now c.in-Ok.found (c.in_ok-text.ensures.text file is) c.in-Ok.ensures.found

pub returns-in_ok-show_script_refusal-in_default : goal.returns-in_ok-show_script_refusal-in_default
returns-in_ok-show_script_refusal-in_default g c =
    let why = c.in-Err in
    record {
      found = λ file is.
          refused file c.in_ok-text.text.now why.refusal (c.in_ok-text.ensures.text file is) why.ensures.refused
          (why.ensures.reason c.in_default.not-Memory);
      world = c.show_script_refusal.ensures.world;
    }
