use Rattle.cli_scripts.proofs.Beginning.{finds_ok}
use Rattle.cli_scripts.proofs.Compiling.{stays_on}
use Rattle.cli_scripts.proofs.Succeeding.{of_ok}
use Rattle.cli_scripts.proofs.compile_from.begun.Goals as goal

pub returns-in-Ok : goal.returns-in-Ok
returns-in-Ok g c =
    let files = c.args.files.now in
    let input = g.F.Files.known_input files in
    let script = g.F.Files.known files c.args.request.now.script.now in
    let now = g.F.Files.known files c.args.request.now.on_air.now in
    let after = g.F.Files.known c.read_script_input.new.files c.args.request.now.on_air.now in
    let stays = c.in_ok-bytes.ensures.known c.args.request.now.on_air.now in
    let old = g.F.Files.world files in
    let read = g.F.Files.world c.read_script_input.new.files in
    let opened = g.F.Files.world c.opening_in.new.files in
    let opens = of_ok _ c.in-Ok.on_air _ c.in-Ok.is c.in_ok-on_air.ensures.opening in
    record {
      input = λ path.
          finds_ok input now after c.in_ok-bytes.bytes.items c.as_slice.result.now c.in-Ok.on_air c.begun_with.result
          c.as_slice.ensures.value (c.in_ok-bytes.ensures.input path) stays opens c.begun_with.ensures.found;
      file = λ path.
          finds_ok script now after c.in_ok-bytes.bytes.items c.as_slice.result.now c.in-Ok.on_air c.begun_with.result
          c.as_slice.ensures.value (c.in_ok-bytes.ensures.file path) stays opens c.begun_with.ensures.found;
      world =
          stays_on old opened (g.F.Files.world c.begun_with.new.files)
          (stays_on old read opened c.read_script_input.ensures.world c.opening_in.ensures.world)
          c.begun_with.ensures.world;
    }
