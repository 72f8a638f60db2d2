use Rattle.cli_scripts.proofs.Words.{Appends, subst}
use Rattle.cli_scripts.proofs.Beginning.{begins}
use Rattle.cli_scripts.proofs.compile_from.stream_compile_from.Goals as goal

pub returns : goal.returns
returns g c =
    let files = c.args.files.now in
    let input = g.F.Files.known_input files in
    let script = g.F.Files.known files c.args.request.now.script.now in
    let now = g.F.Files.known files c.args.request.now.on_air.now in
    let before = g.W.Write.contents c.args.out.now in
    let after = g.W.Write.contents c.write_through.new.out in
    let held = subst (Appends before after) c.as_slice.ensures.value c.in-Ok.ensures in
    record {
      input = λ path.
          begins input now c.in_ok-compiled.field-0 c.in-Some.compiled _ c.in-Some.is
          (c.in_ok-compiled.ensures.input path) held;
      file = λ path.
          begins script now c.in_ok-compiled.field-0 c.in-Some.compiled _ c.in-Some.is
          (c.in_ok-compiled.ensures.file path) held;
    }
