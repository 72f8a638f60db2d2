use Rattle.cli_scripts.proofs.Words.{List, subst, ℕ}
use Rattle.cli_scripts.proofs.Beginning.{begins}
use Rattle.console.proofs.Worlds.{stays_then_written}
use Rattle.console.specs.World.{Becomes, HasWritten}
use Rattle.cli_scripts.proofs.compile_from.show_compile_from.Goals as goal

pub returns : goal.returns
returns g c =
    let files = c.args.files.now in
    let input = g.F.Files.known_input files in
    let script = g.F.Files.known files c.args.request.now.script.now in
    let now = g.F.Files.known files c.args.request.now.on_air.now in
    let before = g.F.Files.world files in
    let after = g.F.Files.world c.write_file.new.files in
    let out = c.args.request.now.out.now in
    let held = subst (λ (file : List ℕ). Becomes (HasWritten out file) before after) c.as_slice.ensures.value
    (stays_then_written out c.as_slice.result.now before (g.F.Files.world c.begun.new.files) after
    c.in_ok-compiled.ensures.world c.in_ok-write_file.ensures.written) in
    record {
      input = λ path.
          begins input now c.in_ok-compiled.field-0 c.in-Some.compiled _ c.in-Some.is
          (c.in_ok-compiled.ensures.input path) held;
      file = λ path.
          begins script now c.in_ok-compiled.field-0 c.in-Some.compiled _ c.in-Some.is
          (c.in_ok-compiled.ensures.file path) held;
    }
