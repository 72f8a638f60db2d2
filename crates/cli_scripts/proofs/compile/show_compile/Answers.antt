use Rattle.cli_scripts.proofs.Words.{Some}
use Rattle.cli_scripts.proofs.Compiling.{compiles, found_as, written_then_stays}
use Rattle.cli_scripts.proofs.compile.show_compile.Goals as goal

pub returns : goal.returns
returns g c =
    let files = c.args.files.now in
    let input = g.F.Files.known_input files in
    let known = g.F.Files.known files c.args.request.now.script.now in
    let holds =
    written_then_stays c.args.request.now.out.now c.as_slice.result.now _ (g.F.Files.world files)
    (g.F.Files.world c.compile_script.new.files)
    (g.F.Files.world c.write_file.new.files) _
    c.as_slice.ensures.value c.in_ok-found.ensures.files c.in_ok-write_file.ensures.written
    c.report_lines.ensures.world in
    record {
      input = λ path.
          compiles input c.in-Some.found _
          (found_as input c.in_ok-found.field-0 (Some c.in-Some.found) c.in-Some.is (c.in_ok-found.ensures.input path))
          holds;
      file = λ path.
          compiles known c.in-Some.found _
          (found_as known c.in_ok-found.field-0 (Some c.in-Some.found) c.in-Some.is (c.in_ok-found.ensures.script path))
          holds;
    }
