use Rattle.cli_scripts.proofs.Words.{Appends, Some, subst}
use Rattle.cli_scripts.proofs.Compiling.{compiles, found_as}
use Rattle.cli_scripts.proofs.compile.stream_compile.Goals as goal

pub returns : goal.returns
returns g c =
    let input = g.F.Files.known_input c.args.files.now in
    let known = g.F.Files.known c.args.files.now c.args.request.now.script.now in
    let before = g.W.Write.contents c.args.out.now in
    let after = g.W.Write.contents c.write_through.new.out in
    let holds = subst (Appends before after) c.as_slice.ensures.value c.in-Ok.ensures in
    record {
      input = λ path.
          compiles input c.in-Some.found _
          (found_as input c.in_ok-found.field-0 (Some c.in-Some.found) c.in-Some.is (c.in_ok-found.ensures.input path))
          holds;
      file = λ path.
          compiles known c.in-Some.found _
          (found_as known c.in_ok-found.field-0 (Some c.in-Some.found) c.in-Some.is (c.in_ok-found.ensures.script path))
          holds;
    }
