use Rattle.cli_streams.proofs.Words.{Keeps-trans, left_of}
use Rattle.cli_streams.proofs.Checked.{checks_file}
use Rattle.cli_streams.proofs.MergingFiles.{opened_at}
use Rattle.cli_streams.proofs.check.show_check.Goals as goal

pub returns-in-Ok-end : goal.returns-in-Ok-end
returns-in-Ok-end g c =
    let files = c.args.files.now in
    let opened = opened_at (g.F.Files.known files) (g.F.Files.known_input files) c.in_ok-pieces.pieces.left
    c.args.request.now.file.now c.in_ok-pieces.ensures.input c.in_ok-pieces.ensures.file in
    record {
      success = checks_file c.args.request.now.options _ (left_of c.new-monitor.result.fibs) _ c.in-Ok.ending
          c.status_of.result (Keeps-trans _ c.in_ok-pieces.pieces.left _ opened c.new-monitor.ensures)
          (λ r. let one = c.in-Ok.ensures.checked r in (one.0, one.1)) c.status_of.ensures;
    }
