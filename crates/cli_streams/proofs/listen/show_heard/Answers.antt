use Rattle.cli_streams.proofs.Words.{◌∙◌, ap, sym}
use Rattle.cli_streams.specs.Success.{listen_status}
use Rattle.cli_streams.proofs.Hearing.{listens_file}
use Rattle.cli_streams.proofs.MergingFiles.{opened_at}
use Rattle.cli_streams.proofs.listen.show_heard.Goals as goal

pub returns-in-Ok-heard : goal.returns-in-Ok-heard
returns-in-Ok-heard g c =
    let files = c.args.files.now in
    let opened = opened_at (g.F.Files.known files) (g.F.Files.known_input files) c.in_ok-pieces.pieces.left
    c.args.request.now.file.now c.in_ok-pieces.ensures.input c.in_ok-pieces.ensures.file in
    let hears = c.in-Ok.ensures.hears in
    record {
      success = listens_file _ _ _ hears.0 c.in-Ok.heard c.status_of.result opened hears.1 hears.2 hears.3
          (c.status_of.ensures ∙ ap listen_status (sym c.in-Ok-heard.is));
    }
