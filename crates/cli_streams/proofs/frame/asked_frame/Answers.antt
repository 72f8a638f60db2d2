use Rattle.cli_streams.proofs.Words.{◌∙◌, ◌≡◌, IfSome, List, Option, ap, frame_of, most_bytes, take, ℕ}
use Rattle.cli_streams.proofs.Checked.{has_frame}
use Rattle.cli_streams.proofs.MergingFiles.{at_path}
use Rattle.cli_streams.proofs.frame.asked_frame.Goals as goal

pub returns-clause-frame : goal.returns-clause-frame
returns-clause-frame g c =
    let r = c.args.request.now in
    let files = c.args.files.now in
    let read_bytes = c.in_ok-record.record.items in
    let read = at_path (g.F.Files.known files) (g.F.Files.known_input files) r.config.now
    (λ (x : Option (List ℕ)). IfSome x (λ bytes. read_bytes ≡ take most_bytes bytes)) c.in_ok-record.ensures.input
    c.in_ok-record.ensures.file in
    has_frame r _ read_bytes _ read (c.frame_of.ensures
    ∙ ap (λ (l : List ℕ). frame_of r.layout r.ensemble r.page l) c.as_slice.ensures.value)
