use Rattle.cli_scripts.proofs.Words.{IfOk-weaker}
use Rattle.cli_scripts.proofs.ReadTexts.{of_known}
use Rattle.cli_scripts.proofs.frame_script.show_script_frame.Goals as goal

pub returns-clause-input : goal.returns-clause-input
returns-clause-input g c =
    IfOk-weaker c.show_frame_of.result _ _
    (λ status made path. of_known (g.F.Files.known_input c.args.files.now) 1048581 c.in_ok-bytes.bytes.items
    c.as_slice.result.now _ c.as_slice.ensures.value (c.in_ok-bytes.ensures.input path) made)
    c.show_frame_of.ensures

pub returns-clause-file : goal.returns-clause-file
returns-clause-file g c =
    IfOk-weaker c.show_frame_of.result _ _
    (λ status made path. of_known (g.F.Files.known c.args.files.now c.args.request.now.script.now) 1048581
    c.in_ok-bytes.bytes.items c.as_slice.result.now _ c.as_slice.ensures.value (c.in_ok-bytes.ensures.file path)
    made)
    c.show_frame_of.ensures
