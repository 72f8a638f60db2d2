use Rattle.cli_scripts.proofs.Succeeding.{frames}
use Rattle.cli_scripts.proofs.frame_script.show_frame_of.Goals as goal

pub returns-in_ok-print_frame-in-Ok : goal.returns-in_ok-print_frame-in-Ok
returns-in_ok-print_frame-in-Ok g c =
    λ file is.
    frames file c.in_ok-text.text.now c.args.request.now c.count_of.result _ _ (c.in_ok-text.ensures.text file is)
    c.count_of.ensures.value c.in-Ok.ensures.gives c.in_ok-print_frame-in-Ok.ensures
