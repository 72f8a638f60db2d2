use Rattle.cli_scripts.proofs.Words.{HearsNamed, IfOk-weaker, subst}
use Rattle.cli_scripts.proofs.Succeeding.{told}
use Rattle.cli_scripts.proofs.listen_script.show_script.Goals as goal

pub returns-in-Ok-Ok-clause-input : goal.returns-in-Ok-Ok-clause-input
returns-in-Ok-Ok-clause-input g c =
    let heard = c.in-Ok-Ok.ensures.hears in
    let named = subst (HearsNamed heard.0) c.in-Ok-Ok.field-0-is heard.3 in
    IfOk-weaker c.print_named.result _ _
    (λ status script path. told (g.F.Files.known_input c.args.files.now) c.in_ok-pieces.pieces.left
    c.name_of.new.pieces.left heard.0 c.args.request.now c.in-Ok-Ok.named _ status
    (c.in_ok-pieces.ensures.input path) heard.1 heard.2 named script)
    c.print_named.ensures

pub returns-in-Ok-Ok-clause-file : goal.returns-in-Ok-Ok-clause-file
returns-in-Ok-Ok-clause-file g c =
    let heard = c.in-Ok-Ok.ensures.hears in
    let named = subst (HearsNamed heard.0) c.in-Ok-Ok.field-0-is heard.3 in
    IfOk-weaker c.print_named.result _ _
    (λ status script path. told (g.F.Files.known c.args.files.now c.args.request.now.file.now)
    c.in_ok-pieces.pieces.left c.name_of.new.pieces.left heard.0 c.args.request.now c.in-Ok-Ok.named _ status
    (c.in_ok-pieces.ensures.file path) heard.1 heard.2 named script)
    c.print_named.ensures
