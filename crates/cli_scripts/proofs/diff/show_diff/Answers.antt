use Rattle.cli_scripts.proofs.Words.{IfOk-weaker}
use Rattle.cli_scripts.proofs.Succeeding.{diffs, of_ok}
use Rattle.cli_scripts.proofs.diff.show_diff.Goals as goal

pub returns : goal.returns
returns g c =
    let known = g.F.Files.known c.args.files.now in
    let after = g.F.Files.known c.opening_in.new.files in
    let from = c.args.request.now.from.now in
    let to = c.args.request.now.to.now in
    let opens = of_ok _ c.in-Ok.opening _ c.in-Ok.is c.in_ok-opening.ensures.opening in
    let opens_too = of_ok _ c.in-Ok-2.opening _ c.in-Ok-2.is c.in_ok-opening-2.ensures.opening in
    record {
      success = IfOk-weaker c.print_plan.result _ _
          (λ status plan. diffs (known from) (known to) (after to) c.in-Ok.opening c.in-Ok-2.opening _ status opens
          (c.in_ok-opening.ensures.known to) opens_too plan)
          c.print_plan.ensures;
    }
