use Rattle.stream_monitor.proofs.Words.{[], ◌++◌, ◌∙◌, ◌∷◌, ◌≡◌, ap, append_assoc, finding_lines, rules, sym}
use Rattle.stream_monitor.specs.declared.line.Line.TheVariants as lines
use Rattle.stream_monitor.proofs.Logs.{more_lines}
use Rattle.stream_monitor.proofs.check.tell_findings.Goals as goal

pub loop-finding-preserved : goal.loop-finding-preserved
loop-finding-preserved g c =
    let so_far = c.loop-finding.invariant in
    let one = lines.Found c.in-Some.finding.now ∷ [] in
    let cut : c.loop-finding.rest.now ≡ c.in-Some.finding.now ∷ c.in-Some.after.now = search rules in (
      so_far.0 ++ one,
      more_lines _ _ _ so_far.0 one so_far.1 c.in_ok-found.ensures.log,
      append_assoc so_far.0 one (finding_lines c.in-Some.after.now) ∙ ap (λ l. so_far.0 ++ finding_lines l) (sym cut)
          ∙ so_far.2,
      c.found.ensures.left ∙ so_far.3,
    )
