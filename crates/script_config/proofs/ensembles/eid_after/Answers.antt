use Rattle.script_config.proofs.Named.{whole_more, damaged_more}
use Rattle.script_config.proofs.ensembles.eid_after.Goals.{in-Ok, in_default}
use Rattle.script_config.proofs.ensembles.eid_after.Goals as goal

pub loop-fib-preserved : goal.loop-fib-preserved
loop-fib-preserved c =
    elim c.match-check.branch [
      | in-Ok w ↦ rw w.eid-is (whole_more c.args.fibs.now c.loop-fib.fib-index c.args.before c.loop-fib.eid _ _
          c.loop-fib-test.true w.in-Ok.ensures.figs
          w.eid_of_figs-eid.ensures c.loop-fib.invariant)
      | in_default w ↦ rw w.eid-is
          (damaged_more c.args.fibs.now c.loop-fib.fib-index c.args.before c.loop-fib.eid _ c.loop-fib-test.true
          w.in_default.ensures.fault
          c.loop-fib.invariant)
    ]
