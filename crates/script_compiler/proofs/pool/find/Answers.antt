use Rattle.script_compiler.proofs.Words.{◌<◌, ◌≤◌, arith, false≢true, length}
use Rattle.script_compiler.proofs.Rooms.{none_more, none_by_print, none_of_all, as_many}
use Rattle.script_compiler.proofs.pool.find.Goals.{then-other-print+else-is_same, else-other-print}
use Rattle.script_compiler.proofs.pool.find.Goals as goal

pub loop-index-preserved : goal.loop-index-preserved
loop-index-preserved c =
    let many = as_many c.args.configs.now c.args.prints.now c.requires.prints in
    let lt : c.loop-index.index < length c.args.configs.now = omega (arith, many, c.loop-index-test.true) in
    elim c.if-other-print.branch [
      | then-other-print+else-is_same w ↦
          none_more c.args.configs.now c.loop-index.index w.index-configs-index.result c.args.config.now
          w.index-configs-index.is lt (λ h. false≢true (w.if-is_same.ensures.same.1 h)) c.loop-index.invariant
      | else-other-print w ↦ none_by_print c.args.configs.now c.args.prints.now c.loop-index.index c.args.print
          c.args.config.now c.requires.prints c.requires.print c.loop-index-test.true w.if-other-print.false
          c.loop-index.invariant
    ]

pub returns-clause-none : goal.returns-clause-none
returns-clause-none c = λ e.
    let many = as_many c.args.configs.now c.args.prints.now c.requires.prints in
    let le : length c.args.configs.now ≤ c.loop-index.index = omega (arith, many, c.loop-index-test.false) in
    none_of_all c.args.configs.now c.loop-index.index c.args.config.now le c.loop-index.invariant
