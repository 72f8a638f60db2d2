use Rattle.cli_streams.proofs.Words.{◌*◌, ◌/◌, ◌<◌, ◌≤◌, arith, length}
use Rattle.cli_streams.proofs.Merging.{filled_more}
use Rattle.cli_streams.proofs.merge.fill_frame.Goals as goal

pub loop-index-preserved : goal.loop-index-preserved
loop-index-preserved c =
    let so_far = c.loop-index.invariant in
    let fits : length c.args.frame.now / 32 * 32 ≤ length c.args.frame.now = omega arith in
    let lt : c.loop-index.index < length c.args.frame.now / 32 = omega (arith, c.loop-index-test.true) in
    filled_more c.loop-index.index (length c.args.frame.now / 32) c.args.frame.now c.loop-index.frame
    c.fill_fib.new.frame _ _ _ lt fits so_far c.fill_fib.ensures.fills
