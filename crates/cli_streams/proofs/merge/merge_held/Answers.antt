use Rattle.cli_streams.proofs.Words.{◌∙◌, ap, arith, length, refl}
use Rattle.cli_streams.proofs.MergingEnds.{one_more, one_of}
use Rattle.cli_streams.proofs.MergingStreams.{kept_on, none_held, none_merged}
use Rattle.cli_streams.proofs.merge.merge_held.Goals as goal

pub loop-frames-init : goal.loop-frames-init
loop-frames-init g c =
    let none = c.requires.first in (
      refl,
      c.requires.sized,
      refl,
      omega (arith, ap length none),
      none_merged _ _ _ _ _ _ _ _ (none_held _ _ none) c.requires.open.0 c.requires.open.1 c.new-merger.ensures,
    )

pub loop-frames-preserved : goal.loop-frames-preserved
loop-frames-preserved g c =
    let inv = c.loop-frames.invariant in
    let way = c.in_ok-make_way.ensures in
    let later = c.in_ok-make_way-2.ensures in
    let read = c.in_ok-read_frame.ensures in
    let held = kept_on (kept_on inv.4 way.kept) later.kept in
    let one = one_of c.loop-frames.frame held inv.0 read.whole c.if-not-branch.false read.reads
    c.take_next.ensures.takes c.fill_frame.ensures.bytes c.fill_frame.ensures.merger in
    let size = later.size ∙ way.size ∙ inv.1 in (
      c.fill_frame.ensures.whole ∙ read.whole ∙ inv.0,
      c.hold.ensures.size ∙ size,
      c.hold.ensures.output ∙ later.output ∙ way.output ∙ inv.2,
      omega (arith, c.hold.ensures.held, later.room, later.size),
      one_more _ held one c.hold.ensures.frame,
    )
