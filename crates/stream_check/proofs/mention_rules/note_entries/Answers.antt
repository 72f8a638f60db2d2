use Rattle.stream_check.proofs.Words.{◌<◌, arith, common_steps, length, picture_of_heard}
use Rattle.stream_check.proofs.Mentioned.{fits_where, left_more, left_none}
use Rattle.stream_check.proofs.mention_rules.note_entries.Goals as goal

pub slice_bounds-rest-count : goal.slice_bounds-rest-count
slice_bounds-rest-count g c =
    let some : 0 < length c.loop-rest.rest.now = grind (arith, common_steps, c.loop-rest-test.ensures) in
    let fits = fits_where c.args.ext c.args.long c.loop-rest.rest.now some c.loop-rest.invariant.whole in
    omega (arith, fits, c.entry_size.ensures.value)

pub slice_bounds-rest-start : goal.slice_bounds-rest-start
slice_bounds-rest-start g c =
    let some : 0 < length c.loop-rest.rest.now = grind (arith, common_steps, c.loop-rest-test.ensures) in
    let fits = fits_where c.args.ext c.args.long c.loop-rest.rest.now some c.loop-rest.invariant.whole in
    grind (arith, common_steps)

pub loop-rest-preserved : goal.loop-rest-preserved
loop-rest-preserved g c =
    let some : 0 < length c.loop-rest.rest.now = grind (arith, common_steps, c.loop-rest-test.ensures) in
    left_more _ _ _ _ _ _ _ _ _ _ _ _ _ some c.entry_size.ensures.value c.note_entry.ensures c.loop-rest.invariant

pub returns : goal.returns
returns g c =
    left_none c.args.at (picture_of_heard c.args.current.now) c.args.ext c.args.long c.args.entries.now
    c.loop-rest.rest.now c.args.noted.now c.loop-rest.noted (g.R.Report.reported c.args.report.now)
    (g.R.Report.reported c.loop-rest.report)
    (grind (arith, common_steps, c.loop-rest-test.ensures)) c.loop-rest.invariant
