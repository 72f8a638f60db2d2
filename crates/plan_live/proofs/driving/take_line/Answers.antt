use Rattle.plan_live.proofs.Words.{◌≢◌, LineWent, List, ListsNone, OnOk, Playing, Step, Streamed, Went, events_of, inl}
use Rattle.plan_live.proofs.Words.{streams_at, subst}
use Rattle.plan_live.specs.declared.line.Unread.{Unread}
use Rattle.plan_live.specs.declared.line.Unread.TheVariants.{Memory}
use Rattle.plan_live.proofs.Going.{ok_then}
use Rattle.plan_live.proofs.Lines.{line_bad}
use Rattle.plan_live.proofs.driving.take_line.Goals as goal

pub returns-in-Ok-clause-went : goal.returns-in-Ok-clause-went
returns-in-Ok-clause-went g c =
    let at = streams_at g.E.Ends.left g.E.Ends.written in
    let skip = c.args.options.skip in
    let q : Playing = c.args.player.now in
    let r : Playing = c.play_line.new.player in
    let m = c.args.made.now in
    let k = c.play_line.new.made in
    let a : Streamed = at c.args.ends.now in
    let d : Streamed = at c.play_line.new.ends in
    let steps : List Step = c.in-Ok.steps.items in
    let went = subst (λ (l : List Step). OnOk c.play_line.result (Went skip q m (events_of l) r k a d))
    c.as_slice.ensures.value c.play_line.ensures.went in
    ok_then c.play_line.result (Went skip q m (events_of steps) r k a d) (LineWent skip q m c.args.line.now r k a d)
    (λ h. record { steps = steps; does = inl c.in-Ok.ensures.found; went = h }) went

pub returns-in-Bad-clause-went : goal.returns-in-Bad-clause-went
returns-in-Bad-clause-went g c =
    let at = streams_at g.E.Ends.left g.E.Ends.written in
    let a : Streamed = at c.args.ends.now in
    let d : Streamed = at c.report.new.self in
    let none : ListsNone c.args.line.now =
    subst (λ (u : Unread). u ≢ Memory → ListsNone c.args.line.now) c.in-Bad.is c.in-Err.ensures.none
    (λ e. absurd cc) in
    line_bad c.args.options.skip c.args.player.now c.args.made.now c.args.line.now a d none c.report.ensures.left
    c.report.ensures.written
