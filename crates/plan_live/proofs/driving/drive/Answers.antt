use Rattle.plan_live.proofs.Words.{◌∙◌, GivesLine, List, Option, Playing, Streamed, refl, streamed, streams_at, subst}
use Rattle.plan_live.proofs.Words.{sym, ℕ}
use Rattle.plan_live.proofs.Lines.{going_first, line_bad, too_long, going_line, whole_at, prompt_first, prompt_more}
use Rattle.plan_live.proofs.driving.drive.Goals.{in-Long, in-Line+in_ok-take_line-in-Line}
use Rattle.plan_live.proofs.driving.drive.Goals as goal

pub loop-number-init : goal.loop-number-init
loop-number-init g c =
    let now : Streamed = streams_at g.E.Ends.left g.E.Ends.written c.args.ends.now in
    record {
      going = going_first c.args.options.skip c.args.player.now now;
      flushed = c.requires.flushed;
      prompt = prompt_first c.args.options.skip c.args.player.now now (g.E.Ends.moments c.args.ends.now);
    }

pub returns-in-End-clause-whole : goal.returns-in-End-clause-whole
returns-in-End-clause-whole g c =
    let left = g.E.Ends.left in
    let written = g.E.Ends.written in
    let at = streams_at left written in
    let old : Streamed = at c.args.ends.now in
    let now : Streamed = at c.loop-number.ends in
    let end = c.in-End.ensures.end refl in
    whole_at c.args.options.skip c.args.player.now c.loop-number.player c.loop-number.made old now
    (left c.next.new.self) (written c.next.new.self)
    c.loop-number.invariant.going end.0 end.1 c.in-End.ensures.written

pub loop-number-preserved : goal.loop-number-preserved
loop-number-preserved g c =
    let left = g.E.Ends.left in
    let written = g.E.Ends.written in
    let at = streams_at left written in
    let moments = g.E.Ends.moments in
    let skip : ℕ = c.args.options.skip in
    let p : Playing = c.args.player.now in
    let q : Playing = c.loop-number.player in
    let m : ℕ = c.loop-number.made in
    let old : Streamed = at c.args.ends.now in
    let now : Streamed = at c.loop-number.ends in
    let rest : Option (List ℕ) = left c.next.new.self in
    let going = c.loop-number.invariant.going in
    elim c.match-next.branch [
      | in-Long w ↦
          let long = w.in-Long.ensures.long refl in
          let mid : Streamed = streamed rest (written c.next.new.self) in
          let after : Streamed = at w.report.new.self in
          let bad = line_bad skip q m long.0 mid after (too_long long.0 long.1) w.report.ensures.left
          w.report.ensures.written in
          rw (w.ends-is, w.player-is, w.made-is) (record {
            going = going_line skip p q q m m long.0 old now after rest (written c.next.new.self) going long.2
                w.in-Long.ensures.written bad;
            flushed = w.report.ensures.flushed ∙ w.in-Long.ensures.flushed;
            prompt = prompt_more skip p q m old now (moments c.args.ends.now) (moments c.loop-number.ends)
                (moments c.next.new.self) (moments w.report.new.self) going c.loop-number.invariant.prompt
                w.in-Long.ensures.moments w.report.ensures.moments;
          })
      | in-Line+in_ok-take_line-in-Line w ↦
          let line : List ℕ = w.as_slice-line.result.now in
          let after : Streamed = at w.take_line.new.ends in
          let given : GivesLine now.left line rest =
          subst (λ (l : List ℕ). GivesLine now.left l rest) (sym w.as_slice-line.ensures.value)
          (w.in-Line.ensures.line refl) in
          rw (w.ends-is, w.player-is, w.made-is) (record {
            going = going_line skip p q w.take_line.new.player m w.take_line.new.made line old now after rest
                (written c.next.new.self) going given w.in-Line.ensures.written w.in_ok-take_line-in-Line.ensures.went;
            flushed = w.in_ok-take_line-in-Line.ensures.flushed;
            prompt = prompt_more skip p q m old now (moments c.args.ends.now) (moments c.loop-number.ends)
                (moments c.next.new.self) (moments w.take_line.new.ends) going c.loop-number.invariant.prompt
                w.in-Line.ensures.moments w.take_line.ensures.moments;
          })
    ]

pub returns-in-End-clause-prompt : goal.returns-in-End-clause-prompt
returns-in-End-clause-prompt g c =
    let at = streams_at g.E.Ends.left g.E.Ends.written in
    let moments = g.E.Ends.moments in
    prompt_more c.args.options.skip c.args.player.now c.loop-number.player c.loop-number.made (at c.args.ends.now)
    (at c.loop-number.ends) (moments c.args.ends.now) (moments c.loop-number.ends) (moments c.next.new.self)
    (moments c.next.new.self)
    c.loop-number.invariant.going c.loop-number.invariant.prompt c.in-End.ensures.moments refl

pub returns-in-Failed-clause-prompt : goal.returns-in-Failed-clause-prompt
returns-in-Failed-clause-prompt g c =
    let at = streams_at g.E.Ends.left g.E.Ends.written in
    let moments = g.E.Ends.moments in
    prompt_more c.args.options.skip c.args.player.now c.loop-number.player c.loop-number.made (at c.args.ends.now)
    (at c.loop-number.ends) (moments c.args.ends.now) (moments c.loop-number.ends) (moments c.next.new.self)
    (moments c.next.new.self)
    c.loop-number.invariant.going c.loop-number.invariant.prompt c.in-Failed.ensures.moments refl

pub returns-in_err-take_line-in-Line-clause-prompt : goal.returns-in_err-take_line-in-Line-clause-prompt
returns-in_err-take_line-in-Line-clause-prompt g c =
    let at = streams_at g.E.Ends.left g.E.Ends.written in
    let moments = g.E.Ends.moments in
    prompt_more c.args.options.skip c.args.player.now c.loop-number.player c.loop-number.made (at c.args.ends.now)
    (at c.loop-number.ends) (moments c.args.ends.now) (moments c.loop-number.ends) (moments c.next.new.self)
    (moments c.take_line.new.ends)
    c.loop-number.invariant.going c.loop-number.invariant.prompt c.in-Line.ensures.moments c.take_line.ensures.moments
