use Rattle.mux_config.proofs.Words.{◌+◌, ◌<◌, ◌∙◌, ap, arith, each_pushed, each_weaker, err_from_is_err_and}
use Rattle.mux_config.proofs.Words.{length_push, rules}
use Rattle.mux_config.proofs.ReadingLoops.{member_fault, member_next, members_done}
use Rattle.mux_config.proofs.record_reader.members.Goals as goal

pub returns-in_err-member-clause-read : goal.returns-in_err-member-clause-read
returns-in_err-member-clause-read g c =
    let p = err_from_is_err_and c.from_residual.result c.from_residual.ensures.1 in
    rw (p.1, p.2) (member_fault g.T.Keyed.key (g.T.Member.member_at c.loop.reader.total) c.loop.low c.loop.members
    c.args.count c.loop.counter c.loop.reader.rest _ c.in_err-member.field-0.0 c.loop-test.true
    c.loop.invariant.0 c.in_err-member.ensures.read)

pub append-requires : goal.append-requires
append-requires g c =
    let key = g.T.Keyed.key in
    let ordered = c.in_ok-member.ensures.ordered in (
      search rules,
      (
        each_weaker (λ x. key x < c.loop.low) (λ x. key x < key c.in_ok-member.member)
            (λ x h. omega (arith, h, ordered)) c.loop.members c.loop.invariant.3,
        omega (arith, c.loop.invariant.1, c.loop-test.true, c.requires),
      ),
    )

pub loop-preserved : goal.loop-preserved
loop-preserved g c =
    let key = g.T.Keyed.key in
    let x = c.in_ok-member.member in
    let ordered = c.in_ok-member.ensures.ordered in
    let total = c.in_ok-member.ensures.total in
    rw (c.append.ensures, total, c.key-low.ensures) (
      member_next key (g.T.Member.member_at c.loop.reader.total) c.loop.low c.loop.members c.args.count c.loop.counter
          c.loop.reader.rest _ x c.read.new.reader.rest c.loop-test.true
          c.loop.invariant.0 c.in_ok-member.ensures.read,
      length_push c.loop.members x ∙ ap (λ n. n + 1) c.loop.invariant.1,
      c.loop.invariant.2,
      each_pushed (λ y. key y < key x + 1) c.loop.members x
          (each_weaker (λ y. key y < c.loop.low) (λ y. key y < key x + 1) (λ y h. omega (arith, h, ordered))
          c.loop.members c.loop.invariant.3) (omega arith),
    )

pub returns-clause-read : goal.returns-clause-read
returns-clause-read g c =
    members_done g.T.Keyed.key (g.T.Member.member_at c.loop.reader.total) c.loop.low c.loop.members c.args.count
    c.loop.counter c.loop.reader.rest _ (omega (arith, c.loop-test.false)) c.loop.invariant.0
