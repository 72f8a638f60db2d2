use Rattle.fib_carousel.proofs.Words.{◌+◌, ◌-◌, ◌/◌, ◌∙◌, ◌≡◌, ap, arith, room, sym}
use Rattle.fib_carousel.proofs.Least.{room_low}
use Rattle.fib_carousel.proofs.Runs.{run_done, run_over}
use Rattle.fib_carousel.proofs.pack_state.PackState.run.Goals as goal

pub returns-then-left-fit-clause-value : goal.returns-then-left-fit-clause-value
returns-then-left-fit-clause-value c =
    let all = c.loop-left.invariant in
    let fit : c.from-fit.result ≡ (room c.args.layout c.loop-left.state.fib - c.loop-left.state.used)
    / c.args.shape.size =
    c.from-fit.ensures ∙ ap (λ r. (r - c.loop-left.state.used) / c.args.shape.size) c.room.ensures.value in
    let done = run_done c.args.layout c.args.shape c.loop-left.state c.loop-left.left c.from-fit.result all.behind
    c.requires.some fit c.if-left-fit.true in
    sym done.1 ∙ all.rest

pub loop-left-preserved : goal.loop-left-preserved
loop-left-preserved c =
    let all = c.loop-left.invariant in
    let fit : c.from-fit.result ≡ (room c.args.layout c.loop-left.state.fib - c.loop-left.state.used)
    / c.args.shape.size =
    c.from-fit.ensures ∙ ap (λ r. (r - c.loop-left.state.used) / c.args.shape.size) c.room.ensures.value in
    let over = run_over c.args.layout c.args.shape c.loop-left.state c.loop-left.left c.from-fit.result all.behind
    c.requires.some c.requires.small fit c.if-left-fit.false in
    record {
      behind = record {
        used = omega (arith, c.requires.small, room_low c.args.layout (c.loop-left.state.fib + 1));
        head = all.behind.head;
      };
      fib = omega (arith, all.fib, c.if-left-fit.false);
      rest = sym over ∙ all.rest;
    }
