use Rattle.fib_carousel.proofs.Words.{◌*◌, ◌+◌, ◌≡◌, ◌≤◌, steps}
use Rattle.fib_carousel.proofs.Runs.{IsBehind}
use Rattle.fib_carousel.proofs.pack_state.PackState.run.Given as goal

abbrev pub invariant-loop-left : goal.invariant-loop-left
invariant-loop-left l = record {
  behind : IsBehind l.layout l.shape l.state;
  fib : l.state.fib + 2 * l.left ≤ l.fn.self.fib + 2 * l.count;
  rest : steps l.layout l.shape l.left l.state ≡ steps l.layout l.shape l.count l.fn.self;
}

abbrev pub decreases-loop-left : goal.decreases-loop-left
decreases-loop-left l = l.left
