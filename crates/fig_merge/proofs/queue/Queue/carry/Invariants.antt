use Rattle.fig_merge.proofs.Words.{◌+◌, ◌-◌, ◌≡◌, ◌≤◌, drop, fig_agrees, length, take}
use Rattle.fig_merge.proofs.Carrying.{IsPassed}
use Rattle.fig_merge.proofs.queue.Queue.carry.Given as goal

abbrev pub invariant-loop : goal.invariant-loop
invariant-loop l =
    let figs = l.self-inside.figs.items in
    record {
      passed : IsPassed (fig_agrees l.current) (take l.front l.initial.fib) l.initial.self-inside.figs.items
          (30 - l.front)
          (take l.used l.fib) (take l.at figs) (drop l.at figs) (30 - l.used) l.figs l.stale;
      ahead : l.at + (l.end - l.counter) ≡ length figs;
      few : l.figs + l.stale ≤ l.counter;
      within : l.used ≤ 30;
      whole : length l.fib ≡ 32;
    }
