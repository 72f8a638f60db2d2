use Rattle.stream_monitor.proofs.Words.{ChecksFib, Ending, Gives, LogsNext, Next, Option, subst}
use Rattle.stream_monitor.proofs.Running.{begins, prompt, goes_further, ends_with_fib, ends_within_fib, ends_at_end}
use Rattle.stream_monitor.proofs.check.check_stream.Goals as goal

pub loop-init : goal.loop-init
loop-init g c = begins c.args.options c.start-state.result _ _ _ c.start-state.ensures c.start.ensures.left
    c.start.ensures.log

pub next-requires : goal.next-requires
next-requires g c = record { prompt = prompt c.args.options _ _ c.loop.state _ c.loop.invariant }

pub returns-in-Some-clause-checked : goal.returns-in-Some-clause-checked
returns-in-Some-clause-checked g c =
    let left = g.M.Monitor.left in
    let log = g.M.Monitor.log in
    let read = subst (λ (x : Next). Gives (left c.loop.monitor) (left c.next.new.self) x) c.in-Fib.is
    c.in_ok-fib.ensures.left in
    let given = subst (λ (x : Next). LogsNext (log c.loop.monitor) (log c.next.new.self) x) c.in-Fib.is
    c.in_ok-fib.ensures.log in
    let step = subst (λ (x : Option Ending). ChecksFib c.args.options c.in-Fib.fib c.loop.state c.check_fib.new.state
    (log c.next.new.self) (log c.check_fib.new.monitor) x) c.in-Some.is c.in_ok-ending-in-Fib.ensures.checked in
    ends_with_fib c.args.options _ _ _ _ c.loop.state c.check_fib.new.state _ _ _ c.in-Fib.fib c.in-Some.ending
    c.loop.invariant read given step c.in_ok-ending-in-Fib.ensures.left

pub returns-in-Part-clause-checked : goal.returns-in-Part-clause-checked
returns-in-Part-clause-checked g c =
    let left = g.M.Monitor.left in
    let log = g.M.Monitor.log in
    let read = subst (λ (x : Next). Gives (left c.loop.monitor) (left c.next.new.self) x) c.in-Part.is
    c.in_ok-fib.ensures.left in
    let given = subst (λ (x : Next). LogsNext (log c.loop.monitor) (log c.next.new.self) x) c.in-Part.is
    c.in_ok-fib.ensures.log in
    ends_within_fib c.args.options _ _ _ c.loop.state _ _ c.loop.invariant read given

pub returns-in-End-clause-checked : goal.returns-in-End-clause-checked
returns-in-End-clause-checked g c =
    let left = g.M.Monitor.left in
    let log = g.M.Monitor.log in
    let read = subst (λ (x : Next). Gives (left c.loop.monitor) (left c.next.new.self) x) c.in-End.is
    c.in_ok-fib.ensures.left in
    let given = subst (λ (x : Next). LogsNext (log c.loop.monitor) (log c.next.new.self) x) c.in-End.is
    c.in_ok-fib.ensures.log in
    ends_at_end c.args.options _ _ _ c.loop.state _ _ c.finish.result c.loop.invariant read given c.finish.ensures.ends

pub loop-preserved : goal.loop-preserved
loop-preserved g c =
    let left = g.M.Monitor.left in
    let log = g.M.Monitor.log in
    let read = subst (λ (x : Next). Gives (left c.loop.monitor) (left c.next.new.self) x) c.in-Fib.is
    c.in_ok-fib.ensures.left in
    let given = subst (λ (x : Next). LogsNext (log c.loop.monitor) (log c.next.new.self) x) c.in-Fib.is
    c.in_ok-fib.ensures.log in
    let step = subst (λ (x : Option Ending). ChecksFib c.args.options c.in-Fib.fib c.loop.state c.check_fib.new.state
    (log c.next.new.self) (log c.check_fib.new.monitor) x) c.in_default.is c.in_ok-ending-in-Fib.ensures.checked in
    goes_further _ _ _ _ _ _ _ _ _ _ _ c.loop.invariant read given step c.in_ok-ending-in-Fib.ensures.left
