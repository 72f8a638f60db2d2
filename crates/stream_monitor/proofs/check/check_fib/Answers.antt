use Rattle.stream_monitor.proofs.Words.{◌≡◌, ChecksFib, EndsFrameFrom, State, finding_lines, length, rules}
use Rattle.stream_monitor.proofs.Steps.{step_within, step_ended, step_refused, fib_ends, of_result}
use Rattle.stream_monitor.proofs.check.check_fib.Goals as goal

pub returns-in-Ok-true-clause-checked : goal.returns-in-Ok-true-clause-checked
returns-in-Ok-true-clause-checked g c =
    let log = g.M.Monitor.log in
    let new : State = record { checker = c.hear-heard.new.self; tally = c.counted-state.result } in
    of_result c.end_frame.result
    (EndsFrameFrom c.args.options new (log c.tell_findings.new.monitor) (log c.end_frame.new.monitor))
    (ChecksFib c.args.options c.args.fib.now c.args.state.now new (log c.args.monitor.now)
    (log c.end_frame.new.monitor))
    (λ e ends. λ r fibs lines h. fib_ends r c.args.options fibs c.args.fib.now lines new c.in-Some.findings.now _ _ _ e
    (step_ended r c.args.options fibs c.args.fib.now lines c.args.state.now new c.in-Some.findings.now h (search rules)
    c.clear.new.self c.hear-heard.new.report c.clear.ensures c.in-Some.ensures.some
    c.in-Ok-true.field-0 c.in-Ok-true.field-0-test
    (c.in-Ok-true.ensures.added r c.args.options.mode c.args.options.period h.stream) c.counted-state.ensures)
    c.in_ok-tell_findings.ensures.log ends)
    c.end_frame.ensures.ends

pub returns-in-Ok-false-clause-checked : goal.returns-in-Ok-false-clause-checked
returns-in-Ok-false-clause-checked g c = λ r fibs lines h.
    let size : length c.args.fib.now ≡ 32 = search rules in
    let new : State = record { checker = c.hear-heard.new.self; tally = c.counted-state.result } in (
      finding_lines c.in-Some.findings.now,
      c.in_ok-tell_findings.ensures.log,
      step_within r c.args.options fibs c.args.fib.now lines c.args.state.now new c.in-Some.findings.now h size
          c.clear.new.self c.hear-heard.new.report c.clear.ensures c.in-Some.ensures.some
          c.in-Ok-false.field-0 c.in-Ok-false.field-0-test
          (c.in-Ok-false.ensures.added r c.args.options.mode c.args.options.period h.stream)
          c.counted-state.ensures,
    )

pub returns-in-Err-clause-checked : goal.returns-in-Err-clause-checked
returns-in-Err-clause-checked g c = λ r fibs lines h.
    let size : length c.args.fib.now ≡ 32 = search rules in
    let new : State = record { checker = c.hear-heard.new.self; tally = c.counted-state.result } in (
      finding_lines c.in-Some.findings.now,
      c.in_ok-tell_findings.ensures.log,
      step_refused r c.args.options fibs c.args.fib.now lines c.args.state.now new c.in-Some.findings.now h size
          c.clear.new.self c.hear-heard.new.report c.clear.ensures c.in-Some.ensures.some
          c.in-Err.fault c.cause_of.result c.cause_of.ensures.value
          (λ e. c.in-Err.ensures.cut e r c.args.options.mode c.args.options.period h.stream)
          c.in-Err.ensures.limit (λ e. (c.in-Err.ensures.long e).1),
    )
