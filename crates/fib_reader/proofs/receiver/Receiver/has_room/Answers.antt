use Rattle.fib_reader.proofs.Words.{◌∙◌, hear_fig, hear_figs, sym}
use Rattle.fib_reader.proofs.Forecast.{leaves_both, leaves_fig, leaves_other, leaves_nothing, never_full}
use Rattle.fib_reader.proofs.receiver.Receiver.has_room.Goals as goal

pub loop-fig-preserved-in-Some-new_at_entries : goal.loop-fig-preserved-in-Some-new_at_entries
loop-fig-preserved-in-Some-new_at_entries c =
    λ all more. c.loop-fig.invariant all (rw (c.in-Some.ensures.steps)
    (leaves_both c.args.self.now c.loop-fig.new c.in-Some-new_at_entries.all all (hear_fig c.in-Some.fig)
    (hear_figs c.next.new.self) (leaves_fig c.args.self.now c.loop-fig.new c.in-Some-new_at_entries.all c.in-Some.fig
    c.in-Some-head.head (sym c.head.ensures ∙ c.in-Some-head.is)
    (rw (← c.entries.ensures) c.in-Some-new_at_entries.ensures)) more))

pub loop-fig-preserved : goal.loop-fig-preserved
loop-fig-preserved c =
    λ all more. c.loop-fig.invariant all (rw (c.in-Some.ensures.steps)
    (leaves_both c.args.self.now c.loop-fig.new c.loop-fig.new all (hear_fig c.in-Some.fig) (hear_figs c.next.new.self)
    (leaves_other c.args.self.now c.loop-fig.new c.in-Some.fig (sym c.head.ensures ∙ c.in_default-head.is)) more))

pub returns : goal.returns
returns c =
    λ yes. never_full c.args.self.now c.loop-fig.new (hear_figs c.args.figs)
    (c.loop-fig.invariant c.loop-fig.new (rw (c.in_default.ensures.steps.0)
    (leaves_nothing c.args.self.now c.loop-fig.new)))
