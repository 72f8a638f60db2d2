use Rattle.std.proofs.Common.{subst}
use Rattle.mux_types.specs.Configuration.{Configuration}
use Rattle.schedule_verifier.specs.Playing.{PlaysAsScheduled}
use Rattle.schedule_compiler.proofs.compiler.compile_schedule.Goals as goal

pub returns-clause-plays : goal.returns-clause-plays
returns-clause-plays c =
    subst (λ (items : Configuration). PlaysAsScheduled c.args.schedule.now items c.in_ok-implementing.field-0)
    c.in_ok-items.ensures.made c.in_ok-implementing.ensures
