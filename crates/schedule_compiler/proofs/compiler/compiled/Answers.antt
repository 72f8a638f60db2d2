use Rattle.std.proofs.Common.{subst}
use Rattle.mux_types.specs.Configuration.{Configuration}
use Rattle.schedule_compiler.specs.Refusals.{IsRefusedAmong}
use Rattle.schedule_compiler.proofs.compiler.compiled.Goals as goal

pub returns-in-Err : goal.returns-in-Err
returns-in-Err c =
    c.confirmed.ensures c.args.start.now
    (subst (λ (items : Configuration). IsRefusedAmong c.args.schedule.now items c.args.start.now
    c.args.search.now.combinations.sets.items c.in-Err.fault) c.requires c.in-Err.ensures)
