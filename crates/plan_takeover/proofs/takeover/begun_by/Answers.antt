use Rattle.std.proofs.Common.{refl, sym, true≢false}
use Rattle.plan_takeover.proofs.Programs.{is_program}
use Rattle.plan_takeover.proofs.takeover.begun_by.Goals as goal

pub unreachable-requires : goal.unreachable-requires
unreachable-requires c =
    let program = is_program c.args.code.now c.plan-plan.result c.args.on_air.now c.args.by c.in_ok-cost.cost
    c.in_ok-table.table.items c.in-Ok.labels.items c.args.lines.items c.plan-plan.ensures.formed
    c.plan-plan.ensures.value
    (rw (c.in_ok-table.ensures, c.configs.ensures.value) refl) c.in-Ok.ensures.table c.new.ensures.configurations
    c.in-Ok.ensures.labels c.in-Ok.ensures.few c.in-Ok.ensures.near c.requires.leads c.in_ok-cost.ensures.from
    c.in_ok-cost.ensures.to c.requires.some c.requires.few c.new.ensures.lines in
    true≢false (sym (c.in-None.ensures.within.1 program))
