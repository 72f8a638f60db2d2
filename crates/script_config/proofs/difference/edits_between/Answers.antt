use Rattle.script_config.proofs.Words.{◌≡◌, ◌≤◌, Edit, List, Transform, edits_between, length, subst, sym}
use Rattle.script_config.proofs.FewEdits.{between_few}
use Rattle.script_config.proofs.Loops.{eight_joined}
use Rattle.script_config.proofs.difference.edits_between.Goals as goal

pub returns-clause-value : goal.returns-clause-value
returns-clause-value c =
    let joined =
    eight_joined _ _ _ _ _ _ _ _ _ _ _ _ _ _ _ _ _ c.new-edits.ensures.items c.in_ok-drop_services.ensures
    c.in_ok-cut_services.ensures c.in_ok-drop_packets.ensures c.in_ok-drop_subs.ensures
    c.in_ok-alter_subs.ensures c.in_ok-new_subs.ensures c.in_ok-new_packets.ensures c.in_ok-grow_services.ensures in
    rw (
      c.services.ensures.value,
      c.services-2.ensures.value,
      c.packets.ensures.value,
      c.subs.ensures.value,
      c.subs-2.ensures.value,
      c.subs-3.ensures.value,
      c.packets-2.ensures.value,
      c.services-3.ensures.value,
    ) at joined

pub returns-clause-leads : goal.returns-clause-leads
returns-clause-leads c =
    let value : c.grow_services.new.edits.items ≡ edits_between c.args.from.now c.args.to.now =
    returns-clause-value c in
    subst (λ (es : List Edit). Transform es c.args.from.now c.args.to.now) (sym value)
    (c.transforming.ensures.between c.args.from.now c.args.to.now c.services.ensures.configuration
    c.subs-3.ensures.configuration)

pub returns-clause-few : goal.returns-clause-few
returns-clause-few c =
    let value : c.grow_services.new.edits.items ≡ edits_between c.args.from.now c.args.to.now =
    returns-clause-value c in
    subst (λ (es : List Edit). length es ≤ 2048) (sym value)
    (between_few c.args.from.now c.args.to.now c.services.ensures.configuration c.subs-3.ensures.configuration)
