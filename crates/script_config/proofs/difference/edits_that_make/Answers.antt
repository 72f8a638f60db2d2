use Rattle.script_config.proofs.Words.{◌≡◌, ◌≤◌, Edit, List, Transform, edits_that_make, length, nothing, subst, sym}
use Rattle.script_config.proofs.Loops.{made_joined}
use Rattle.script_config.proofs.Counting.{made_few}
use Rattle.script_config.proofs.difference.edits_that_make.Goals as goal

whole : (c : goal.In_ok-new_packets) → c.new_packets.new.edits.items ≡ edits_that_make c.args.config.now
whole c =
    let joined = made_joined c.empty-nothing.result _ _ _ _ _ _ _ c.empty-nothing.ensures c.new-edits.ensures.items
    c.in_ok-new_subs.ensures c.in_ok-grow_services.ensures c.in_ok-new_packets.ensures in
    rw (c.subs.ensures.value, c.services.ensures.value, c.packets.ensures.value) at joined

pub returns-clause-value : goal.returns-clause-value
returns-clause-value c = whole c

pub returns-clause-leads : goal.returns-clause-leads
returns-clause-leads c = subst (λ (es : List Edit). Transform es nothing c.args.config.now) (sym (whole c))
    (c.transforming.ensures.making c.args.config.now c.subs.ensures.configuration)

pub returns-clause-few : goal.returns-clause-few
returns-clause-few c = subst (λ (es : List Edit). length es ≤ 960) (sym (whole c))
    (made_few c.args.config.now c.subs.ensures.configuration)
