use Rattle.schedule_front.proofs.PrintedConditions.{condition_put, first_of}
use Rattle.schedule_front.proofs.lexemes.put_condition.Goals as goal

pub returns-in_ok-put_each_or-in-len1-up : goal.returns-in_ok-put_each_or-in-len1-up
returns-in_ok-put_each_or-in-len1-up c =
    condition_put _ _ _ c.args.condition.now _ c.first-item.result _
    (first_of _ _ c.in-len1-up.len_at_least c.first-item.is) c.as_slice.ensures.value
    c.in_ok-put_tests-in-len1-up.ensures c.in_ok-put_each_or-in-len1-up.ensures
