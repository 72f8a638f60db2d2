use Rattle.script_front.proofs.Printed.{drop_put}
use Rattle.script_front.proofs.lexemes.put_dropped.Goals as goal

pub returns : goal.returns
returns c = drop_put _ _ _ _ _ _ c.in_ok-push_str.ensures.bytes c.in_ok-put_carrier.ensures c.in_ok-put_in.ensures
