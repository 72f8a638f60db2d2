use Rattle.script_front.proofs.Naming.{added}
use Rattle.script_front.proofs.names.Names.add.Goals as goal

pub returns : goal.returns
returns c =
    rw (c.in_ok-insert.ensures.keys) (rw (← c.self.view_is) (added c.args.name.now c.self.inside.set.keys
    c.in_ok-from_str.field-0 c.in_ok-from_str.ensures.ok (rw (c.self.view_is) c.requires)))
