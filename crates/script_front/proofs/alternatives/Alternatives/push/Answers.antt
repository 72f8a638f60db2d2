use Rattle.script_front.proofs.Words.{◌<◌, length, refl, rules, take}
use Rattle.script_front.proofs.Beside.{has_one_more}
use Rattle.script_front.proofs.alternatives.Alternatives.push.Goals as goal

pub invariant_of-self : goal.invariant_of-self
invariant_of-self c =
    let held = take c.self.inside.len c.self.inside.slots in
    let room : length held < 8 = rw c.self.view_is c.requires.room in
    let h = has_one_more c.self.inside.slots held c.self.inside.len c.args.next refl c.self.invariant.0
    c.self.invariant.1 c.self.invariant.2 (search rules) room (rw c.self.view_is c.requires.fits) in
    (h.long, h.kept, h.are)
