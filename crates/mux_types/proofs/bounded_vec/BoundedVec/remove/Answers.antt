use Rattle.std.proofs.Common.{◌≡◌, ◌<◌, length, take, drop, rules}
use Rattle.mux_types.proofs.Moved.{taken_out}
use Rattle.mux_types.proofs.bounded_vec.BoundedVec.remove.Goals as goal

pub returns : goal.returns
returns g c =
    let held = take c.self.inside.len c.self.inside.items in
    let len : c.self.inside.len ≡ length held = search rules in
    let lt : c.args.place < length held = rw c.self.view_is c.requires in
    rw (← c.self.view_is) (taken_out held c.to_last.new.values (drop c.self.inside.len c.self.inside.items) c.args.place
    c.self.inside.len lt len c.to_last.ensures)
