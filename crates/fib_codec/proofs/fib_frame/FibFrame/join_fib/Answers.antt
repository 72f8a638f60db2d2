use Rattle.fib_codec.proofs.Words.{◌++◌, ◌-◌, ◌≡◌, List, arith, checked, length, sym, take, ℕ}
use Rattle.fib_codec.proofs.U16.{checked_len, joined_len}
use Rattle.fib_codec.proofs.Frames.{written_over, written_fib}
use Rattle.fib_codec.proofs.fib_frame.FibFrame.join_fib.Goals as goal

pub invariant_of-self : goal.invariant_of-self
invariant_of-self g c =
    let frame = c.self.inside in
    let fib : List ℕ = checked (c.args.fig.now ++ take (30 - length c.args.fig.now) c.args.plain.now) in
    let long : length fib ≡ 32 =
    checked_len _ (joined_len c.args.fig.now c.args.plain.now (omega (arith, c.requires.few, c.told-fig))
    (omega (arith, c.told-plain))) in
    let is = written_over _ _ _ _ c.self.invariant (rw c.self.view_is c.requires.there) long in
    rw (c.write_joined.ensures) is.kept

pub returns : goal.returns
returns g c =
    let frame = c.self.inside in
    let fib : List ℕ = checked (c.args.fig.now ++ take (30 - length c.args.fig.now) c.args.plain.now) in
    let long : length fib ≡ 32 =
    checked_len _ (joined_len c.args.fig.now c.args.plain.now (omega (arith, c.requires.few, c.told-fig))
    (omega (arith, c.told-plain))) in
    let is = written_over _ _ _ _ c.self.invariant (rw c.self.view_is c.requires.there) long in
    rw (sym c.self.view_is) (written_fib _ _ _ _ _ is c.write_joined.ensures)
