use Rattle.script_compiler.proofs.Words.{[], ◌++◌, ◌<◌, ◌∷◌, ◌≡◌, arith, false, get_or, length, refl, rules}
use Rattle.script_compiler.proofs.Cycles.{grows_one}
use Rattle.script_compiler.proofs.cost.Reached.add.Goals as goal

pub returns : goal.returns
returns c =
    let ps = c.args.self.now.places.items in
    let ws = c.args.self.now.waiting.items in
    let vs = c.push.new.self.items in
    let place = c.args.place in
    let lt : place < length ps = omega (arith, c.if-place-len.false, c.len.ensures, c.args.self.now.places.ok.0) in
    let off : get_or ps place c.index.result.now ≡ false = search (rules, c.index.ensures, c.if-index.false) in
    let f : vs ≡ ws ++ place ∷ [] = c.in_ok-push.ensures.items in
    grows_one ps _ ws vs place c.index.result.now lt off refl f
