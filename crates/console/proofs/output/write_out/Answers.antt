use Rattle.std.proofs.Common.{◌-◌, ◌++◌, length, take, drop, sym, ap, subst, ◌∙◌, arith, length-take}
use Rattle.std.proofs.Math.Seq.{take-add, take-take}
use Rattle.std.specs.Io.KnownBytes.{Appends}
use Rattle.std.proofs.KnownBytes.{Appends-trans}
use Rattle.console.proofs.output.write_out.Goals as goal

pub loop-taken-preserved : goal.loop-taken-preserved
loop-taken-preserved g c =
    let done = c.loop-taken.taken in
    let count = c.in-Ok.count in
    let bytes = c.args.bytes.now in
    let before = c.loop-taken.invariant in
    let fits = c.in-Ok.ensures.bound in
    let most = length-take (length bytes - done) (drop done bytes) in
    let joined = ap (λ l. take done bytes ++ l) (take-take count (length bytes - done) (drop done bytes) (omega arith))
    ∙ sym (take-add done count bytes) in
    (omega arith, subst (Appends _ _) joined (Appends-trans _ _ _ _ _ before.1 c.in-Ok.ensures.bytes))
