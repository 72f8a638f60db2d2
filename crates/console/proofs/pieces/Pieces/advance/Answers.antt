use Rattle.std.proofs.Common.{◌≡◌, ℕ, List, Option, length, take, slice_range, ap, subst, arith}
use Rattle.std.specs.Io.KnownBytes.{Consumes, prepend_known}
use Rattle.console.specs.Reading.{Reading}
use Rattle.console.proofs.Filling.{handed, whole_again}
use Rattle.console.proofs.pieces.Pieces.advance.Goals as goal

pub returns-clause-bytes : goal.returns-clause-bytes
returns-clause-bytes g c =
    let buffer = c.refill.new.buffer in
    let before = c.self.inside.buffer.items in
    let left = ap (λ (r : Reading). r.left) c.self.view_is in
    let kept : length buffer ≡ c.self.inside.buffer.len =
    omega (arith, c.refill.ensures.kept, c.as_mut_slice.ensures.len) in
    rw (whole_again c.self.inside.buffer.len buffer before kept)
    (handed c.args.self.now.left (g.R.Read.remaining c.refill.new.source) buffer c.handed_of-self-inside.result
    c.in_ok-filled.filled c.handed_of-self-inside.ensures.bound
    (subst (λ (o : Option (List ℕ)). Consumes o (g.R.Read.remaining c.refill.new.source)
    (take c.in_ok-filled.filled buffer)) left
    (subst (λ (l : List ℕ). Consumes
    (prepend_known (slice_range l c.self.inside.len c.self.inside.filled) (g.R.Read.remaining c.self.inside.source))
    (g.R.Read.remaining c.refill.new.source) (take c.in_ok-filled.filled buffer)) c.as_mut_slice.ensures.value
    c.in_ok-filled.ensures.bytes)))
