use Rattle.stream_monitor.proofs.Words.{◌+◌, ◌<◌, ◌∙◌, Gives, IsAtEnd, ap, drop, length, min, prepend_known, subst, sym}
use Rattle.stream_monitor.specs.Buffered.{Buffered, left_of}
use Rattle.stream_monitor.proofs.Taking.{rest_is, takes}
use Rattle.stream_monitor.proofs.fibs.FileFibs.take.Goals as goal

pub returns : goal.returns
returns g c =
    let inside = c.self.inside in
    let piece = inside.pieces.piece in
    let end = subst (λ (b : Buffered). length b.ahead < 32 → IsAtEnd b.behind) (sym c.self.view_is) c.requires.end in
    let to = c.min-self-inside.ensures ∙ ap (λ l. min (length l) (inside.at + 32)) c.piece-piece.ensures in
    subst (λ (b : Buffered). Gives (left_of b) (prepend_known (drop c.min-self-inside.result piece) inside.pieces.left)
    c.next_of-next.result) c.self.view_is
    (takes inside.at c.min-self-inside.result piece _ inside.pieces.left c.next_of-next.result end
    (rest_is inside.at piece c.piece-piece.result.now c.piece-piece.ensures) to c.next_of-next.ensures)
