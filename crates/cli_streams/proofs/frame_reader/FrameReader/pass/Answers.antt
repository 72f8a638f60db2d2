use Rattle.cli_streams.proofs.Words.{◌∙◌, ◌≤◌, Buffered, ap, drop, length, subst, sym}
use Rattle.cli_streams.proofs.ReadingAhead.{later}
use Rattle.cli_streams.proofs.frame_reader.FrameReader.pass.Goals as goal

pub returns-clause-ahead : goal.returns-clause-ahead
returns-clause-ahead g c =
    let within = subst (λ (b : Buffered). c.args.count ≤ length b.ahead) (sym c.self.view_is) c.requires in
    later c.self.inside.start c.args.count c.self.inside.end c.self.inside.buffer.items within
    ∙ ap (λ (b : Buffered). drop c.args.count b.ahead) c.self.view_is
