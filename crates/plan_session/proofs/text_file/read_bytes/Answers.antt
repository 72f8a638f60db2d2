use Rattle.plan_session.proofs.NoTexts.{no_text_so}
use Rattle.plan_session.proofs.text_file.read_bytes.Goals as goal

pub returns-in-Err-take_piece-clause-not_utf8 : goal.returns-in-Err-take_piece-clause-not_utf8
returns-in-Err-take_piece-clause-not_utf8 g c = λ e.
    let left = g.R.Read.remaining in
    no_text_so _ _ _ _ _ c.loop.invariant c.in-Ok.ensures.bytes.0 (λ rest. c.in-Err-take_piece.ensures.not_utf8 e rest)
