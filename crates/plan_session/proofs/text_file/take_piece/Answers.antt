use Rattle.plan_session.proofs.Words.{[], ◌≡◌, rules}
use Rattle.plan_session.proofs.NoTexts.{nothing}
use Rattle.plan_session.proofs.text_file.take_piece.Goals as goal

pub returns-then-begins_no_text-clause-not_utf8 : goal.returns-then-begins_no_text-clause-not_utf8
returns-then-begins_no_text-clause-not_utf8 c = λ e rest.
    let none : c.args.bytes.now.items ≡ [] = nothing c.args.bytes.now.items (search rules) in
    rw none (c.begins_no_text.ensures c.if-begins_no_text.true rest)
