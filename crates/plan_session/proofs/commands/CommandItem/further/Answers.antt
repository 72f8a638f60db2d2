use Rattle.plan_session.proofs.Words.{[], append-nil, command_lexemes, sym}
use Rattle.plan_session.proofs.CommandLexemes.{no_command}
use Rattle.plan_session.proofs.commands.CommandItem.further.Goals as goal

pub returns-in-None-clause-count : goal.returns-in-None-clause-count
returns-in-None-clause-count c =
    λ s rest e. absurd (no_command (command_lexemes s) c.args.word.now rest e c.in-None.ensures.none s []
    (sym (append-nil (command_lexemes s))))
