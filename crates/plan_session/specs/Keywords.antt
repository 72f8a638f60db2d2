-- The first tokens of commands, and how many follow. No public contract depends on them.
use Rattle.std.specs.Prelude.{ℕ, List, codes}
use Rattle.plan_session.specs.declared.commands.Keyword.{Keyword}
use Rattle.plan_session.specs.declared.commands.Keyword.TheVariants.{Contact, Run, Next, Break, Clear, Show}

abbrev pub keyword_text : Keyword → List ℕ
keyword_text Contact = codes "contact"
keyword_text Run = codes "run"
keyword_text Next = codes "next"
keyword_text Break = codes "break"
keyword_text Clear = codes "clear"
keyword_text Show = codes "show"

abbrev pub tokens_after : Keyword → ℕ
tokens_after Contact = 2
tokens_after Run = 1
tokens_after Next = 0
tokens_after Break = 1
tokens_after Clear = 0
tokens_after Show = 0
