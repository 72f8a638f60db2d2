use Rattle.script_tokens.proofs.Words.{◌∙◌, ◌≡◌, BeginsWith, Keyword, letters, rules, subst, sym}
use denote.Enum.Bare.{same_true}
use Rattle.script_tokens.specs.contracts.keyword.Keyword.{the_type}
use Rattle.script_tokens.proofs.Keys.{itself}
use Rattle.script_tokens.proofs.token_reader.TokenReader.finds.Goals as goal

pub returns-in-Some-clause-begins : goal.returns-in-Some-clause-begins
returns-in-Some-clause-begins c = λ yes.
    let same : c.in-Some.found ≡ c.args.keyword = same_true the_type (search rules) _ _ (sym c.eq.ensures ∙ yes) in
    subst (λ (k : Keyword). BeginsWith c.args.self.now.lexemes (letters k)) same c.in-Some.ensures.begins

pub returns-in-Some-clause-none : goal.returns-in-Some-clause-none
returns-in-Some-clause-none c =
    λ no rest e. itself c.in-Some.found c.args.keyword (sym c.in-Some.is ∙ c.keyword.ensures.is c.args.keyword rest e)
    (sym c.eq.ensures ∙ no)
