use Rattle.script_tokens.proofs.Words.{◌∙◌, letters, sym}
use Rattle.script_tokens.proofs.Keys.{found_of, first_is}
use Rattle.script_tokens.proofs.FirstKeywords.{nothing_first, key_is_first}
use Rattle.script_tokens.proofs.token_reader.TokenReader.keyword.Goals as goal

pub returns-in-Some-clause-is : goal.returns-in-Some-clause-is
returns-in-Some-clause-is c = λ k rest e. (
    let b = c.in-Some.ensures in
    found_of c.of.result c.in-Some.word.now c.of.ensures.found c.of.ensures.none k
    (first_is c.in-Some.word.now (letters k) b.rest rest (sym b.begins ∙ e))
    )

pub returns-in-None-clause-first : goal.returns-in-None-clause-first
returns-in-None-clause-first c = sym (nothing_first c.args.self.now.lexemes c.in-None.ensures)

pub returns-in-Some-clause-first : goal.returns-in-Some-clause-first
returns-in-Some-clause-first c = key_is_first _ _ _ c.in-Some.ensures c.of.ensures.found c.of.ensures.none
