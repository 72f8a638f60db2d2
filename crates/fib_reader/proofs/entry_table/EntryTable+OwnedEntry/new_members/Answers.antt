use Rattle.fib_reader.proofs.Words.{◌∙◌, false≢true, identifier_of, sym}
use Rattle.fib_reader.proofs.Keeping.{known_if_found}
use Rattle.fib_reader.proofs.entry_table.EntryTable+OwnedEntry.new_members.Goals as goal

pub returns-then-is_some-clause-new : goal.returns-then-is_some-clause-new
returns-then-is_some-clause-new c =
    let known = known_if_found identifier_of (identifier_of c.args.entry.now) _ c.args.self.now c.get.result
    c.is_some.result
    c.is_some.ensures c.identifier.ensures.value c.get.ensures.value in
    λ new. absurd (false≢true (sym new ∙ sym known ∙ c.if-is_some.true))

pub returns-clause-known : goal.returns-clause-known
returns-clause-known c =
    let known = known_if_found identifier_of (identifier_of c.args.entry.now) _ c.args.self.now c.get.result
    c.is_some.result
    c.is_some.ensures c.identifier.ensures.value c.get.ensures.value in
    λ is. absurd (false≢true (sym c.if-is_some.false ∙ known ∙ is))
