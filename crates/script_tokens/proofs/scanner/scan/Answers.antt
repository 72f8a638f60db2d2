use Rattle.script_tokens.proofs.Words.{◌∙◌, Nothing, arith, drop, lexed, sym}
use Rattle.script_tokens.proofs.Lexing.{Cuts, follows}
use Rattle.script_tokens.proofs.Scanning.{passed_on, stays_open, found_ended, found_brace, bad_found, ended_last}
use Rattle.script_tokens.proofs.Scanning.{none_found}
use Rattle.script_tokens.proofs.scanner.scan.Goals as goal

pub loop-place-preserved : goal.loop-place-preserved
loop-place-preserved c =
    let all : Cuts = lexed c.args.limits Nothing c.args.from (drop c.args.from.at c.args.text.now) in
    let p = c.loop-place.place in
    let q = c.position_after-place.result in
    let f = follows p q c.kind_of-kind.result c.position_after-place.ensures in
    let role = sym c.role_of.ensures ∙ c.in-Passed.is in
    record {
      left = passed_on _ _ _ _ _ _ _ _ c.loop-place-test.true c.kind_of-kind.ensures role c.inside_after-inside.ensures
          c.position_after-place.ensures f.at c.loop-place.invariant.left;
      place = record {
        within = omega (arith, f.at, c.loop-place-test.true);
        line = omega (arith, f.at, f.line, c.loop-place.invariant.place.line);
        column = omega (arith, f.at, f.column, c.loop-place.invariant.place.column);
      };
      begun = stays_open c.args.from.at c.loop-place.inside c.inside_after-inside.result p q c.kind_of-kind.result role
          c.inside_after-inside.ensures f.at c.loop-place.invariant.begun;
    }

pub returns-in-Ends-clause-first : goal.returns-in-Ends-clause-first
returns-in-Ends-clause-first c =
    let all : Cuts = lexed c.args.limits Nothing c.args.from (drop c.args.from.at c.args.text.now) in
    found_ended _ _ _ _ _ _ _ _ c.loop-place-test.true c.kind_of-kind.ensures (sym c.role_of.ensures ∙ c.in-Ends.is)
    c.found.ensures c.loop-place.invariant.left

pub returns-in-Brace-clause-first : goal.returns-in-Brace-clause-first
returns-in-Brace-clause-first c =
    let all : Cuts = lexed c.args.limits Nothing c.args.from (drop c.args.from.at c.args.text.now) in
    let f = follows c.loop-place.place c.position_after-next.result c.kind_of-kind.result
    c.position_after-next.ensures in
    found_brace _ _ _ _ _ _ _ _ c.loop-place-test.true c.kind_of-kind.ensures (sym c.role_of.ensures ∙ c.in-Brace.is)
    c.position_after-next.ensures f.at c.found-in-Brace.ensures c.loop-place.invariant.left

pub returns-in-Bad-clause-first : goal.returns-in-Bad-clause-first
returns-in-Bad-clause-first c =
    let all : Cuts = lexed c.args.limits Nothing c.args.from (drop c.args.from.at c.args.text.now) in (
      bad_found c.args.limits all c.loop-place.inside c.loop-place.place c.args.text.now c.kind_of-kind.result
          c.loop-place-test.true c.kind_of-kind.ensures (sym c.role_of.ensures ∙ c.in-Bad.is)
          c.loop-place.invariant.left,
      λ m. absurd (cc m),
    )

pub returns-in-Atom-clause-first : goal.returns-in-Atom-clause-first
returns-in-Atom-clause-first c =
    let all : Cuts = lexed c.args.limits Nothing c.args.from (drop c.args.from.at c.args.text.now) in
    ended_last _ _ _ _ _ _ _ c.loop-place-test.false c.in-Atom.is c.found-in-Atom.ensures c.loop-place.invariant.left

pub returns-in-Nothing : goal.returns-in-Nothing
returns-in-Nothing c =
    let all : Cuts = lexed c.args.limits Nothing c.args.from (drop c.args.from.at c.args.text.now) in
    record {
      first = none_found c.args.limits all c.loop-place.inside c.loop-place.place c.args.text.now
          c.loop-place-test.false c.in-Nothing.is c.loop-place.invariant.left;
      further = tt;
    }
