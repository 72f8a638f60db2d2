use Rattle.script_tokens.proofs.Words.{◌∙◌, Blank, Nothing, ap, arith, atom_ended, err_from_is_err_and, first_position}
use Rattle.script_tokens.proofs.Words.{lexed, made, sym}
use Rattle.script_tokens.proofs.Lexing.{cut_on, quiet_on, fault_pushed, bad_here, cut_end, fault_at_end, its_fault}
use Rattle.script_tokens.proofs.Lexing.{follows}
use Rattle.script_tokens.proofs.Spans.{within}
use Rattle.script_tokens.proofs.lexer.cut.Goals as goal

pub returns-in_err-push_made-clause-fault : goal.returns-in_err-push_made-clause-fault
returns-in_err-push_made-clause-fault c =
    let p = err_from_is_err_and c.from_residual.result c.from_residual.ensures.1 in
    rw (p.1, p.2) (λ ne.
    ap (lexed c.args.limits Nothing first_position) (sym c.as_bytes-byte-items.ensures.value)
    ∙ fault_pushed c.args.limits (lexed c.args.limits Nothing first_position c.as_bytes-byte-items.result.now)
    c.loop-byte.tokens.items c.push_made.new.tokens.items c.loop-byte.inside c.loop-byte.place
    c.as_bytes-byte-items.result.now c.loop-byte.byte-index c.kind_of-kind.result c.in_err-push_made.field-0.0
    c.loop-byte-test.true c.kind_of-kind.ensures
    (its_fault c.args.limits c.loop-byte.tokens.items c.push_made.new.tokens.items
    (made c.loop-byte.inside c.loop-byte.place c.kind_of-kind.result) c.in_err-push_made.field-0.0
    c.in_err-push_made.ensures ne) c.loop-byte.invariant.so_far)

pub returns-then-is_bad-clause-fault : goal.returns-then-is_bad-clause-fault
returns-then-is_bad-clause-fault c = λ ne.
    ap (lexed c.args.limits Nothing first_position) (sym c.as_bytes-byte-items.ensures.value)
    ∙ bad_here c.args.limits (lexed c.args.limits Nothing first_position c.as_bytes-byte-items.result.now)
    c.loop-byte.tokens.items c.push_made.new.tokens.items c.loop-byte.inside c.loop-byte.place
    c.as_bytes-byte-items.result.now c.loop-byte.byte-index c.kind_of-kind.result c.loop-byte-test.true
    c.kind_of-kind.ensures c.in_ok-push_made.ensures (sym c.is_bad.ensures ∙ c.if-is_bad.true)
    c.loop-byte.invariant.so_far

pub loop-byte-preserved-then-is_quiet : goal.loop-byte-preserved-then-is_quiet
loop-byte-preserved-then-is_quiet c =
    let f = follows c.loop-byte.place c.position_after-place.result c.kind_of-kind.result
    c.position_after-place.ensures in
    record {
      so_far = quiet_on c.args.limits (lexed c.args.limits Nothing first_position c.as_bytes-byte-items.result.now)
          c.loop-byte.tokens.items c.loop-byte.inside c.loop-byte.place c.position_after-place.result
          c.as_bytes-byte-items.result.now c.loop-byte.byte-index c.kind_of-kind.result c.loop-byte-test.true
          c.kind_of-kind.ensures (c.is_quiet.ensures c.if-is_quiet.true) c.position_after-place.ensures
          c.loop-byte.invariant.so_far;
      at = omega (arith, f.at, c.loop-byte.invariant.at);
      lines = omega (arith, f.at, f.line, c.loop-byte.invariant.lines);
      columns = omega (arith, f.at, f.column, c.loop-byte.invariant.columns);
    }

pub loop-byte-preserved : goal.loop-byte-preserved
loop-byte-preserved c =
    let f = follows c.loop-byte.place c.position_after-place-in-loop-byte.result c.kind_of-kind.result
    c.position_after-place-in-loop-byte.ensures in
    record {
      so_far = cut_on c.args.limits (lexed c.args.limits Nothing first_position c.as_bytes-byte-items.result.now)
          c.loop-byte.tokens.items c.push_made.new.tokens.items c.loop-byte.inside c.inside_after-inside.result
          c.loop-byte.place c.position_after-place-in-loop-byte.result c.as_bytes-byte-items.result.now
          c.loop-byte.byte-index c.kind_of-kind.result c.loop-byte-test.true c.kind_of-kind.ensures
          c.in_ok-push_made.ensures (sym c.is_bad.ensures ∙ c.if-is_bad.false) c.inside_after-inside.ensures
          c.position_after-place-in-loop-byte.ensures c.loop-byte.invariant.so_far;
      at = omega (arith, f.at, c.loop-byte.invariant.at);
      lines = omega (arith, f.at, f.line, c.loop-byte.invariant.lines);
      columns = omega (arith, f.at, f.column, c.loop-byte.invariant.columns);
    }

pub returns-in_err-push_atom-clause-fault : goal.returns-in_err-push_atom-clause-fault
returns-in_err-push_atom-clause-fault c =
    let p = err_from_is_err_and c.from_residual-in_err-push_atom.result c.from_residual-in_err-push_atom.ensures.1 in
    rw (p.1, p.2) (λ ne.
    ap (lexed c.args.limits Nothing first_position) (sym c.as_bytes-byte-items.ensures.value)
    ∙ fault_at_end c.args.limits (lexed c.args.limits Nothing first_position c.as_bytes-byte-items.result.now)
    c.loop-byte.tokens.items c.loop-byte.inside c.loop-byte.place c.as_bytes-byte-items.result.now
    c.loop-byte.byte-index c.in_err-push_atom.field-0.0 c.loop-byte-test.false
    (its_fault c.args.limits c.loop-byte.tokens.items c.push_atom.new.tokens.items
    (atom_ended c.loop-byte.inside c.loop-byte.place.at Blank) c.in_err-push_atom.field-0.0
    c.in_err-push_atom.ensures ne) c.loop-byte.invariant.so_far)

pub returns-clause-tokens : goal.returns-clause-tokens
returns-clause-tokens c =
    ap (lexed c.args.limits Nothing first_position) (sym c.as_bytes-byte-items.ensures.value)
    ∙ cut_end c.args.limits (lexed c.args.limits Nothing first_position c.as_bytes-byte-items.result.now)
    c.loop-byte.tokens.items c.push_atom.new.tokens.items c.loop-byte.inside c.loop-byte.place
    c.as_bytes-byte-items.result.now c.loop-byte.byte-index c.loop-byte-test.false c.in_ok-push_atom.ensures
    c.loop-byte.invariant.so_far

pub returns-clause-within : goal.returns-clause-within
returns-clause-within c = within c.args.limits c.args.text.now c.push_atom.new.tokens.items (returns-clause-tokens c)
