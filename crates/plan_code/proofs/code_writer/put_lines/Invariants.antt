use Rattle.plan_code.proofs.Words.{◌++◌, ◌≡◌, flat_map, line_bytes, take}
use Rattle.plan_code.proofs.code_writer.put_lines.Given as goal

abbrev pub invariant-loop-line : goal.invariant-loop-line
invariant-loop-line l = l.out.items ≡ l.fn.out.items ++ flat_map line_bytes (take l.line-index l.lines)
