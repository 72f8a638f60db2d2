use Rattle.script_front.proofs.Words.{[], ◌++◌, ◌∙◌, List, ap, block_lines, block_of, bodies, header_lines}
use Rattle.script_front.proofs.Words.{string_bytes, sym, text_of_lines, ℕ}
use Rattle.script_front.proofs.Printed.{script_put}
use Rattle.script_front.proofs.Denoted.{printed_denotes}
use Rattle.script_front.proofs.printer.print.Goals as goal

pub returns-clause-layout : goal.returns-clause-layout
returns-clause-layout c =
    script_put c.args.script.now (string_bytes c.put_header.new.out) (string_bytes c.put_items.new.out)
    (string_bytes c.put_definitions.new.out) (string_bytes c.push_str.new.self)
    (string_bytes c.put_statements.new.out)
    c.header.result c.items.result.now c.names.result.now (bodies c.blocks-2.result.now) c.statements.result.now
    c.header.ensures.value c.items.ensures.value c.names.ensures.value c.blocks-2.ensures.value
    c.statements.ensures.value
    (c.in_ok-put_header.ensures ∙ ap (λ (x : List ℕ). x ++ text_of_lines (header_lines c.header.result))
    c.new-out.ensures.bytes)
    c.in_ok-put_items.ensures c.in_ok-put_definitions.ensures c.in_ok-push_str.ensures.bytes
    (c.in_ok-put_statements.ensures
    ∙ ap (λ (ns : List (List ℕ)). string_bytes c.push_str.new.self
    ++ text_of_lines (block_lines ns 0 (block_of [] c.statements.result.now)))
    (c.names-2.ensures.value ∙ sym c.names.ensures.value))

pub returns-clause-denotes : goal.returns-clause-denotes
returns-clause-denotes c = printed_denotes _ _ c.header.ensures.formed (returns-clause-layout c)
