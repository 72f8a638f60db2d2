use Rattle.script_front.proofs.Words.{[], Before, block_of, fold-roll-Statement, fold_out-Statement, rules}
use Rattle.script_front.proofs.Words.{statement_step, string_bytes}
use Rattle.script_front.specs.declared.tree.Statement.TheViews.{the_lemmas}
use Rattle.script_front.proofs.Printed.{sliced, act_put, stop_put, when_put, either_put, repeat_put, forever_put}
use Rattle.script_front.proofs.Printed.{apply_put}
use Rattle.script_front.proofs.printer.+put_statements.Goals as goal

pub put_statement-returns-in_ok-put_basic-in-Act : goal.put_statement-returns-in_ok-put_basic-in-Act
put_statement-returns-in_ok-put_basic-in-Act t c =
    act_put c.args.names.now (string_bytes c.args.out.now) (string_bytes c.put_basic.new.out) c.args.depth c.in-Act.line
    c.in-Act.act _ c.in_ok-put_basic-in-Act.ensures
    (λ b. search (
      rules,
      the_lemmas,
      fold_out-Statement Before (statement_step []),
      fold-roll-Statement Before (statement_step []),
    ))

pub put_statement-returns-in_ok-put_line-in-End : goal.put_statement-returns-in_ok-put_line-in-End
put_statement-returns-in_ok-put_line-in-End t c =
    stop_put c.args.names.now (string_bytes c.args.out.now) (string_bytes c.put_line.new.out) c.args.depth c.in-End.line
    _ c.in_ok-put_line-in-End.ensures
    (λ b. search (
      rules,
      the_lemmas,
      fold_out-Statement Before (statement_step []),
      fold-roll-Statement Before (statement_step []),
    ))

pub put_statement-returns-in_ok-put_line-in-If : goal.put_statement-returns-in_ok-put_line-in-If
put_statement-returns-in_ok-put_line-in-If t c =
    when_put c.args.names.now (string_bytes c.args.out.now) (string_bytes c.put_if.new.out)
    (string_bytes c.put_statements.new.out) (string_bytes c.put_line-in-If.new.out) c.args.depth c.in-If.line
    c.in-If.condition (block_of [] c.in-If.first.items) _
    c.in_ok-put_if-in-If.ensures
    (sliced c.args.names.now _ _ c.args.depth _ _ c.as_slice.ensures.value c.in_ok-put_statements-in-If.ensures)
    c.in_ok-put_line-in-If.ensures
    (λ b. search (
      rules,
      the_lemmas,
      fold_out-Statement Before (statement_step []),
      fold-roll-Statement Before (statement_step []),
    ))

pub put_statement-returns-in_ok-put_line-in-IfElse-2 : goal.put_statement-returns-in_ok-put_line-in-IfElse-2
put_statement-returns-in_ok-put_line-in-IfElse-2 t c =
    either_put c.args.names.now (string_bytes c.args.out.now) (string_bytes c.put_if-in-IfElse.new.out)
    (string_bytes c.put_statements-in-IfElse.new.out) (string_bytes c.put_line-in-IfElse.new.out)
    (string_bytes c.put_statements-in-IfElse-2.new.out) (string_bytes c.put_line-in-IfElse-2.new.out) c.args.depth
    c.in-IfElse.line c.in-IfElse.condition
    (block_of [] c.in-IfElse.first.items) (block_of [] c.in-IfElse.second.items) _ c.in_ok-put_if-in-IfElse.ensures
    (sliced c.args.names.now _ _ c.args.depth _ _ c.as_slice-in-IfElse.ensures.value
    c.in_ok-put_statements-in-IfElse.ensures) c.in_ok-put_line-in-IfElse.ensures
    (sliced c.args.names.now _ _ c.args.depth _ _ c.as_slice-in-IfElse-2.ensures.value
    c.in_ok-put_statements-in-IfElse-2.ensures) c.in_ok-put_line-in-IfElse-2.ensures
    (λ b. search (
      rules,
      the_lemmas,
      fold_out-Statement Before (statement_step []),
      fold-roll-Statement Before (statement_step []),
    ))

pub put_statement-returns-in_ok-put_line-in-Repeat : goal.put_statement-returns-in_ok-put_line-in-Repeat
put_statement-returns-in_ok-put_line-in-Repeat t c =
    repeat_put c.args.names.now (string_bytes c.args.out.now) (string_bytes c.put_repeat.new.out)
    (string_bytes c.put_statements-in-Repeat.new.out) (string_bytes c.put_line-in-Repeat.new.out) c.args.depth
    c.in-Repeat.line c.in-Repeat.times (block_of [] c.in-Repeat.body.items) _
    c.in_ok-put_repeat-in-Repeat.ensures
    (sliced c.args.names.now _ _ c.args.depth _ _ c.as_slice-in-Repeat.ensures.value
    c.in_ok-put_statements-in-Repeat.ensures) c.in_ok-put_line-in-Repeat.ensures
    (λ b. search (
      rules,
      the_lemmas,
      fold_out-Statement Before (statement_step []),
      fold-roll-Statement Before (statement_step []),
    ))

pub put_statement-returns-in_ok-put_line-in-Forever-2 : goal.put_statement-returns-in_ok-put_line-in-Forever-2
put_statement-returns-in_ok-put_line-in-Forever-2 t c =
    forever_put c.args.names.now (string_bytes c.args.out.now) (string_bytes c.put_line-in-Forever.new.out)
    (string_bytes c.put_statements-in-Forever.new.out) (string_bytes c.put_line-in-Forever-2.new.out) c.args.depth
    c.in-Forever.line (block_of [] c.in-Forever.body.items) _
    c.in_ok-put_line-in-Forever.ensures
    (sliced c.args.names.now _ _ c.args.depth _ _ c.as_slice-in-Forever.ensures.value
    c.in_ok-put_statements-in-Forever.ensures) c.in_ok-put_line-in-Forever-2.ensures
    (λ b. search (
      rules,
      the_lemmas,
      fold_out-Statement Before (statement_step []),
      fold-roll-Statement Before (statement_step []),
    ))

pub put_statement-returns-in_ok-put_apply-in-Apply : goal.put_statement-returns-in_ok-put_apply-in-Apply
put_statement-returns-in_ok-put_apply-in-Apply t c =
    apply_put c.args.names.now (string_bytes c.args.out.now) (string_bytes c.put_apply.new.out) c.args.depth
    c.in-Apply.line c.in-Apply.block _ c.in_ok-put_apply-in-Apply.ensures
    (λ b. search (
      rules,
      the_lemmas,
      fold_out-Statement Before (statement_step []),
      fold-roll-Statement Before (statement_step []),
    ))
