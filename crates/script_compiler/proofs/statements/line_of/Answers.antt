use Rattle.script_compiler.proofs.Words.{refl, subst, sym}
use Rattle.script_compiler.specs.Refused.{IsLine}
use Rattle.script_compiler.proofs.Trees.{is_act, is_end, is_if, is_if_else, is_repeat, is_forever, is_apply}
use Rattle.script_compiler.proofs.statements.line_of.Goals as goal

pub returns-in-Act : goal.returns-in-Act
returns-in-Act c = λ table rest. subst (λ b. IsLine b c.in-Act.line)
    (sym (is_act table c.args.statement.now c.in-Act.line c.in-Act.act c.in-Act.is rest)) refl

pub returns-in-End : goal.returns-in-End
returns-in-End c = λ table rest. subst (λ b. IsLine b c.in-End.line)
    (sym (is_end table c.args.statement.now c.in-End.line c.in-End.is rest)) refl

pub returns-in-If : goal.returns-in-If
returns-in-If c = λ table rest. subst (λ b. IsLine b c.in-If.line)
    (sym (is_if table c.args.statement.now c.in-If.line c.in-If.condition c.in-If.first c.in-If.is rest)) refl

pub returns-in-IfElse : goal.returns-in-IfElse
returns-in-IfElse c = λ table rest. subst (λ b. IsLine b c.in-IfElse.line)
    (sym (is_if_else table c.args.statement.now c.in-IfElse.line c.in-IfElse.condition c.in-IfElse.first
    c.in-IfElse.second c.in-IfElse.is rest)) refl

pub returns-in-Repeat : goal.returns-in-Repeat
returns-in-Repeat c = λ table rest. subst (λ b. IsLine b c.in-Repeat.line)
    (sym (is_repeat table c.args.statement.now c.in-Repeat.line c.in-Repeat.times c.in-Repeat.body c.in-Repeat.is rest))
    refl

pub returns-in-Forever : goal.returns-in-Forever
returns-in-Forever c = λ table rest. subst (λ b. IsLine b c.in-Forever.line)
    (sym (is_forever table c.args.statement.now c.in-Forever.line c.in-Forever.body c.in-Forever.is rest)) refl

pub returns-in-Apply : goal.returns-in-Apply
returns-in-Apply c = λ table rest. subst (λ b. IsLine b c.in-Apply.line)
    (sym (is_apply table c.args.statement.now c.in-Apply.line c.in-Apply.block c.in-Apply.is rest)) refl
