use Rattle.fib_codec.proofs.Words.{◌∙◌, arith, rules, sym}
use Rattle.std.proofs.lemmas.Grind.{common_steps}
use Rattle.fib_codec.proofs.Determined.{service_told}
use Rattle.fib_codec.proofs.fig0_2.decode.Goals as goal

pub returns-clause-spelled : goal.returns-clause-spelled
returns-clause-spelled c = grind (arith, common_steps)

pub returns-clause-within : goal.returns-clause-within
returns-clause-within c = search rules

pub returns-clause-form : goal.returns-clause-form
returns-clause-form c = search rules

pub returns-clause-only : goal.returns-clause-only
returns-clause-only c e within form same =
    service_told _ e (returns-clause-within c) within (returns-clause-form c ∙ sym form)
    (sym (returns-clause-spelled c) ∙ same)
