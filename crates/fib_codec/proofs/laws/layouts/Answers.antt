use Rattle.fib_codec.proofs.Layouts.{layouts_divide, layout_is_one}
use Rattle.fib_codec.proofs.laws.layouts.Goals as goal

pub returns-clause-divide : goal.returns-clause-divide
returns-clause-divide c = layouts_divide

pub returns-clause-one : goal.returns-clause-one
returns-clause-one c = layout_is_one
