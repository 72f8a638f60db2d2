use Rattle.script_config.proofs.Transforming.{makes, leads}
use Rattle.script_config.proofs.laws.transforming.Goals as goal

pub returns-clause-making : goal.returns-clause-making
returns-clause-making c = makes

pub returns-clause-between : goal.returns-clause-between
returns-clause-between c = leads c.sizes.ensures.grow
