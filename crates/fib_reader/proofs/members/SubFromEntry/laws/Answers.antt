use Rattle.fib_reader.proofs.FromEntries.{sub_within, sub_identified}
use Rattle.fib_reader.proofs.members.SubFromEntry.laws.Goals as goal

pub returns-clause-within : goal.returns-clause-within
returns-clause-within c = sub_within

pub returns-clause-identified : goal.returns-clause-identified
returns-clause-identified c = sub_identified
