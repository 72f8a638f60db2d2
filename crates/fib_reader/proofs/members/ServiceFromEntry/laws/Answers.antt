use Rattle.fib_reader.proofs.FromEntries.{service_within, service_identified}
use Rattle.fib_reader.proofs.members.ServiceFromEntry.laws.Goals as goal

pub returns-clause-within : goal.returns-clause-within
returns-clause-within c = service_within

pub returns-clause-identified : goal.returns-clause-identified
returns-clause-identified c = service_identified
