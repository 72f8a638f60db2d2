use Rattle.fib_reader.proofs.FromEntries.{packet_within, packet_identified}
use Rattle.fib_reader.proofs.members.PacketFromEntry.laws.Goals as goal

pub returns-clause-within : goal.returns-clause-within
returns-clause-within c = packet_within

pub returns-clause-identified : goal.returns-clause-identified
returns-clause-identified c = packet_identified
