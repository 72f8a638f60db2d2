use Rattle.plan_code.proofs.FaultLaws.{one_fault, fault_without_code, lacks_no_memory}
use Rattle.plan_code.proofs.laws.faults.Goals as goal

pub returns-clause-one : goal.returns-clause-one
returns-clause-one c = one_fault

pub returns-clause-without_code : goal.returns-clause-without_code
returns-clause-without_code c = fault_without_code

pub returns-clause-named : goal.returns-clause-named
returns-clause-named c = lacks_no_memory
