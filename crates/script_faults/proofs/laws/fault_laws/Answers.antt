use Rattle.script_faults.proofs.FaultLemmas.{begin_with_first_fault, are_in_order}
use Rattle.script_faults.proofs.CommandLemmas.{are_as_many}
use Rattle.script_faults.proofs.laws.fault_laws.Goals as goal

pub returns-clause-first : goal.returns-clause-first
returns-clause-first c = begin_with_first_fault

pub returns-clause-order : goal.returns-clause-order
returns-clause-order c = are_in_order

pub returns-clause-commands : goal.returns-clause-commands
returns-clause-commands c = are_as_many
