use Rattle.fault_laws.proofs.NameLaws.{names_agree, names_are_distinct}
use Rattle.fault_laws.proofs.laws.name_laws.Goals as goal

pub returns-clause-agree : goal.returns-clause-agree
returns-clause-agree c = names_agree

pub returns-clause-distinct : goal.returns-clause-distinct
returns-clause-distinct c = names_are_distinct
