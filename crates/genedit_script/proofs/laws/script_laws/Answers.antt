use Rattle.genedit_script.proofs.ScriptLaws.{accepts_scripts, refuses_faults, refuses_head_faults}
use Rattle.genedit_script.proofs.laws.script_laws.Goals as goal

pub returns-clause-accepted : goal.returns-clause-accepted
returns-clause-accepted c = accepts_scripts

pub returns-clause-refused : goal.returns-clause-refused
returns-clause-refused c = refuses_faults

pub returns-clause-head : goal.returns-clause-head
returns-clause-head c = refuses_head_faults
