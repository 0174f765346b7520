-- The refusals of rule texts, as users meet them.
use Rattle.std.specs.Prelude.{ℕ, List, ◌++◌, Option, Some, None, codes, decimal}
use Rattle.generations_rule.specs.declared.fault.RuleFault.{RuleFault}
use Rattle.generations_rule.specs.declared.fault.RuleFault.TheVariants.{Slashes, Digit, States}

-- its number in the table of faults
abbrev pub rule_fault_number : RuleFault → ℕ
rule_fault_number Slashes = 1
rule_fault_number (Digit place) = 2
rule_fault_number States = 3

-- the place in the text that it names
abbrev pub rule_fault_place : RuleFault → Option ℕ
rule_fault_place Slashes = None
rule_fault_place (Digit place) = Some place
rule_fault_place States = None

-- its name, with the place behind it
abbrev pub rule_fault_text : RuleFault → List ℕ
rule_fault_text Slashes = codes "Slashes"
rule_fault_text (Digit place) = codes "Digit " ++ decimal place
rule_fault_text States = codes "States"
