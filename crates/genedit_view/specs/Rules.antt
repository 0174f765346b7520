-- The rule under which a text is shown that is no state.
use Rattle.std.specs.Prelude.{ℕ, Option, Some, None, Result, Ok, Err}
use Rattle.generations_rule.specs.Rule.{GenerationsRule}
use Rattle.header_rules.specs.declared.header.HeaderRule.{HeaderRule}
use Rattle.header_rules.specs.declared.spelling.Misspelling.{Misspelling}
use Rattle.genedit_view.specs.declared.fault.ViewFault.{ViewFault}
use Rattle.genedit_view.specs.declared.fault.ViewFault.TheVariants as faults

-- a rule that a file tells at a place, unless its text spells none
abbrev pub read_rule : ℕ → Result GenerationsRule Misspelling → Result GenerationsRule ViewFault
read_rule place (Err why) = Err (faults.HeaderRule place why)
read_rule place (Ok r) = Ok r

abbrev pub rule_told : Option HeaderRule → Result GenerationsRule ViewFault
rule_told None = Err faults.NoRule
rule_told (Some told) = read_rule told.place told.rule

-- the rule that is given, else the one that is told
abbrev pub given_or_told : Option GenerationsRule → Option HeaderRule → Result GenerationsRule ViewFault
given_or_told (Some r) told = Ok r
given_or_told None told = rule_told told
