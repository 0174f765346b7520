-- The rule that a text spells, or why it spells none.
use Rattle.std.specs.Prelude.{ℕ, List, Option, Some, None, Result, Ok, Err}
use Rattle.generations_rule.specs.Rule.{GenerationsRule}
use Rattle.generations_rule.specs.RuleText.{parsed}
use Rattle.generations_rule.specs.declared.fault.RuleFault.{RuleFault}
use Rattle.header_rules.specs.declared.family.OtherFamily.{OtherFamily}
use Rattle.header_rules.specs.declared.spelling.Misspelling.{Misspelling}
use Rattle.header_rules.specs.declared.spelling.Misspelling.TheVariants.{Other, Fault}
use Rattle.header_rules.specs.Families.{rule_written, other_family}

-- a rule of another family, or what is wrong with the text as `S/B/C`
abbrev pub misspelling : Option OtherFamily → RuleFault → Misspelling
misspelling (Some other) fault = Other other
misspelling None fault = Fault fault

abbrev pub or_misspelled : Option GenerationsRule → Misspelling → Result GenerationsRule Misspelling
or_misspelled (Some rule) misspelled = Ok rule
or_misspelled None misspelled = Err misspelled

-- `S/B/C` wins, then come other ways to spell a rule of the family, then other families
abbrev pub spelled_as : Result GenerationsRule RuleFault → List ℕ → Result GenerationsRule Misspelling
spelled_as (Ok rule) text = Ok rule
spelled_as (Err fault) text = or_misspelled (rule_written text) (misspelling (other_family text) fault)

abbrev pub rule_spelled : List ℕ → Result GenerationsRule Misspelling
rule_spelled text = spelled_as (parsed text) text
