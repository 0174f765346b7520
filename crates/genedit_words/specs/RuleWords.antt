-- Why a text spells no rule, in the words of those who type it.
use Rattle.std.specs.Prelude.{ℕ, List, codes}
use Rattle.generations_rule.specs.declared.fault.RuleFault.{RuleFault}
use Rattle.generations_rule.specs.declared.fault.RuleFault.TheVariants.{Digit, Slashes, States}

-- what is wrong with the text of a rule, and what one looks like
abbrev pub rule_cure : RuleFault → List ℕ
rule_cure Slashes = codes "a rule is survival/birth/states, as 23/3/2, or Golly's B3/S23"
rule_cure (Digit place) = codes "survival counts are 0 to 8 and birth counts 1 to 8, and that byte is none; a rule is survival/birth/states, as 23/3/2, or Golly's B3/S23"
rule_cure States = codes "the number of states is not 2 to 256; a rule is survival/birth/states, as 23/3/2, or Golly's B3/S23"
