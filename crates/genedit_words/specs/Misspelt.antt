-- A word that does not spell what it has to, and what is said of it.
use Rattle.std.specs.Prelude.{ℕ, List, ◌++◌, codes}
use Rattle.clap.specs.Words.{Text}
use Rattle.generations_rule.specs.RuleFault.{rule_fault_number, rule_fault_place}
use Rattle.header_rules.specs.declared.spelling.Misspelling.{Misspelling}
use Rattle.header_rules.specs.declared.spelling.Misspelling.TheVariants.{Fault, Other}
use Rattle.genedit_io.specs.declared.fault.RunFault.TheVariants.{Refused}
use Rattle.genedit_io.specs.RunFault.{run_fault_text}
use Rattle.genedit_words.specs.RuleWords.{rule_cure}
use Rattle.header_rules.specs.FamilyWords.{family_words}

-- a word that spells no rule, and why, or one that spells no web port
pub data Misspelt : Type 0 where
  NoRule : (text : Text) → (why : Misspelling) → Misspelt
  NoWeb : (text : Text) → Misspelt

-- what the program says: of a rule of another family which one it is; of a fault its number, its name and its cure
abbrev pub misspelt_text : Text → Misspelling → List ℕ
misspelt_text text (Other family) = codes "the rule " ++ (text ++ (codes " is " ++ family_words family))
misspelt_text text (Fault fault) = run_fault_text (Refused (rule_fault_number fault) (rule_fault_place fault)) ++ (codes ": " ++ rule_cure fault)

-- and of a word that spells no web port what one is, as `clap` says it of a value
abbrev pub no_web_text : Text → List ℕ
no_web_text text = codes "invalid value '" ++ (text ++ codes "' for '--web <[ADDRESS:]Q>': a port is 0 to 65535, as --web 0 or --web 192.168.1.7:7080")
