-- Worked values of the definitions.
use Rattle.std.specs.Fmt.{digits}
use Rattle.std.specs.Prelude.{◌≡◌, true, false, [], codes, refl, Ok, Err, pos, Some, None}
use Rattle.generations_rule.specs.RuleText.{rule_of_text}
use Rattle.generations_rule.specs.declared.fault.RuleFault.TheVariants.{Slashes}
use Rattle.header_rules.specs.declared.family.OtherFamily.TheVariants.{NonTotalistic}
use Rattle.header_rules.specs.declared.spelling.Misspelling.TheVariants.{Fault, Other}
use Rattle.header_rules.specs.Families.{other_names, table_ends, table_fronts}
use Rattle.header_rules.specs.Names.{rule_names}
use Rattle.genedit_io.specs.declared.fault.RunFault.TheVariants.{Refused}
use Rattle.macrocell_lines.specs.Squares.{square_of}
use Rattle.genedit_view.specs.declared.fault.ViewFault.TheVariants.{HeaderRule, NoRule, Run}
use Rattle.genedit_view.specs.declared.words.WindowFault.TheVariants.{Corner, Outside, Sides}
use Rattle.genedit_view.specs.Fault.{view_fault_text}
use Rattle.genedit_view.specs.Macrocells.{begins_as_macrocell, macrocell_seen}
use Rattle.genedit_view.specs.Reading.{bounds_told, generation_told, pattern_rule}
use Rattle.genedit_view.specs.Words.{window_asked}

-- ---- rules of headers

pub life : pattern_rule None (codes "x = 1, y = 1, rule = B3/S23\no!") ≡ Ok (rule_of_text (codes "23/3/2"))
life = refl

pub none_told : pattern_rule None (codes "x = 1, y = 1\no!") ≡ Err NoRule
none_told = refl

pub no_rule : pattern_rule None (codes "x = 1, y = 1, rule = Q\no!") ≡ Err (HeaderRule 21 (Fault Slashes))
unfolding rule_names other_names table_fronts table_ends
no_rule = refl

pub no_rule_told : view_fault_text (HeaderRule 21 (Fault Slashes)) ≡ codes "no rule at byte 21: give one by --rule"
unfolding digits
no_rule_told = refl

pub family : pattern_rule None (codes "x = 1, y = 1, rule = B2e3/S23\no!") ≡ Err (HeaderRule 21 (Other NonTotalistic))
unfolding rule_names
family = refl

pub family_told : view_fault_text (HeaderRule 21 (Other NonTotalistic))
    ≡ codes "the rule at byte 21 is of another family (letters behind counts): this program has Golly's Generations without letters alone"
unfolding digits
family_told = refl

-- a bounded rule is read, and so is that of an MCell file
pub bounded : pattern_rule None (codes "x = 1, y = 1, rule = B3/S23:T800,800\no!") ≡ Ok (rule_of_text (codes "23/3/2"))
unfolding rule_names
bounded = refl

pub of_mcell : pattern_rule None (codes "#MCell\n#RULE 2/13/21\n#L A") ≡ Ok (rule_of_text (codes "2/13/21"))
of_mcell = refl

pub of_plaintext : pattern_rule None (codes "!x = 1, y = 1, rule = B3/S23\nO") ≡ Err NoRule
of_plaintext = refl

-- ---- macrocells

pub by_its_mark : begins_as_macrocell (codes "[M2] (golly 3.3)\n") ≡ true
by_its_mark = refl

pub generation_of_a_macrocell : generation_told (codes "[M2]\n#G 7\n") ≡ 7
generation_of_a_macrocell = refl

pub bounds_of_a_macrocell : bounds_told (codes "[M2]\n#R B3/S23:T8,9\n") ≡ Some (codes "T8,9")
unfolding rule_names
bounds_of_a_macrocell = refl

-- the rule in front of the bounds; and of the first of these texts no square
pub bounded_macrocell : macrocell_seen false None (codes "[M2]\n#R B3/S23:T8,9\n") ≡ Ok (rule_of_text (codes "23/3/2"), [])
unfolding rule_names
bounded_macrocell = refl

pub macrocell_without_a_rule : macrocell_seen false None (codes "[M2]\n") ≡ Err NoRule
macrocell_without_a_rule = refl

-- its text is refused before its rule, and that before its cells
pub faulty_macrocell : macrocell_seen false None (codes "[M2]\n2 0 1 0 0") ≡ Err (Run (Refused 44 (Some 9)))
unfolding square_of
faulty_macrocell = refl

pub a_state_that_the_rule_has_not : macrocell_seen false (Some (rule_of_text (codes "/2/3"))) (codes "[M2]\n1 0 0 0 3") ≡ Err (Run (Refused 11 None))
a_state_that_the_rule_has_not = refl

-- ---- windows

pub sides_by_comma : window_asked (codes "3,4") (codes "10,20") ≡ Ok (record { x = pos 3; y = pos 4; width = 10; height = 20 })
sides_by_comma = refl

pub sides_by_x : window_asked (codes "3,4") (codes "10x20") ≡ Ok (record { x = pos 3; y = pos 4; width = 10; height = 20 })
sides_by_x = refl

pub sides_by_capital_x : window_asked (codes "3,4") (codes "10X20") ≡ Ok (record { x = pos 3; y = pos 4; width = 10; height = 20 })
sides_by_capital_x = refl

pub corner_by_x : window_asked (codes "3x4") (codes "10,20") ≡ Err Corner
corner_by_x = refl

pub three_sides : window_asked (codes "3,4") (codes "10x20,30") ≡ Err Sides
three_sides = refl

pub no_side : window_asked (codes "3,4") (codes "0,20") ≡ Err Outside
no_side = refl

pub too_far : window_asked (codes "2147483647,4") (codes "2,1") ≡ Err Outside
too_far = refl
