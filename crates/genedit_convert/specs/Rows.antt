-- Worked values of the definitions.
use Rattle.std.specs.Prelude.{◌≡◌, [], ◌∷◌, codes, pos, negsuc, refl}
use Rattle.std.specs.Fmt.{digits}
use Rattle.generations_rule.specs.RuleText.{rule_of_text, text_of_set}
use Rattle.genedit_convert.specs.Names.{renamed, text_named}
use Rattle.macrocell_lines.specs.Macrocell.{rule_name}

pub of_two_states : rule_name (rule_of_text (codes "23/3/2")) ≡ codes "B3/S23"
unfolding digits text_of_set
of_two_states = refl

pub of_more_states : rule_name (rule_of_text (codes "/2/3")) ≡ codes "/2/3"
unfolding digits text_of_set
of_more_states = refl

pub another_name : renamed 6 (codes "B3/S23") (codes "#CXRLE Pos=0,0 Gen=0\nx = 1, y = 1, rule = 23/3/2\no!\n")
    ≡ codes "#CXRLE Pos=0,0 Gen=0\nx = 1, y = 1, rule = B3/S23\no!\n"
another_name = refl

pub a_text : text_named (codes "B3/S23") (rule_of_text (codes "23/3/2")) 7 (record { x = negsuc 0; y = pos 2; state = 1 } ∷ [])
    ≡ codes "#CXRLE Pos=-1,2 Gen=7\nx = 1, y = 1, rule = B3/S23\no!\n"
unfolding digits text_named
a_text = refl
