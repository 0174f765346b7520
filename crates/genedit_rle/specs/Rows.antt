-- Worked values of the definitions.
use Rattle.std.specs.Prelude.{◌≡◌, Ok, Err, codes, refl}
use Rattle.std.specs.Fmt.{digits}
use Rattle.generations_rule.specs.Rule.{GenerationsRule}
use Rattle.generations_rule.specs.RuleText.{rule_of_text, text_of_set}
use Rattle.multistate_rle.specs.declared.fault.RleFault.TheVariants.{Header, Tag}
use Rattle.genedit_rle.specs.Refusal.{Text, OutOfPlane, StateRange}
use Rattle.genedit_rle.specs.Canonical.{canonical}

abbrev brain : GenerationsRule
brain = rule_of_text (codes "/2/3")

-- ---- forms

pub with_position_and_generation :
    canonical brain (codes "#C note\n#CXRLE Pos=-1,2 Gen=7\nx = 3, y = 2\n 2 b o$ ! end")
    ≡ Ok (codes "#CXRLE Pos=1,2 Gen=7\nx = 1, y = 1, rule = /2/3\nA!\n")
unfolding digits text_of_set
with_position_and_generation = refl

pub greatest_coordinates :
    canonical brain (codes "#CXRLE Pos=2147483646,2147483646\nx = 2, y = 2\nb$bB!")
    ≡ Ok (codes "#CXRLE Pos=2147483647,2147483647 Gen=0\nx = 1, y = 1, rule = /2/3\nB!\n")
unfolding digits text_of_set
greatest_coordinates = refl

pub least_coordinates :
    canonical brain (codes "#CXRLE Pos=-2147483648,-2147483648\nx = 1, y = 1\no!")
    ≡ Ok (codes "#CXRLE Pos=-2147483648,-2147483648 Gen=0\nx = 1, y = 1, rule = /2/3\nA!\n")
unfolding digits text_of_set
least_coordinates = refl

-- a position past its range is none
pub position_past_the_greatest :
    canonical brain (codes "#CXRLE Pos=2147483648,0\nx = 1, y = 1\no!") ≡ Ok (codes "#CXRLE Pos=0,0 Gen=0\nx = 1, y = 1, rule = /2/3\nA!\n")
unfolding digits text_of_set
position_past_the_greatest = refl

pub position_past_the_least :
    canonical brain (codes "#CXRLE Pos=0,-2147483649\nx = 1, y = 1\no!") ≡ Ok (codes "#CXRLE Pos=0,0 Gen=0\nx = 1, y = 1, rule = /2/3\nA!\n")
unfolding digits text_of_set
position_past_the_least = refl

pub greatest_state : canonical brain (codes "x = 1, y = 1\nB!") ≡ Ok (codes "#CXRLE Pos=0,0 Gen=0\nx = 1, y = 1, rule = /2/3\nB!\n")
unfolding digits text_of_set
greatest_state = refl

-- the whole range of x
pub widest :
    canonical brain (codes "#CXRLE Pos=-2147483648,0\nx = 1, y = 1\no4294967294bo!")
    ≡ Ok (codes "#CXRLE Pos=-2147483648,0 Gen=0\nx = 4294967296, y = 1, rule = /2/3\nA4294967294.A!\n")
unfolding digits text_of_set
widest = refl

pub nothing : canonical brain (codes "#CXRLE Pos=5,6 Gen=7\nx = 3, y = 4\n!") ≡ Ok (codes "#CXRLE Pos=0,0 Gen=7\nx = 0, y = 0, rule = /2/3\n!\n")
unfolding digits text_of_set
nothing = refl

-- ---- refusals

pub past_the_greatest_x : canonical brain (codes "#CXRLE Pos=2147483647,0\nx = 2, y = 1\nbo!") ≡ Err OutOfPlane
past_the_greatest_x = refl

pub past_the_greatest_y : canonical brain (codes "#CXRLE Pos=0,2147483647\nx = 1, y = 2\n$o!") ≡ Err OutOfPlane
past_the_greatest_y = refl

-- also where the position is in range, and the column leads out of it
pub past_the_greatest_column : canonical brain (codes "#CXRLE Pos=1,0\nx = 1, y = 1\n2147483647bo!") ≡ Err OutOfPlane
past_the_greatest_column = refl

pub no_such_state : canonical brain (codes "x = 1, y = 1\nC!") ≡ Err StateRange
no_such_state = refl

-- a coordinate of any cell is refused before a state of any
pub coordinates_before_states : canonical brain (codes "#CXRLE Pos=2147483647,0\nx = 2, y = 1\nCo!") ≡ Err OutOfPlane
coordinates_before_states = refl

-- the text's own faults come first
pub text_before_coordinates : canonical brain (codes "#CXRLE Pos=2147483647,0\nx = 2, y = 1\nbC?") ≡ Err (Text (Tag 39))
text_before_coordinates = refl

pub no_text : canonical brain (codes "") ≡ Err (Text Header)
no_text = refl
