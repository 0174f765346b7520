-- Worked values of the definitions.
use Rattle.std.specs.Prelude.{◌≡◌, ℕ, zero, suc, ◌+◌, List, [], ◌∷◌, Ok, Err, codes, refl, ℤ, pos, negsuc}
use Rattle.std.specs.Fmt.{digits}
use Rattle.generations_rule.specs.Rule.{GenerationsRule}
use Rattle.generations_rule.specs.RuleText.{rule_of_text, text_of_set}
use Rattle.pattern_cells.specs.declared.pattern.PatternCell.{PatternCell}
use Rattle.multistate_rle.specs.declared.fault.RleFault.TheVariants.{Header, Tag, Count, State, TooMany}
use Rattle.pattern_cells.specs.declared.cell.Cell.{Cell}
use Rattle.pattern_cells.specs.Pattern.{RlePattern}
use Rattle.multistate_rle.specs.Reading.{parsed}
use Rattle.multistate_rle.specs.Writing.{text_of_cells}

abbrev cell : ℕ → ℕ → ℕ → PatternCell
cell column row state = record { column = column; row = row; state = state }

-- a pattern without a position
abbrev boxed : ℕ → ℕ → List PatternCell → RlePattern
boxed width height cells = record { width = width; height = height; pos = (pos 0, pos 0); generation = 0; cells = cells }

pub two_cells : parsed (codes "x = 3, y = 1\npA.yO!") ≡ Ok (boxed 3 1 (cell 0 0 25 ∷ cell 2 0 255 ∷ []))
two_cells = refl

pub prefixes : parsed (codes "x=0,y=0\nXpAp Xq\nA\n") ≡ Ok (boxed 4 1 (cell 0 0 24 ∷ cell 1 0 25 ∷ cell 2 0 48 ∷ cell 3 0 49 ∷ []))
prefixes = refl

pub too_great : parsed (codes "x = 3, y = 1\nyP!") ≡ Err (State 13)
too_great = refl

pub no_letter : parsed (codes "x = 3, y = 1\np!") ≡ Err (Tag 14)
no_letter = refl

pub cut_short : parsed (codes "x = 3, y = 1\np") ≡ Err (Tag 14)
cut_short = refl

pub no_count : parsed (codes "x = 3, y = 1\n0o!") ≡ Err (Count 13)
no_count = refl

pub no_state_before_no_count : parsed (codes "x = 3, y = 1\no0yP!") ≡ Err (State 14)
no_state_before_no_count = refl

pub no_header : parsed (codes "#C a\n \n") ≡ Err Header
no_header = refl

pub with_position :
    parsed (codes "#C note\n#CXRLE Pos=-1,2 Gen=7\nx = 3, y = 2\n 2 b o$ ! end")
    ≡ Ok (record { width = 3; height = 2; pos = (negsuc 0, pos 2); generation = 7; cells = cell 2 0 1 ∷ [] })
with_position = refl

pub first_position_counts :
    parsed (codes "#CXRLE Gen=1 Gen=2\n#CXRLE Gen=3\n#CXRLE Pos=1,-0\nx = 0, y = 0\n!")
    ≡ Ok (record { width = 0; height = 0; pos = (pos 0, pos 0); generation = 3; cells = [] })
first_position_counts = refl

-- a comment line parts a count from its tag, and its end mark is none
pub comment_within : parsed (codes "x = 0, y = 0\n2\n# 3o!\no!") ≡ Ok (boxed 2 1 (cell 0 0 1 ∷ cell 1 0 1 ∷ []))
comment_within = refl

pub past_the_rows : parsed (codes "x = 0, y = 0\n4294967296$o!") ≡ Err (Count 13)
past_the_rows = refl

pub last_row : parsed (codes "x = 0, y = 0\n4294967295$o!") ≡ Ok (boxed 1 4294967296 (cell 0 4294967295 1 ∷ []))
last_row = refl

pub last_column : parsed (codes "x = 0, y = 0\n4294967295b.o") ≡ Err (Count 25)
last_column = refl

pub too_many : parsed (codes "x = 0, y = 0\n1048577o!") ≡ Err TooMany
too_many = refl

-- ---- a zero with a sign: only a coordinate may have one

pub minus_zero_column :
    parsed (codes "#CXRLE Pos=-0,7 Gen=3\nx = 1, y = 1\no!")
    ≡ Ok (record { width = 1; height = 1; pos = (pos 0, pos 7); generation = 3; cells = cell 0 0 1 ∷ [] })
minus_zero_column = refl

pub minus_zero_row :
    parsed (codes "#CXRLE Pos=7,-0 Gen=3\nx = 1, y = 1\no!")
    ≡ Ok (record { width = 1; height = 1; pos = (pos 7, pos 0); generation = 3; cells = cell 0 0 1 ∷ [] })
minus_zero_row = refl

-- the line is a comment then
pub minus_zero_generation : parsed (codes "#CXRLE Pos=1,2 Gen=-0\nx = 1, y = 1\no!") ≡ Ok (boxed 1 1 (cell 0 0 1 ∷ []))
minus_zero_generation = refl

pub minus_zero_width : parsed (codes "x = -0, y = 0\n!") ≡ Err Header
minus_zero_width = refl

pub minus_zero_height : parsed (codes "x = 0, y = -0\n!") ≡ Err Header
minus_zero_height = refl

pub minus_zero_count : parsed (codes "x = 1, y = 1\n-0o!") ≡ Err (Tag 13)
minus_zero_count = refl

-- ---- written

abbrev at : ℤ → ℤ → ℕ → Cell
at x y s = record { x = x; y = y; state = s }

abbrev brain : GenerationsRule
brain = rule_of_text (codes "/2/3")

abbrev life : GenerationsRule
life = rule_of_text (codes "23/3/2")

abbrev six : List Cell
six =
    at (pos 0) (negsuc 0) 1 ∷ at (pos 1) (negsuc 0) 1 ∷ at (pos 0) (pos 0) 2 ∷ at (pos 1) (pos 0) 2
    ∷ at (pos 0) (pos 1) 1 ∷ at (pos 1) (pos 1) 1 ∷ []

pub first_generation : text_of_cells brain 1 six ≡ codes "#CXRLE Pos=0,-1 Gen=1\nx = 2, y = 3, rule = /2/3\n2A$2B$2A!\n"
unfolding digits text_of_set
first_generation = refl

pub nothing : text_of_cells brain 536870912 [] ≡ codes "#CXRLE Pos=0,0 Gen=536870912\nx = 0, y = 0, rule = /2/3\n!\n"
unfolding digits text_of_set
nothing = refl

pub with_gaps :
    text_of_cells life 0 (at (pos 0) (pos 0) 1 ∷ at (pos 2) (pos 0) 1 ∷ at (pos 3) (pos 0) 1 ∷ at (pos 0) (pos 3) 1 ∷ [])
    ≡ codes "#CXRLE Pos=0,0 Gen=0\nx = 4, y = 4, rule = 23/3/2\nob2o3$o!\n"
unfolding digits text_of_set
with_gaps = refl

abbrev every_second : ℕ → ℕ → List Cell
every_second zero x = []
every_second (suc n) x = at (pos x) (pos 0) 1 ∷ every_second n (x + 2)

pub two_lines :
    text_of_cells life 0 (every_second 41 0)
    ≡ codes "#CXRLE Pos=0,0 Gen=0\nx = 81, y = 1, rule = 23/3/2\nobobobobobobobobobobobobobobobobobobobobobobobobobobobobobobobobobobob\nobobobobobo!\n"
unfolding digits text_of_set
two_lines = refl
