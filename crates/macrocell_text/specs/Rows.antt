-- Worked values of the definitions. The two macrocells are those of a map under `/2/3` and of a glider, as bgolly 3.3 takes them.
use Rattle.std.specs.Prelude.{◌≡◌, ℕ, ℤ, pos, negsuc, List, [], ◌∷◌, ◌++◌, refl, codes, map, Option, Some, None, Result, Ok, Err}
use Rattle.generations_rule.specs.Place.{at_place}
use Rattle.macrocell_lines.specs.Squares.{StateSquare, Cell, Four, square_of}
use Rattle.macrocell_text.specs.declared.fault.MacrocellFault.{MacrocellFault}
use Rattle.macrocell_text.specs.declared.fault.MacrocellFault.TheVariants.{Header, Tag, State, Square}
use Rattle.macrocell_text.specs.Macrocells.{MacrocellTold}
use Rattle.macrocell_text.specs.Maps.{map_of_squares}
use Rattle.macrocell_text.specs.Texts.{macrocell_read}

-- ---- 58 bytes: `/2/3`, 1 at 0 0 and 0 1, 2 at 1 0, generation 5

abbrev three_cells : List ℕ
three_cells = codes "[M2] (pazgrot)\n#R /2/3\n#G 5\n1 0 0 1 2\n1 1 0 0 0\n2 0 1 0 2\n"

abbrev one_dead : StateSquare
one_dead = Four (Cell 0) (Cell 0) (Cell 0) (Cell 0)

abbrev upper : StateSquare
upper = Four (Cell 0) (Cell 0) (Cell 1) (Cell 2)

abbrev lower : StateSquare
lower = Four (Cell 1) (Cell 0) (Cell 0) (Cell 0)

pub three_cells_read : macrocell_read three_cells ≡ Ok (record {
  rule = Some (record { place = 18; length = 4 });
  generation = 5;
  squares = upper ∷ lower ∷ Four one_dead upper one_dead lower ∷ [];
})
unfolding square_of
three_cells_read = refl

-- the states along the rows of a map from -1 -1 to 2 2
abbrev states_at : Result MacrocellTold MacrocellFault → List ℤ → ℤ → List ℕ
states_at (Ok told) xs y = map (λ x. map_of_squares told.squares (at_place x y)) xs
states_at (Err fault) xs y = []

abbrev columns : List ℤ
columns = negsuc 0 ∷ pos 0 ∷ pos 1 ∷ pos 2 ∷ []

pub above_the_cells : states_at (macrocell_read three_cells) columns (negsuc 0) ≡ 0 ∷ 0 ∷ 0 ∷ 0 ∷ []
unfolding square_of
above_the_cells = refl

pub first_row : states_at (macrocell_read three_cells) columns (pos 0) ≡ 0 ∷ 1 ∷ 2 ∷ 0 ∷ []
unfolding square_of
first_row = refl

pub second_row : states_at (macrocell_read three_cells) columns (pos 1) ≡ 0 ∷ 1 ∷ 0 ∷ 0 ∷ []
unfolding square_of
second_row = refl

-- ---- 60 bytes: a glider at 0 0, generation 4

abbrev glider : List ℕ
glider = codes "[M2] (pazgrot)\n#R B3/S23\n#G 4\n$$$$$$$.*$\n..*$***$\n4 0 1 0 2\n"

pub glider_above : states_at (macrocell_read glider) columns (pos 0) ≡ 0 ∷ 0 ∷ 1 ∷ 0 ∷ []
unfolding square_of
glider_above = refl

pub glider_middle : states_at (macrocell_read glider) columns (pos 1) ≡ 0 ∷ 0 ∷ 0 ∷ 1 ∷ []
unfolding square_of
glider_middle = refl

pub glider_below : states_at (macrocell_read glider) columns (pos 2) ≡ 0 ∷ 1 ∷ 1 ∷ 1 ∷ []
unfolding square_of
glider_below = refl

-- ---- no square line: the empty map

pub empty_map : macrocell_read (codes "[M2] (pazgrot)\n#R /2/3\n") ≡ Ok (record { rule = Some (record { place = 18; length = 4 }); generation = 0; squares = [] })
empty_map = refl

pub nothing_but_its_first_line : macrocell_read (codes "[M2]") ≡ Ok (record { rule = None; generation = 0; squares = [] })
nothing_but_its_first_line = refl

-- ---- lines that are passed over, ends of lines, words behind

-- CR LF and CR end lines, blank ones and other comments are passed over, and of two rules or generations the last counts
pub last_of_two : macrocell_read (codes "[M2] (golly 3.3)\r\n#R B3/S23\r\n \r\n#C a\r#R /2/3:T8,8 x\r\n#G 7\r#G -1\r") ≡ Ok (record { rule = Some (record { place = 40; length = 9 }); generation = 7; squares = [] })
last_of_two = refl

-- a sixth word
pub a_sixth_word : macrocell_read (codes "[M2]\n1 1 0 0 0 x") ≡ Ok (record { rule = None; generation = 0; squares = lower ∷ [] })
a_sixth_word = refl

-- dots beyond column 8, rows beyond the eighth, and what stands behind a blank
pub beyond_the_square : macrocell_read (codes "[M2]\n.........$$$$$$$$$. *") ≡ macrocell_read (codes "[M2]\n$")
unfolding square_of
beyond_the_square = refl

-- ---- refusals, each at the first such byte

pub no_header : macrocell_read (codes "x = 3, y = 3\n") ≡ Err Header
no_header = refl

pub a_letter : macrocell_read (codes "[M2]\n1 0 0 a 0") ≡ Err (Tag 11)
a_letter = refl

pub a_letter_behind_a_digit : macrocell_read (codes "[M2]\n1 0 0 1a 0") ≡ Err (Tag 12)
a_letter_behind_a_digit = refl

pub four_numbers : macrocell_read (codes "[M2]\n1 0 0 1 \n") ≡ Err (Tag 13)
four_numbers = refl

pub a_letter_in_a_row : macrocell_read (codes "[M2]\n.*o$") ≡ Err (Tag 7)
a_letter_in_a_row = refl

pub a_ninth_column : macrocell_read (codes "[M2]\n........*$") ≡ Err (Tag 13)
a_ninth_column = refl

pub a_ninth_row : macrocell_read (codes "[M2]\n$$$$$$$$*$") ≡ Err (Tag 13)
a_ninth_row = refl

pub a_state_above_255 : macrocell_read (codes "[M2]\n1 255 0 256 a") ≡ Err (State 13)
a_state_above_255 = refl

pub level_0 : macrocell_read (codes "[M2]\n0 0 0 0 0") ≡ Err (Square 5)
level_0 = refl

pub level_64 : macrocell_read (codes "[M2]\n64 0 0 0 0") ≡ Err (Square 5)
level_64 = refl

-- a line that does not stand in front of it
pub itself : macrocell_read (codes "[M2]\n2 0 1 0 0\n") ≡ Err (Square 9)
unfolding square_of
itself = refl

-- an earlier line, of level 1, where one of level 2 is wanted
pub another_level : macrocell_read (codes "[M2]\n1 0 0 0 1\n3 1 0 0 0\n") ≡ Err (Square 17)
another_level = refl

-- leaves of the other kind
pub rows_behind_states : macrocell_read (codes "[M2]\n1 0 0 0 1\n*$\n") ≡ Err (Square 15)
rows_behind_states = refl

pub states_behind_rows : macrocell_read (codes "[M2]\n*$\n1 0 0 0 1\n") ≡ Err (Square 8)
unfolding square_of
states_behind_rows = refl

-- a number of more than 32 bits names no line
pub a_long_number : macrocell_read (codes "[M2]\n4 4294967296 0 0 0") ≡ Err (Square 7)
a_long_number = refl
