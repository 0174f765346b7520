-- What a macrocell tells: the rule's text, a generation, and squares, of which the last is the root.
use Rattle.std.specs.Prelude.{◌≡◌, ℕ, ◌+◌, ◌-◌, ◌*◌, ◌≤◌, Bool, true, ◌&&◌, nat_le, List, [], ◌∷◌, ◌++◌, fold, map, ◌==◌, if◌then◌else◌, Option, Some, None, slice_get, unwrap_or}
use Rattle.std.specs.Int.{bit_at}
use Rattle.std.specs.List.{list_all}
use Rattle.macrocell_text.specs.declared.head.RulePlace.{RulePlace}
use Rattle.macrocell_text.specs.declared.entry.Entry.{Entry}
use Rattle.macrocell_text.specs.declared.entry.Entry.TheVariants as entries
use Rattle.macrocell_lines.specs.Squares.{StateSquare, Cell, Four, level_of, square_of}
use Rattle.macrocell_lines.specs.Listing.{IsSquare}
use Rattle.macrocell_text.specs.SquareLines.{dead_square}

-- where a text tells its rule, if it does; the generation, 0 if none is told; and the square of each square line
pub record MacrocellTold : Type 0 where
  pub rule : Option RulePlace
  pub generation : ℕ
  pub squares : List StateSquare

-- ---- entries

-- the square of level 3 that has a bit for each state, row by row
abbrev pub square_of_bits : ℕ → StateSquare
square_of_bits rows = square_of 3 (λ u v. bit_at rows (8 * v + u))

-- the square of a level that a number stands for among others
abbrev pub square_standing : ℕ → List StateSquare → ℕ → StateSquare
square_standing level squares n =
    if level == 0 then Cell n else (if n == 0 then dead_square level else unwrap_or (slice_get squares (n - 1)) (dead_square level))

-- the square of an entry behind others
abbrev pub entry_square : List StateSquare → Entry → StateSquare
entry_square squares (entries.Rows rows) = square_of_bits rows
entry_square squares (entries.Four level nw ne sw se) =
    Four (square_standing (level - 1) squares nw) (square_standing (level - 1) squares ne) (square_standing (level - 1) squares sw) (square_standing (level - 1) squares se)

abbrev pub with_entry : List StateSquare → Entry → List StateSquare
with_entry squares entry = squares ++ entry_square squares entry ∷ []

-- each square has a level from 1 on, and four quarters of the level below
abbrev pub AreSquares : List StateSquare → Type 0
AreSquares squares = (i : ℕ) (q : StateSquare) → slice_get squares i ≡ Some q → (1 ≤ level_of q) × IsSquare (level_of q) q

-- the squares of entries
abbrev pub squares_of : List Entry → List StateSquare
squares_of es = fold with_entry [] es

abbrev pub entry_level : Entry → ℕ
entry_level (entries.Rows rows) = 3
entry_level (entries.Four level nw ne sw se) = level

-- each entry names its square's level
abbrev pub AreLevelled : List Entry → Type 0
AreLevelled es = map level_of (squares_of es) ≡ map entry_level es

-- a level from 1 to 63, and at level 1 states of a byte
abbrev pub is_entry : Entry → Bool
is_entry (entries.Rows rows) = true
is_entry (entries.Four level nw ne sw se) =
    (nat_le 1 level && nat_le level 63) && (if level == 1 then (nat_le nw 255 && nat_le ne 255) && (nat_le sw 255 && nat_le se 255) else true)

abbrev pub are_entries : List Entry → Bool
are_entries es = list_all is_entry es
