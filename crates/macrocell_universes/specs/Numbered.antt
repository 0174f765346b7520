-- Squares of a macrocell by what stands for them.
use Rattle.std.specs.Prelude.{◌≡◌, ℕ, ◌-◌, ◌<◌, ◌≤◌, ◌||◌, ◌==◌, nat_le, List, if◌then◌else◌}
use Rattle.macrocell_lines.specs.Squares.{StateSquare, Four as FourSquares}
use Rattle.macrocell_lines.specs.Listing.{IsSquare}
use Rattle.macrocell_text.specs.declared.entry.Entry.{Entry}
use Rattle.macrocell_text.specs.Macrocells.{square_of_bits, square_standing, squares_of}
use Rattle.macrocell_universes.specs.declared.quarters.Numbered.{Numbered}
use Rattle.macrocell_universes.specs.declared.quarters.Quarters.{Quarters}
use Rattle.macrocell_universes.specs.declared.quarters.Cut.{Cut}
use Rattle.macrocell_universes.specs.declared.quarters.Cut.TheVariants.{Rows, Four}

-- the square of a level that a number stands for
abbrev pub square_at : List Entry → ℕ → ℕ → StateSquare
square_at es level number = square_standing level (squares_of es) number

abbrev pub square_of : List Entry → Numbered → StateSquare
square_of es q = square_at es q.level q.number

-- something stands for a square of a level: at level 0 for a state of a byte
pub record IsNumbered (es : List Entry) (q : Numbered) : Type 0 where
  pub square : IsSquare q.level (square_of es q)
  pub state : q.level ≡ 0 → q.number ≤ 255

-- What stands for a quarter of an entry of a level: a state, or the number of an entry before it; a number of no such stands for the
-- same as 0 does.
abbrev pub number_behind : ℕ → ℕ → ℕ → ℕ
number_behind before level n = if level == 1 || nat_le n before then n else 0

abbrev pub quarter_at : ℕ → ℕ → Numbered
quarter_at level n = record { level = level - 1; number = n }

-- something stands for a quarter of a square: above a state, for an entry before its own
pub record IsQuarter (es : List Entry) (q : Numbered) (n : ℕ) : Type 0 where
  pub is : IsNumbered es (quarter_at q.level n)
  pub before : 1 < q.level → n ≤ q.number - 1

-- the quarters of a square
pub record AreQuarters (es : List Entry) (q : Numbered) (four : Quarters) : Type 0 where
  pub four_is : square_of es q ≡ FourSquares (square_at es (q.level - 1) four.nw) (square_at es (q.level - 1) four.ne) (square_at es (q.level - 1) four.sw) (square_at es (q.level - 1) four.se)
  pub nw : IsQuarter es q four.nw
  pub ne : IsQuarter es q four.ne
  pub sw : IsQuarter es q four.sw
  pub se : IsQuarter es q four.se

-- the square, one step deep
abbrev pub IsCut : List Entry → Numbered → Cut → Type 0
IsCut es q (Rows rows) = (q.level ≡ 3) × (square_of es q ≡ square_of_bits rows)
IsCut es q (Four four) = AreQuarters es q four
