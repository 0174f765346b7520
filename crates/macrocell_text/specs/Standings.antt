-- What stands for a square of a macrocell.
use Rattle.std.specs.Prelude.{◌≡◌, ◌≢◌, ℕ, ◌≤◌, ◌<◌, List, length, take}
use Rattle.macrocell_lines.specs.Squares.{StateSquare, Cell as CellSquare, Four as FourSquare}
use Rattle.macrocell_text.specs.declared.entry.Entry.{Entry}
use Rattle.macrocell_text.specs.declared.standing.Shown.{Shown}
use Rattle.macrocell_text.specs.declared.standing.Shown.TheVariants.{Nothing, Cell, Rows, Four}
use Rattle.macrocell_text.specs.declared.standing.Standing.{Standing}
use Rattle.macrocell_text.specs.LiveCells.{population}
use Rattle.macrocell_text.specs.Macrocells.{square_of_bits, square_standing, squares_of}

-- the square that something stands for
abbrev pub standing_square : List Entry → Standing → StateSquare
standing_square es s = square_standing s.level (squares_of (take s.before es)) s.number

-- it stands behind fewer entries, and of level 0 for a state of a byte
pub record IsBefore (es : List Entry) (before : ℕ) (s : Standing) : Type 0 where
  pub fewer : s.before < before
  pub within : s.before ≤ length es
  pub state : s.level ≡ 0 → s.number ≤ 255

-- a square is what is shown; what stands for its quarters stands behind fewer entries
abbrev pub IsShown : List Entry → ℕ → StateSquare → Shown → Type 0
IsShown es before q Nothing = population q ≡ 0
IsShown es before q (Cell state) = (q ≡ CellSquare state) × (state ≢ 0)
IsShown es before q (Rows rows) = q ≡ square_of_bits rows
IsShown es before q (Four nw ne sw se) =
    (q ≡ FourSquare (standing_square es nw) (standing_square es ne) (standing_square es sw) (standing_square es se))
    × (IsBefore es before nw × (IsBefore es before ne × (IsBefore es before sw × IsBefore es before se)))
