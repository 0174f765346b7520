-- A square of level 3 by its rows: `.` is a dead cell, `*` a live one, and `$` ends a row (Golly's help, "Macrocell format").
use Rattle.std.specs.Prelude.{ℕ, suc, Bool, ◌||◌, ◌&&◌, List, [], ◌∷◌, ◌==◌, nat_lt, if◌then◌else◌, Option, Some, None, Result, Ok, Err}
use Rattle.macrocell_text.specs.declared.fault.MacrocellFault.{MacrocellFault}
use Rattle.macrocell_text.specs.declared.fault.MacrocellFault.TheVariants.{Tag}
use Rattle.macrocell_text.specs.declared.marks.Spot.{Spot}
use Rattle.macrocell_lines.specs.Squares.{StateSquare, square_of}

abbrev pub first_spot : Spot
first_spot = record { column = 0; row = 0 }

-- the spot behind a mark
abbrev pub spot_behind : Spot → ℕ → Spot
spot_behind spot mark = if mark == 36 then record { column = 0; row = suc spot.row } else record { column = suc spot.column; row = spot.row }

-- a spot in the square
abbrev pub is_in_square : Spot → Bool
is_in_square spot = nat_lt spot.column 8 && nat_lt spot.row 8

-- a mark may stand at a spot: what is dead, and the ends of rows, also outside the square
abbrev pub may_stand : Spot → ℕ → Bool
may_stand spot mark = mark == 36 || (mark == 46 || (mark == 42 && is_in_square spot))

-- the first byte that may not stand where it does, behind so many bytes and marks up to a spot
abbrev pub misplaced : ℕ → Spot → List ℕ → Option ℕ
misplaced place spot [] = None
misplaced place spot (mark ∷ marks) = if may_stand spot mark then misplaced (suc place) (spot_behind spot mark) marks else Some place

abbrev pub is_live_at : Spot → ℕ → ℕ → ℕ → Bool
is_live_at spot mark u v = mark == 42 && (spot.column == u && spot.row == v)

-- the state in column u of row v, as marks from a spot on tell it
abbrev pub state_marked : Spot → List ℕ → ℕ → ℕ → ℕ
state_marked spot [] u v = 0
state_marked spot (mark ∷ marks) u v = if is_live_at spot mark u v then 1 else state_marked (spot_behind spot mark) marks u v

-- the square that marks tell
abbrev pub square_marked : List ℕ → StateSquare
square_marked marks = square_of 3 (state_marked first_spot marks)

abbrev pub unless_misplaced : Option ℕ → StateSquare → Result StateSquare MacrocellFault
unless_misplaced None q = Ok q
unless_misplaced (Some place) q = Err (Tag place)

-- the square that marks from a place on tell, or the first that may not stand where it does
abbrev pub rows_told : ℕ → List ℕ → Result StateSquare MacrocellFault
rows_told place marks = unless_misplaced (misplaced place first_spot marks) (square_marked marks)
