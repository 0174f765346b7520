-- A line of five numbers: a level, and what stands for the quarters NW, NE, SW and SE.
use Rattle.std.specs.Prelude.{ℕ, ◌-◌, Bool, true, false, not, ◌&&◌, List, length, nat_le, ◌==◌, if◌then◌else◌, Option, Some, None, Result, Ok, Err, slice_get}
use Rattle.generations_rule.specs.Refusal.{◌>>=◌}
use Rattle.text_scan.specs.Bytes.{◌>=>◌}
use Rattle.macrocell_text.specs.declared.fault.MacrocellFault.{MacrocellFault}
use Rattle.macrocell_text.specs.declared.fault.MacrocellFault.TheVariants.{State, Square}
use Rattle.macrocell_text.specs.declared.leaves.Leaves.{Leaves}
use Rattle.macrocell_text.specs.declared.leaves.Leaves.TheVariants.{ByStates, ByRows}
use Rattle.macrocell_lines.specs.Squares.{StateSquare, Cell, Four, level_of, square_of}
use Rattle.macrocell_text.specs.Faults.{found_or}
use Rattle.macrocell_text.specs.Numbers.{Number, number_told}

-- ---- how leaves are told

-- leaves so far are told in the other way
abbrev pub is_other : Option Leaves → Leaves → Bool
is_other None leaves = false
is_other (Some ByStates) ByStates = false
is_other (Some ByStates) ByRows = true
is_other (Some ByRows) ByStates = true
is_other (Some ByRows) ByRows = false

-- how they are told with a line of a level: squares below level 4 stand only where leaves are of level 1
abbrev pub leaves_with : Option Leaves → ℕ → Option Leaves
leaves_with leaves level = if nat_le level 3 then Some ByStates else leaves

-- a level from 1 to 63, of squares that stand with such leaves
abbrev pub is_level : Option Leaves → ℕ → Bool
is_level leaves level = nat_le 1 level && (nat_le level 63 && not (nat_le level 3 && is_other leaves ByStates))

abbrev pub level_if : Option Leaves → ℕ → Option ℕ
level_if leaves level = if is_level leaves level then Some level else None

abbrev pub level_told : Option Leaves → Number → Result ℕ MacrocellFault
level_told leaves number = found_or (Square number.place) (number.value >=> level_if leaves)

-- ---- quarters

-- the square of a level all of whose states are 0
abbrev pub dead_square : ℕ → StateSquare
dead_square level = square_of level (λ u v. 0)

abbrev pub square_if_of : ℕ → StateSquare → Option StateSquare
square_if_of level q = if level_of q == level then Some q else None

-- The square of a level that a number stands for: of level 0 a cell, by its state; above it 0 for the dead one, and n for that of the
-- nth square line, which has to be of the level.
abbrev pub square_numbered : ℕ → List StateSquare → ℕ → Option StateSquare
square_numbered level squares n =
    if level == 0 then (if nat_le n 255 then Some (Cell n) else None)
    else (if n == 0 then Some (dead_square level) else slice_get squares (n - 1) >=> square_if_of level)

-- what is wrong with a number that stands for no square of a level
abbrev pub quarter_fault : ℕ → ℕ → MacrocellFault
quarter_fault level place = if level == 0 then State place else Square place

-- a quarter of a level, and what stands behind its number
abbrev pub quarter_told : ℕ → ℕ → List StateSquare → List ℕ → Result (StateSquare × List ℕ) MacrocellFault
quarter_told line_end level squares rest =
    number_told line_end rest >>= λ number.
    found_or (quarter_fault level number.place) (number.value >=> square_numbered level squares) >>= λ q. Ok (q, number.rest)

-- a square by its quarters; what stands behind the fourth is passed over
abbrev pub quarters_told : ℕ → ℕ → List StateSquare → List ℕ → Result StateSquare MacrocellFault
quarters_told line_end level squares rest =
    quarter_told line_end level squares rest >>= λ nw. quarter_told line_end level squares nw.1 >>= λ ne.
    quarter_told line_end level squares ne.1 >>= λ sw. quarter_told line_end level squares sw.1 >>= λ se. Ok (Four nw.0 ne.0 sw.0 se.0)
