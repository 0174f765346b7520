-- Numbers of neighbours, as four planes.
use Rattle.std.specs.Prelude.{ℕ, ◌+◌, ◌*◌, List}
use Rattle.tile_steps.specs.declared.adders.Count.{Count}
use Rattle.tile_steps.specs.Rows.{bit}
pub use Rattle.bitplane_kernel.specs.Count.{MarksAt}

-- the number that the four planes hold at a cell
abbrev pub total : Count → ℕ → ℕ → ℕ
total count x y = bit count.ones x y + 2 * bit count.twos x y + 4 * bit count.fours x y + 8 * bit count.eights x y

-- how many cells are set around the cell in column x + 1
abbrev pub around_in : List ℕ → List ℕ → List ℕ → ℕ → ℕ → ℕ
around_in above own below x y =
    bit above x y + bit above (x + 1) y + bit above (x + 2) y
    + bit own x y + bit own (x + 2) y
    + bit below x y + bit below (x + 1) y + bit below (x + 2) y
