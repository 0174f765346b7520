-- Numbers of neighbours, as four planes.
use Rattle.std.specs.Prelude.{◌≡◌, ℕ, ◌+◌, ◌*◌, ◌<◌, ◌==◌, List, [], slice_index_or, if◌then◌else◌}
use Rattle.bitplane_kernel.specs.declared.adders.Count.{Count}
use Rattle.bitplane_kernel.specs.Planes.{bit}

-- the number that the four planes hold at a cell
abbrev pub total : Count → ℕ → ℕ → ℕ
total count x y = bit count.ones x y + 2 * bit count.twos x y + 4 * bit count.fours x y + 8 * bit count.eights x y

-- how many cells are set around the cell in column x + 1 of row y + 1
abbrev pub around_in : List ℕ → ℕ → ℕ → ℕ
around_in live x y =
    bit live x y + bit live (x + 1) y + bit live (x + 2) y
    + bit live x (y + 1) + bit live (x + 2) (y + 1)
    + bit live x (y + 2) + bit live (x + 1) (y + 2) + bit live (x + 2) (y + 2)

-- of planes in a row, plane n is set exactly where the number is n
pub record MarksAt (planes : ℕ) (exact : List (List ℕ)) (x y number : ℕ) : Type 0 where
  pub marks : (n : ℕ) → n < planes → bit (slice_index_or exact n []) x y ≡ (if number == n then 1 else 0)
