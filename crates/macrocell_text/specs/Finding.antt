-- Live cells that a walk over the squares of a macrocell finds.
use Rattle.std.specs.Prelude.{◌≡◌, ◌⊎◌, ℕ, ◌+◌, ◌*◌, ◌≤◌, Bool, true, false, List, ◌++◌, map, Option, None}
use Rattle.std.specs.List.{list_all}
use Rattle.std.specs.List.Sorted.{IsNonDecreasingBy, IsPermutation}
use Rattle.pattern_cells.specs.declared.cell.Cell.{Cell}
use Rattle.generation_engine.specs.Walk.{row_order}
use Rattle.macrocell_text.specs.declared.found.FoundCells.{FoundCells}
use Rattle.macrocell_text.specs.declared.listing_fault.ListingFault.{ListingFault}
use Rattle.macrocell_text.specs.declared.listing_fault.ListingFault.TheVariants.{OutOfPlane, Memory}
use Rattle.macrocell_lines.specs.Squares.{StateSquare}
use Rattle.macrocell_text.specs.LiveCells.{LiveCell, cells_of_root, lies_in_plane, listing_refusal, placed}
use Rattle.macrocell_text.specs.Maps.{root_of_squares}

abbrev pub are_inside : ℕ → List LiveCell → Bool
are_inside half cells = list_all (λ c. lies_in_plane (placed half c)) cells

-- these cells were found too, and all lie in the plane
pub record HasFound (old new : FoundCells) (cells : List LiveCell) : Type 0 where
  pub half_is : new.half ≡ old.half
  pub cells_are : new.cells.items ≡ old.cells.items ++ map (placed old.half) cells
  pub inside : are_inside old.half cells ≡ true

-- memory was refused, or one of these cells lies outside the plane
abbrev pub IsRefusedAt : ℕ → List LiveCell → ListingFault → Type 0
IsRefusedAt half cells fault = (fault ≡ Memory) ⊎ ((fault ≡ OutOfPlane) × (are_inside half cells ≡ false))

-- the live cells of squares' map, by row and then by column
pub record AreListed (squares : List StateSquare) (cells : List Cell) : Type 0 where
  pub all : IsPermutation (cells_of_root (root_of_squares squares)) cells
  pub ordered : IsNonDecreasingBy row_order cells
  pub allowed : listing_refusal squares ≡ None
