-- Cells by column and row, and as they are listed.
use Rattle.std.proofs.Common.{◌≡◌, ℕ, ◌-◌, ◌<◌, List, [], ◌∷◌, ◌++◌, inl, inr, map, refl, sym, ap, subst, arith, zero, suc}
use Rattle.std.specs.Prelude.{Contains, ◌+ℤ◌, pos, negsuc, ◌^◌, length, slice_index_or}
use Rattle.std.specs.List.Sorted.{IsNonDecreasingBy, IsPermutation}
use Rattle.std.proofs.lemmas.Int.{ints}
use Rattle.std.proofs.lemmas.List.{get_or-map, length-map}
use Rattle.std.proofs.lemmas.List.Elements.{Contains-append_cases}
use Rattle.std.proofs.lemmas.List.Sorted.{Contains-permutation, IsPermutation-map, IsPermutation-sym}
use Rattle.pattern_cells.specs.declared.cell.Cell.{Cell}
use Rattle.stamped_tree.specs.declared.cells.ListedCell.{ListedCell}
use Rattle.stamped_tree.proofs.Gathering.{contains_head, contains_tail}
use Rattle.generation_engine.specs.Walk.{AreInMiddle, cell_of_middle, from_middle_edge, middle_order, row_order, spot_of}

-- a column or a row of the middle is told by its coordinate
pub edge_of : (n : ℕ) → n < 4294967296 → from_middle_edge (negsuc (2 ^ 31 - 1) +ℤ pos n) ≡ n
edge_of n h = grind (arith, ints, h)

pub spot_of_cell : (c : ListedCell) → c.column < 4294967296 → c.row < 4294967296 → spot_of (cell_of_middle c) ≡ c
spot_of_cell c hu hv = λ i. record { column = edge_of c.column hu i; row = edge_of c.row hv i; state = c.state }

only_one : (c d : Cell) → Contains (c ∷ []) d → d ≡ c
only_one c d (zero, l, is) = sym is
only_one c d (suc k, l, is) = absurd (omega (arith, l))

-- so is a cell that is put behind cells of the middle
pub in_middle_more : (cells : List Cell) (c : ListedCell) → c.column < 4294967296 → c.row < 4294967296 → AreInMiddle cells → AreInMiddle (cells ++ cell_of_middle c ∷ [])
in_middle_more cells c hu hv are d h = elim (Contains-append_cases cells (cell_of_middle c ∷ []) d h) [
  | inl o ↦ are d o
  | inr one ↦ (let e : d ≡ cell_of_middle c = only_one (cell_of_middle c) d one in subst (λ x. cell_of_middle (spot_of x) ≡ x) (sym e) (ap cell_of_middle (spot_of_cell c hu hv)))
]

pub placed_again : (cells : List Cell) → AreInMiddle cells → map cell_of_middle (map spot_of cells) ≡ cells
placed_again [] are = refl
placed_again (c ∷ cells) are = λ i. are c (contains_head c cells) i ∷ placed_again cells (λ d h. are d (contains_tail c d cells h)) i

pub in_middle_moved : (cells sorted : List Cell) → IsPermutation cells sorted → AreInMiddle cells → AreInMiddle sorted
in_middle_moved cells sorted moved are c h = are c (Contains-permutation sorted cells c (IsPermutation-sym cells sorted moved) h)

pub spots_sorted : (cells : List Cell) → IsNonDecreasingBy row_order cells → IsNonDecreasingBy middle_order (map spot_of cells)
spots_sorted cells order i j d before inside =
    let same = length-map cells spot_of in
    let few : j < length cells = omega (arith, inside, same) in
    let one : slice_index_or (map spot_of cells) i d ≡ spot_of (slice_index_or cells i (cell_of_middle d)) = get_or-map spot_of cells i (cell_of_middle d) d (omega (arith, before, few)) in
    let other : slice_index_or (map spot_of cells) j d ≡ spot_of (slice_index_or cells j (cell_of_middle d)) = get_or-map spot_of cells j (cell_of_middle d) d few in
    rw (one, other) (order i j (cell_of_middle d) before few)

pub spots_moved : (cells sorted : List Cell) → IsPermutation cells sorted → IsPermutation (map spot_of cells) (map spot_of sorted)
spots_moved cells sorted moved = IsPermutation-map spot_of cells sorted moved
