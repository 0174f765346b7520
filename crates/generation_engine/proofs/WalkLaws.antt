-- The sorted list of a universe's cells.
use Rattle.std.proofs.Common.{◌≡◌, ℕ, ◌+◌, ◌<◌, ◌≤◌, ◌⊎◌, true, false, List, [], length, map, inl, inr, refl, ap, ◌∙◌, arith}
use Rattle.std.specs.Prelude.{ℤ}
use Rattle.std.specs.List.Sorted.{IsNonDecreasingBy, IsPermutation}
use Rattle.std.proofs.lemmas.Bool.{and_parts, cases_lt}
use Rattle.std.proofs.lemmas.Bool.Decides.{nat_tests}
use Rattle.std.proofs.lemmas.Int.{ints}
use Rattle.std.proofs.lemmas.List.Sorted.{length_permutation}
use Rattle.generations_rule.specs.Place.{Place}
use Rattle.square_store.specs.Squares.{grid_at}
use Rattle.stamped_tree.specs.declared.cells.ListedCell.{ListedCell}
use Rattle.stamped_tree.specs.Walk.{AreGathered, IsNonzeroCell}
use Rattle.stamped_tree.proofs.Placing.{IsPlacing}
use Rattle.stamped_tree.proofs.Placing as placing
use Rattle.generation_engine.specs.Universe.{EngineValue, IsEngine, is_in_reach, is_in_universe, from_universe_edge, states_of, unstamped_writes}
use Rattle.generation_engine.specs.Walk.{AreCellsOf, from_middle_edge, is_coordinate_in_middle, is_in_middle, middle_order, middle_grid, cell_of_middle}
use Rattle.generation_engine.specs.EngineLeaf.{leaf_grid}

pub in_middle : IsPlacing 4294967296 cell_of_middle is_in_middle from_middle_edge middle_order
in_middle = record {
  state = λ c. refl;
  above = λ a b h. grind (arith, ints, nat_tests, h);
  before = λ a b e h. grind (arith, ints, nat_tests, e, h);
  order = λ a b wa wb h. in_order a b wa wb h;
  inside = λ at h. within at.x at.y h;
  same = λ c at h. grind (arith, ints, nat_tests, h);
  outside = λ c at wu wv out. grind (arith, ints, nat_tests, wu, wv, out);
}
  where
    in_order : (a b : ListedCell) → a.column < 4294967296 → b.column < 4294967296 → middle_order a ≤ middle_order b → (a.row < b.row) ⊎ ((a.row ≡ b.row) × (a.column ≤ b.column))
    in_order a b wa wb h = elim (cases_lt a.row b.row) [
      | inl above ↦ inl above
      | inr below ↦ (let e : a.row ≡ b.row = omega (arith, h, below, wa, wb) in inr (e, omega (arith, h, e)))
    ]

    within : (x y : ℤ) → is_in_middle (record { x = x; y = y }) ≡ true → (from_middle_edge x < 4294967296) × (from_middle_edge y < 4294967296)
    within x y h = (grind (arith, ints, nat_tests, h), grind (arith, ints, nat_tests, h))

-- what is in the middle is in the universe, at these columns and rows
middle_column : (x : ℤ) → is_coordinate_in_middle x ≡ true → from_universe_edge x ≡ 2147483648 + from_middle_edge x
middle_column x h = grind (arith, ints, nat_tests, h)

in_universe : (x y : ℤ) → is_in_middle (record { x = x; y = y }) ≡ true → is_in_universe (record { x = x; y = y }) ≡ true
in_universe x y h = grind (arith, ints, nat_tests, h)

-- what is not in the middle no generation has reached
pub not_reached : (g : ℕ) (x y : ℤ) → g ≤ 536870912 → is_in_middle (record { x = x; y = y }) ≡ false → is_in_reach g (record { x = x; y = y }) ≡ false
not_reached g x y few out = grind (arith, ints, few, out)

pub read_in_middle : (e : EngineValue) (at : Place) → is_in_middle at ≡ true → states_of e at ≡ (middle_grid e.store e.root (from_middle_edge at.x) (from_middle_edge at.y)).state
read_in_middle e at here =
    let parts : (is_coordinate_in_middle at.x ≡ true) × (is_coordinate_in_middle at.y ≡ true) = and_parts _ _ here in
    rw (in_universe at.x at.y here)
    (ap (λ z. (grid_at leaf_grid 8 e.store 30 e.root z (from_universe_edge at.y)).state) (middle_column at.x parts.0)
    ∙ ap (λ z. (grid_at leaf_grid 8 e.store 30 e.root (2147483648 + from_middle_edge at.x) z).state) (middle_column at.y parts.1))

pub walked : (e : EngineValue) → IsEngine e → (cells : List ListedCell) → IsNonDecreasingBy middle_order cells → AreGathered (IsNonzeroCell 4294967296 (middle_grid e.store e.root) 0 0) cells → AreCellsOf (states_of e) (map cell_of_middle cells)
walked e is cells order all = placing.walked 4294967296 cell_of_middle is_in_middle from_middle_edge middle_order in_middle (middle_grid e.store e.root) (unstamped_writes (states_of e)) cells order all (read_in_middle e)
    (λ at out. is.reach at (not_reached e.generation at.x at.y is.generations out))

pub sorted_counted : (n : ℕ) (start found sorted : List ListedCell) → start ≡ [] → length found ≡ length start + n → IsPermutation found sorted → length sorted ≡ n
sorted_counted n start found sorted none count moved = let same = length_permutation found sorted moved in let empty = ap length none in omega (arith, same, count, empty)
