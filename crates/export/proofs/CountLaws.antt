-- The cells that are listed are as many as there are.
use Rattle.std.proofs.Common.{◌≡◌, ◌≢◌, ℕ, zero, suc, ◌+◌, ◌-◌, ◌^◌, ◌<◌, ◌≤◌, int_eq, int_le, int_lt, Bool, true, false, List, [], ◌∷◌, length, refl, sym, ◌∙◌, arith, inl, inr, if◌then◌else◌}
use Rattle.std.specs.Prelude.{not, ◌==◌, ◌&&◌, unwrap_or, ℤ, pos, negsuc, ◌+ℤ◌, ◌-ℤ◌, nat_abs}
use Rattle.std.specs.List.{list_all}
use Rattle.std.proofs.lemmas.Bool.{and_parts, cases_Bool}
use Rattle.std.proofs.lemmas.Bool.Decides.{nat_tests}
use Rattle.std.proofs.lemmas.Int.{ints}
use Rattle.generations_rule.specs.Place.{Place, is_place, moved}
use Rattle.generations_rule.specs.Evolution.{at}
use Rattle.pattern_cells.specs.declared.cell.Cell.{Cell}
use Rattle.pattern_cells.specs.Cells.{place_of, are_nonzero, is_sorted}
use Rattle.edit_stamps.specs.Edit.{listed}
use Rattle.edit_stamps.proofs.SortedCells.{listed_behind, listed_here, listed_there, sorted_tail}
use Rattle.bitplane_kernel.specs.Population.{one_unless_dead, population, sum_from}
use Rattle.generation_engine.specs.Universe.{universe_corner}
use Rattle.generation_engine.specs.Walk.{AreCellsOf, is_coordinate_in_middle, is_in_middle}
use Rattle.generation_engine.proofs.Counting.{population_none, population_same, sum_added, sum_same}
use Rattle.export.specs.Export.{population_at, population_in_universe}
use Rattle.export.specs.Laws.{CountsCells}

-- ---- one of many

abbrev one_if : Bool → ℕ
one_if b = if b then 1 else 0

-- 1 for a number, and 0 for all others
abbrev only : ℕ → ℕ → ℕ
only k i = one_if (i == k)

sum_of_none : (s n k : ℕ) → k < s → sum_from s n (only k) ≡ 0
unfolding sum_from
sum_of_none s zero k past = refl
sum_of_none s (suc n) k past =
    let other : (s == k) ≡ false = grind (arith, nat_tests, past) in
    let rest : sum_from (suc s) n (only k) ≡ 0 = sum_of_none (suc s) n k (omega (arith, past)) in
    rw other (omega (arith, rest))

sum_of_one : (s n k : ℕ) → s ≤ k → k < s + n → sum_from s n (only k) ≡ 1
unfolding sum_from
sum_of_one s zero k low high = absurd (omega (arith, low, high))
sum_of_one s (suc n) k low high = elim (cases_Bool (s == k)) [
  | inl same ↦ (let is : s ≡ k = grind (arith, nat_tests, same) in
      let rest : sum_from (suc s) n (only k) ≡ 0 = sum_of_none (suc s) n k (omega (arith, is)) in
      rw same (omega (arith, rest)))
  | inr other ↦ (let later : suc s ≤ k = grind (arith, nat_tests, low, other) in
      let rest : sum_from (suc s) n (only k) ≡ 1 = sum_of_one (suc s) n k later (omega (arith, high)) in
      rw other (omega (arith, rest)))
]

-- ---- one cell of the universe

abbrev at_cell : ℕ → ℕ → Place
at_cell u v = moved universe_corner (pos u) (pos v)

-- 1 at a cell's place, and 0 everywhere else
abbrev spot : Cell → ℕ → ℕ → ℕ
spot a u v = one_if (is_place (place_of a) (at_cell u v))

-- how far a coordinate is from the universe's edge
abbrev from_edge : ℤ → ℕ
from_edge x = nat_abs (x -ℤ negsuc (2 ^ 32 - 1))

edge_is : (x : ℤ) → is_coordinate_in_middle x ≡ true → (x ≡ negsuc (2 ^ 32 - 1) +ℤ pos (from_edge x)) × (from_edge x < 2 ^ 33)
edge_is x inside =
    let parts : (int_le (negsuc (2 ^ 31 - 1)) x ≡ true) × (int_lt x (pos (2 ^ 31)) ≡ true) = and_parts _ _ inside in
    (omega (arith, ints, parts.0, parts.1), omega (arith, ints, parts.0, parts.1))

same_coordinate : (k u : ℕ) → int_eq (negsuc (2 ^ 32 - 1) +ℤ pos k) (negsuc (2 ^ 32 - 1) +ℤ pos u) ≡ (u == k)
same_coordinate k u = elim (cases_Bool (u == k)) [
  | inl same ↦ (let is : u ≡ k = grind (arith, nat_tests, same) in rw (same, is) grind (arith, ints))
  | inr other ↦ (let not_is : u ≢ k = grind (arith, nat_tests, other) in rw other grind (arith, ints, not_is))
]

spot_is : (a : Cell) (k l u v : ℕ) → a.x ≡ negsuc (2 ^ 32 - 1) +ℤ pos k → a.y ≡ negsuc (2 ^ 32 - 1) +ℤ pos l → spot a u v ≡ one_if ((u == k) && (v == l))
spot_is a k l u v x_is y_is = rw (x_is, y_is, same_coordinate k u, same_coordinate l v) refl

in_row : (k l u v : ℕ) → (v == l) ≡ true → one_if ((u == k) && (v == l)) ≡ only k u
in_row k l u v same = elim (cases_Bool (u == k)) [ inl here ↦ rw (here, same) refl | inr there ↦ rw there refl ]

off_row : (k l u v : ℕ) → (v == l) ≡ false → one_if ((u == k) && (v == l)) ≡ 0
off_row k l u v other = elim (cases_Bool (u == k)) [ inl here ↦ rw (here, other) refl | inr there ↦ rw there refl ]

sum_of_zeros : (s n : ℕ) → sum_from s n (λ i. 0) ≡ 0
unfolding sum_from
sum_of_zeros s zero = refl
sum_of_zeros s (suc n) = let rest = sum_of_zeros (suc s) n in omega (arith, rest)

row : (a : Cell) (k l n v : ℕ) → a.x ≡ negsuc (2 ^ 32 - 1) +ℤ pos k → a.y ≡ negsuc (2 ^ 32 - 1) +ℤ pos l → k < n → sum_from 0 n (λ u. spot a u v) ≡ only l v
row a k l n v x_is y_is fits = elim (cases_Bool (v == l)) [
  | inl same ↦ sum_same 0 n (λ u. spot a u v) (only k) (λ u low high. spot_is a k l u v x_is y_is ∙ in_row k l u v same) ∙ sum_of_one 0 n k (omega arith) (omega (arith, fits)) ∙ rw same refl
  | inr other ↦ sum_same 0 n (λ u. spot a u v) (λ u. 0) (λ u low high. spot_is a k l u v x_is y_is ∙ off_row k l u v other) ∙ sum_of_zeros 0 n ∙ rw other refl
]

-- one cell is at one place of the universe
one_spot : (a : Cell) (n : ℕ) → 2 ^ 33 ≤ n → is_in_middle (place_of a) ≡ true → sum_from 0 n (λ v. sum_from 0 n (λ u. spot a u v)) ≡ 1
one_spot a n wide inside =
    let parts = and_parts _ _ inside in
    let x = edge_is a.x parts.0 in
    let y = edge_is a.y parts.1 in
    sum_same 0 n _ (only (from_edge a.y)) (λ v low high. row a (from_edge a.x) (from_edge a.y) n v x.0 y.0 (omega (arith, x.1, wide))) ∙ sum_of_one 0 n (from_edge a.y) (omega arith) (omega (arith, y.1, wide))

-- ---- a list of cells

-- what a list lists at a place
abbrev state_in : List Cell → Place → ℕ
state_in cells c = unwrap_or (listed cells c) 0

one_alive : (state : ℕ) → not (state == 0) ≡ true → one_unless_dead state ≡ 1
one_alive state alive = elim (cases_Bool (state == 0)) [ inl dead ↦ absurd (let clash : not (state == 0) ≡ false = rw dead refl in cc) | inr lives ↦ rw lives refl ]

first_counted : (a : Cell) (cells : List Cell) (c : Place) → is_sorted (a ∷ cells) ≡ true → not (a.state == 0) ≡ true
    → one_unless_dead (state_in (a ∷ cells) c) ≡ one_if (is_place (place_of a) c) + one_unless_dead (state_in cells c)
first_counted a cells c sorted alive = elim (cases_Bool (is_place (place_of a) c)) [
  | inl here ↦ rw (listed_here a cells c here, listed_behind a cells c sorted here, here, one_alive a.state alive) refl
  | inr there ↦ rw (listed_there a cells c there, there) (omega arith)
]

-- as many cells of the universe are alive as are listed
counted : (cells : List Cell) (n : ℕ) → 2 ^ 33 ≤ n → is_sorted cells ≡ true → are_nonzero cells ≡ true → list_all (λ cell. is_in_middle (place_of cell)) cells ≡ true
    → population n (λ u v. state_in cells (at_cell u v)) ≡ length cells
counted [] n wide sorted alive inside = population_none n
counted (a ∷ cells) n wide sorted alive inside =
    let lives = and_parts _ _ alive in
    let within = and_parts _ _ inside in
    let rest = counted cells n wide (sorted_tail a cells sorted) lives.1 within.1 in
    let rows : population n (λ u v. state_in (a ∷ cells) (at_cell u v)) ≡ sum_from 0 n (λ v. sum_from 0 n (λ u. spot a u v) + sum_from 0 n (λ u. one_unless_dead (state_in cells (at_cell u v)))) =
    sum_same 0 n _ _ (λ v low high. sum_same 0 n _ _ (λ u left right. first_counted a cells (at_cell u v) sorted lives.0) ∙ sum_added 0 n (λ u. spot a u v) (λ u. one_unless_dead (state_in cells (at_cell u v)))) in
    let both = sum_added 0 n (λ v. sum_from 0 n (λ u. spot a u v)) (λ v. sum_from 0 n (λ u. one_unless_dead (state_in cells (at_cell u v)))) in
    let own = one_spot a n wide within.0 in
    rows ∙ both ∙ omega (arith, own, rest)

-- the sorted list of a map's cells is as long as they are many
pub population_is : (h : Place → ℕ) (cells : List Cell) → AreCellsOf h cells → list_all (λ cell. is_in_middle (place_of cell)) cells ≡ true → length cells ≡ population_in_universe h
population_is h cells are inside =
    sym (counted cells (2 ^ 33) (omega arith) are.sorted are.nonzero inside)
    ∙ population_same (2 ^ 33) (λ u v. state_in cells (at_cell u v)) (λ u v. h (at_cell u v)) (λ u v left right. are.states (at_cell u v))

pub counts_cells : CountsCells
counts_cells = record {
  population = λ r f g. population_is (at r f g);
  too_many = λ r f g limit cells some are inside.
      let same : length cells ≡ population_at r f g = population_is (at r f g) cells are inside in
      (λ refused. omega (arith, same, refused.1), λ more. (some, omega (arith, same, more)));
}
