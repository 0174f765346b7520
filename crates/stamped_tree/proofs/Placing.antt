-- Cells of a square that were gathered, sorted, and placed at their coordinates.
use Rattle.std.proofs.Common.{◌≡◌, ◌≢◌, ℕ, zero, suc, ◌-◌, ◌<◌, ◌≤◌, ◌⊎◌, ◌==◌, Bool, true, false, List, [], ◌∷◌, map, inl, inr, refl, sym, ap, ◌∙◌, subst, arith}
use Rattle.std.specs.Prelude.{◌&&◌, not, Contains, Option, None, Some, unwrap_or, ℤ}
use Rattle.std.specs.List.{IsDistinct}
use Rattle.std.specs.List.Sorted.{IsNonDecreasingBy, IsPermutation}
use Rattle.std.proofs.lemmas.Bool.{cases_Bool, cases_lt}
use Rattle.std.proofs.lemmas.Bool.Decides.{nat_tests}
use Rattle.std.proofs.lemmas.List.Sorted.{Contains-permutation, IsPermutation-sym}
use Rattle.std.proofs.lemmas.Map.Keys.{IsDistinct-IsPermutation}
use Rattle.generations_rule.specs.Place.{Place, is_before, is_place}
use Rattle.pattern_cells.specs.declared.cell.Cell.{Cell}
use Rattle.pattern_cells.specs.Cells.{place_of, is_sorted, are_nonzero}
use Rattle.edit_stamps.specs.Edit.{listed}
use Rattle.stamped_writes.specs.Write.{Writes}
use Rattle.square_store.specs.Grid.{Grid}
use Rattle.stamped_tree.specs.declared.cells.ListedCell.{ListedCell}
use Rattle.stamped_tree.specs.Drawing.{state_listed}
use Rattle.stamped_tree.specs.Walk.{AreGathered, AreNonzeroCells, IsNonzeroCell, Gathers, is_one_spot}
use Rattle.stamped_tree.proofs.Gathering.{contains_head, contains_tail}

-- ---- what was gathered from nothing, in another order

spots_flip : (c d : ListedCell) → is_one_spot c d ≡ is_one_spot d c
spots_flip c d = grind (arith, nat_tests)

none_distinct : IsDistinct is_one_spot []
unfolding IsDistinct
none_distinct = tt

pub sorted_gathered : (IsCell : ListedCell → Type 0) (start found sorted : List ListedCell) → start ≡ [] → Gathers IsCell start found → IsPermutation found sorted → AreGathered IsCell sorted
sorted_gathered IsCell start found sorted none g moved = record {
  got = λ c i. Contains-permutation found sorted c moved (g.got c i);
  only = λ c h. elim (g.only c (Contains-permutation sorted found c (IsPermutation-sym found sorted moved) h)) [ inl o ↦ absurd (no_cell c o) | inr i ↦ i ];
  once = IsDistinct-IsPermutation is_one_spot spots_flip found sorted moved (g.once (subst (λ cells. IsDistinct is_one_spot cells) (sym none) none_distinct) (λ c d h i. absurd (no_cell c h)));
}
  where
    no_cell : (c : ListedCell) → Contains start c → ⊥
    no_cell c h = let l = (subst (λ cells. Contains cells c) none h).1 in omega (arith, l)

-- ---- the states

-- a cell in a column and a row, and its state
pub record IsCellAt (cells : List ListedCell) (u v s : ℕ) (c : ListedCell) : Type 0 where
  pub there : Contains cells c
  pub column : c.column ≡ u
  pub row : c.row ≡ v
  pub state : c.state ≡ s

cell_found : (cells : List ListedCell) (u v s : ℕ) → state_listed cells u v ≡ Some s → (c : ListedCell) × IsCellAt cells u v s c
cell_found [] u v s e = absurd (cc)
cell_found (c ∷ cells) u v s e = elim (cases_Bool (c.column == u && c.row == v)) [
  | inl t ↦ (c, record { there = contains_head c cells; column = grind (arith, nat_tests, t); row = grind (arith, nat_tests, t); state = the_state (rw t at e) })
  | inr f ↦ (let r = cell_found cells u v s (rw f at e) in (r.0, record { there = contains_tail c r.0 cells r.1.there; column = r.1.column; row = r.1.row; state = r.1.state }))
]
  where
    the_state : Some c.state ≡ Some s → c.state ≡ s
    the_state z = cc

cell_missed : (cells : List ListedCell) (u v : ℕ) (c : ListedCell) → state_listed cells u v ≡ None → Contains cells c → c.column ≡ u → c.row ≡ v → ⊥
cell_missed [] u v c e (k, l, is) column row = absurd (omega (arith, l))
cell_missed (d ∷ cells) u v c e (zero, l, is) column row =
    let t : (d.column == u && d.row == v) ≡ true = (let eu : d.column ≡ u = ap (λ (c : ListedCell). c.column) is ∙ column in let ev : d.row ≡ v = ap (λ (c : ListedCell). c.row) is ∙ row in grind (arith, nat_tests, eu, ev)) in
    other (rw t at e)
  where
    other : Some d.state ≡ None → ⊥
    other z = cc
cell_missed (d ∷ cells) u v c e (suc k, l, is) column row = elim (cases_Bool (d.column == u && d.row == v)) [
  | inl t ↦ other (rw t at e)
  | inr f ↦ cell_missed cells u v c (rw f at e) (k, omega (arith, l), is) column row
]
  where
    other : Some d.state ≡ None → ⊥
    other z = cc

state_walked : (n : ℕ) (f : Grid) (cells : List ListedCell) (u v : ℕ) → AreGathered (IsNonzeroCell n f 0 0) cells → u < n → v < n → unwrap_or (state_listed cells u v) 0 ≡ (f u v).state
state_walked n f cells u v are hu hv = go (state_listed cells u v) refl (f u v).state refl
  where
    go : (o : Option ℕ) → state_listed cells u v ≡ o → (s : ℕ) → (f u v).state ≡ s → unwrap_or (state_listed cells u v) 0 ≡ (f u v).state
    go (Some s) e r e' = (let c = cell_found cells u v s e in let i = are.only c.0 c.1.there in
        let column = c.1.column in let row = c.1.row in
        let eu : c.0.column - 0 ≡ u = omega (arith, column) in let ev : c.0.row - 0 ≡ v = omega (arith, row) in
        ap (λ o. unwrap_or o 0) e ∙ sym c.1.state ∙ sym i.state ∙ ap (λ z. (f z (c.0.row - 0)).state) eu ∙ ap (λ z. (f u z).state) ev)
    go None e zero e' = ap (λ o. unwrap_or o 0) e ∙ sym e'
    go None e (suc s) e' =
        let c : ListedCell = record { column = u; row = v; state = suc s } in
        absurd (cell_missed cells u v c e (are.got c (record { from_left = omega arith; from_top = omega arith; column = omega (arith, hu); row = omega (arith, hv); state = (let eu : u - 0 ≡ u = omega arith in let ev : v - 0 ≡ v = omega arith in rw (eu, ev) e'); nonzero = λ z. omega (arith, z) })) refl refl)

-- ---- coordinates

-- columns and rows of so many are placed at coordinates: within these, each at one, and in their order
pub record IsPlacing (width : ℕ) (cell_of : ListedCell → Cell) (is_within : Place → Bool) (from_edge : ℤ → ℕ) (row_of : ListedCell → ℕ) : Type 0 where
  pub state : (c : ListedCell) → (cell_of c).state ≡ c.state
  pub above : (a b : ListedCell) → a.row < b.row → is_before (place_of (cell_of a)) (place_of (cell_of b)) ≡ true
  pub before : (a b : ListedCell) → a.row ≡ b.row → a.column < b.column → is_before (place_of (cell_of a)) (place_of (cell_of b)) ≡ true
  pub order : (a b : ListedCell) → a.column < width → b.column < width → row_of a ≤ row_of b → (a.row < b.row) ⊎ ((a.row ≡ b.row) × (a.column ≤ b.column))
  pub inside : (at : Place) → is_within at ≡ true → (from_edge at.x < width) × (from_edge at.y < width)
  pub same : (c : ListedCell) (at : Place) → is_within at ≡ true → is_place (place_of (cell_of c)) at ≡ (c.column == from_edge at.x && c.row == from_edge at.y)
  pub outside : (c : ListedCell) (at : Place) → c.column < width → c.row < width → is_within at ≡ false → is_place (place_of (cell_of c)) at ≡ false

not_zero : (n : ℕ) → n ≢ 0 → not (n == 0) ≡ true
not_zero zero h = absurd (h refl)
not_zero (suc n) h = grind (arith, nat_tests)

other_columns : (a b : ListedCell) → a.row ≡ b.row → a.column ≤ b.column → is_one_spot a b ≡ false → a.column < b.column
other_columns a b e before apart = elim (cases_lt a.column b.column) [
  | inl less ↦ less
  | inr after ↦ (let e' : a.column ≡ b.column = omega (arith, before, after) in absurd (grind (arith, nat_tests, apart, e, e')))
]

-- the cells stand on so many columns and rows
abbrev pub AreOn : ℕ → List ListedCell → Type 0
AreOn width cells = (c : ListedCell) → Contains cells c → (c.column < width) × (c.row < width)

module _ (width : ℕ) (cell_of : ListedCell → Cell) (is_within : Place → Bool) (from_edge : ℤ → ℕ) (row_of : ListedCell → ℕ) (placing : IsPlacing width cell_of is_within from_edge row_of) where
  cells_are_nonzero : (cells : List ListedCell) → ((c : ListedCell) → Contains cells c → c.state ≢ 0) → are_nonzero (map cell_of cells) ≡ true
  cells_are_nonzero [] all = refl
  cells_are_nonzero (c ∷ cells) all = rw (placing.state c, not_zero c.state (all c (contains_head c cells))) (cells_are_nonzero cells (λ d h. all d (contains_tail c d cells h)))

  sorted_cells : (cells : List ListedCell) → AreOn width cells → IsDistinct is_one_spot cells → IsNonDecreasingBy row_of cells → is_sorted (map cell_of cells) ≡ true
  unfolding IsDistinct
  sorted_cells [] on distinct order = refl
  sorted_cells (a ∷ []) on distinct order = refl
  sorted_cells (a ∷ b ∷ cells) on distinct order =
      let first : is_before (place_of (cell_of a)) (place_of (cell_of b)) ≡ true = elim (placing.order a b (on a (contains_head a (b ∷ cells))).0 (on b (contains_tail a b (b ∷ cells) (contains_head b cells))).0 (order 0 1 a (omega arith) (omega arith))) [
        | inl above ↦ placing.above a b above
        | inr here ↦ placing.before a b here.0 (other_columns a b here.0 here.1 distinct.0.0)
      ] in
      rw first (sorted_cells (b ∷ cells) (λ c h. on c (contains_tail a c (b ∷ cells) h)) distinct.1 (λ i j d h l. order (suc i) (suc j) d (omega (arith, h)) (omega (arith, l))))

  listed_inside : (cells : List ListedCell) (at : Place) → is_within at ≡ true → listed (map cell_of cells) at ≡ state_listed cells (from_edge at.x) (from_edge at.y)
  listed_inside [] at h = refl
  listed_inside (c ∷ cells) at h =
      let below = listed_inside cells at h in
      elim (cases_Bool (c.column == from_edge at.x && c.row == from_edge at.y)) [
        | inl t ↦ rw (placing.same c at h, t, placing.state c) refl
        | inr f ↦ rw (placing.same c at h, f) below
      ]

  listed_outside : (cells : List ListedCell) (at : Place) → AreOn width cells → is_within at ≡ false → listed (map cell_of cells) at ≡ None
  listed_outside [] at on h = refl
  listed_outside (c ∷ cells) at on h = rw (placing.outside c at (on c (contains_head c cells)).0 (on c (contains_head c cells)).1 h) (listed_outside cells at (λ d m. on d (contains_tail c d cells m)) h)

  -- gathered and sorted, they are the cells of a map with the square's states within these coordinates and none outside
  pub walked : (f : Grid) (p : Writes) (cells : List ListedCell) → IsNonDecreasingBy row_of cells → AreGathered (IsNonzeroCell width f 0 0) cells
      → ((at : Place) → is_within at ≡ true → (p at).state ≡ (f (from_edge at.x) (from_edge at.y)).state) → ((at : Place) → is_within at ≡ false → (p at).state ≡ 0) → AreNonzeroCells p (map cell_of cells)
  walked f p cells order all within beyond = record {
    sorted = sorted_cells cells on all.once order;
    nonzero = cells_are_nonzero cells (λ c h. (all.only c h).nonzero);
    states = λ at. go at (is_within at) refl;
  }
    where
      on : AreOn width cells
      on c h = let i = all.only c h in let w = i.column in let w' = i.row in (omega (arith, w), omega (arith, w'))

      go : (at : Place) (b : Bool) → is_within at ≡ b → unwrap_or (listed (map cell_of cells) at) 0 ≡ (p at).state
      go at false out = ap (λ o. unwrap_or o 0) (listed_outside cells at on out) ∙ sym (beyond at out)
      go at true here = ap (λ o. unwrap_or o 0) (listed_inside cells at here) ∙ state_walked width f cells (from_edge at.x) (from_edge at.y) all (placing.inside at here).0 (placing.inside at here).1 ∙ sym (within at here)
