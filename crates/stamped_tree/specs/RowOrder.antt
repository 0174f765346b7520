-- The cells of squares, row by row.
use Rattle.std.specs.Prelude.{◌≡◌, ℕ, zero, suc, ◌+◌, ◌-◌, ◌<◌, ◌≤◌, ◌==◌, Bool, if◌then◌else◌, List, [], ◌∷◌, ◌++◌}
use Rattle.std.specs.List.{All, flat_map}
use Rattle.generations_rule.specs.Place.{Place}
use Rattle.square_store.specs.Squares.{Held, side_at, IsAt, grid_at}
use Rattle.stamped_tree.specs.declared.cells.ListedCell.{ListedCell}
use Rattle.stamped_tree.specs.declared.leaf_kind.PlaneLeaf.{PlaneLeaf}
use Rattle.stamped_tree.specs.declared.walk.BandPart.{BandPart}
use Rattle.stamped_tree.specs.declared.walk.BandSquare.{BandSquare}
use Rattle.stamped_tree.specs.LeafKind.{plane_grid}
use Rattle.stamped_tree.specs.Sought.{AgreeOn, seeks, spot}

-- the first n of some lists, one behind another
abbrev pub strung : {X : Type 0} → (ℕ → List X) → ℕ → List X
strung f zero = []
strung f (suc n) = strung f n ++ f n

-- the cell, unless its state is 0
abbrev pub live_cell : ListedCell → List ListedCell
live_cell c = if c.state == 0 then [] else c ∷ []

-- the cells of a row whose state is not 0, from a column on, where g has the states
abbrev pub row_cells : (ℕ → ℕ) → ℕ → ℕ → ℕ → List ListedCell
row_cells g left row n = strung (λ u. live_cell (record { column = left + u; row = row; state = g u })) n

-- a state that is looked for; 0 where its place is not
abbrev pub sought_state : (Place → Bool) → ℕ → ℕ → ℕ → ℕ
sought_state f u v state = if f (spot u v) then state else 0

-- a cell with the state that is looked for
abbrev pub sought_cell : (Place → Bool) → ListedCell → ListedCell
sought_cell f c = record { column = c.column; row = c.row; state = sought_state f c.column c.row c.state }

-- a square of level k stands there, on the plane, and knows what is looked for on it, where its rows begin in this one of the plane
pub record IsInBand (s : Held PlaneLeaf) (f : Place → Bool) (k top : ℕ) (q : BandSquare) : Type 0 where
  pub stands : IsAt s k q.at.part
  pub within : q.at.left + side_at 8 k ≤ 2147483648
  pub agrees : AgreeOn q.at.left top (side_at 8 k) f (seeks q.sought)

abbrev pub AreInBand : Held PlaneLeaf → (Place → Bool) → (k top : ℕ) → List BandSquare → Type 0
AreInBand s f k top squares = All (IsInBand s f k top) squares

-- the cells of a square that are looked for in its row v, which is a row of the plane
abbrev pub square_row : Held PlaneLeaf → (Place → Bool) → ℕ → BandPart → ℕ → ℕ → List ListedCell
square_row s f k q v row = row_cells (λ u. sought_state f (q.left + u) row (grid_at plane_grid 8 s k q.part u v).state) q.left row (side_at 8 k)

-- those of the squares of a band, side by side
abbrev pub band_row : Held PlaneLeaf → (Place → Bool) → ℕ → List BandSquare → ℕ → ℕ → List ListedCell
band_row s f k squares v row = flat_map (λ q. square_row s f k q.at v row) squares

-- the cells of a band from a row of the plane on, row by row
abbrev pub band_cells : Held PlaneLeaf → (Place → Bool) → ℕ → ℕ → List BandSquare → List ListedCell
band_cells s f k top squares = strung (λ v. band_row s f k squares v (top + v)) (side_at 8 k)

-- the list gained the square, or nothing where none of its cells is looked for
pub record IsPut (s : Held PlaneLeaf) (f : Place → Bool) (k top : ℕ) (q : BandPart) (old new : List BandSquare) : Type 0 where
  pub squares : List BandSquare
  pub pushed : new ≡ old ++ squares
  pub stand : AreInBand s f k top squares
  pub same : (v : ℕ) → v < side_at 8 k → band_row s f k squares v (top + v) ≡ square_row s f k q v (top + v)

-- the row of a square of level k in which its southern half begins, or its northern one
abbrev pub half_top : ℕ → Bool → ℕ
half_top k is_south = if is_south then side_at 8 (k - 1) else 0

-- the list gained the halves of squares of level k: a band of the level below with the cells of their rows
pub record IsHalved (s : Held PlaneLeaf) (f : Place → Bool) (k top : ℕ) (is_south : Bool) (squares old new : List BandSquare) : Type 0 where
  pub halves : List BandSquare
  pub pushed : new ≡ old ++ halves
  pub stand : AreInBand s f (k - 1) (top + half_top k is_south) halves
  pub same : (v : ℕ) → v < side_at 8 (k - 1)
      → band_row s f (k - 1) halves v (top + half_top k is_south + v) ≡ band_row s f k squares (half_top k is_south + v) (top + half_top k is_south + v)
