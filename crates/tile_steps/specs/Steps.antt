-- One generation of rows and of windows.
use Rattle.std.specs.Prelude.{◌≡◌, ℕ, ◌+◌, ◌<◌, ◌≤◌, List, [], slice_index_or}
use Rattle.generations_rule.specs.Rule.{GenerationsRule, next_state}
use Rattle.bitplane_kernel.specs.Planes.{number}
use Rattle.bitplane_kernel.specs.Step.{one_if_live}
use Rattle.tile_steps.specs.declared.planes.RowPlane.{RowPlane}
use Rattle.tile_steps.specs.declared.window.WindowPlane.{WindowPlane}
use Rattle.tile_steps.specs.Rows.{bit, state_in}

-- how many neighbours of the cell in column x + 1 are live, by the live cells of the rows above and below
abbrev pub live_by_rows : ℕ → List ℕ → List RowPlane → List ℕ → ℕ → ℕ → ℕ
live_by_rows n above planes below x y =
    bit above x y + bit above (x + 1) y + bit above (x + 2) y
    + one_if_live (state_in n planes x y) + one_if_live (state_in n planes (x + 2) y)
    + bit below x y + bit below (x + 1) y + bit below (x + 2) y

-- four rows, of states one generation later, but for the first and last column
pub record StepsRows (n : ℕ) (r : GenerationsRule) (above : List ℕ) (old : List RowPlane) (below : List ℕ) (new : List RowPlane) : Type 0 where
  pub inner : (x y : ℕ) → x < 62 → y < 4 → state_in n old (x + 1) y < r.states → state_in n new (x + 1) y ≡ next_state r (state_in n old (x + 1) y) (live_by_rows n above old below x y)

-- plane p of a window
abbrev pub window_plane : List WindowPlane → ℕ → List ℕ
window_plane planes p = (slice_index_or planes p (record { rows = [] })).rows

-- the state in column x of row y of a window
abbrev pub window_state : ℕ → List WindowPlane → ℕ → ℕ → ℕ
window_state n planes x y = number n (λ p. bit (window_plane planes p) x y)

-- how many neighbours of the cell in column x + 1 of row y + 1 are live
abbrev pub live_in : ℕ → List WindowPlane → ℕ → ℕ → ℕ
live_in n planes x y =
    let live : ℕ → ℕ → ℕ = λ u v. one_if_live (window_state n planes u v) in
    live x y + live (x + 1) y + live (x + 2) y
    + live x (y + 1) + live (x + 2) (y + 1)
    + live x (y + 2) + live (x + 1) (y + 2) + live (x + 2) (y + 2)

-- these rows of planes are those of a window from row s on
pub record AreRowsFrom (n s : ℕ) (planes : List WindowPlane) (rows : List RowPlane) : Type 0 where
  pub same : (x y : ℕ) → x < 64 → y < 4 → state_in n rows x y ≡ window_state n planes x (s + y)

-- one row, of states one generation later: the row y + 1
pub record StepsRow (n : ℕ) (r : GenerationsRule) (old new : List WindowPlane) (y : ℕ) : Type 0 where
  pub inner : (x : ℕ) → x < 62 → window_state n old (x + 1) (y + 1) < r.states → window_state n new (x + 1) (y + 1) ≡ next_state r (window_state n old (x + 1) (y + 1)) (live_in n old x y)

-- the rows but for a margin and one more are one generation later, but for the first and last column
pub record StepsWindow (n : ℕ) (r : GenerationsRule) (margin : ℕ) (old new : List WindowPlane) : Type 0 where
  pub rows : (y : ℕ) → margin ≤ y → y + margin < 62 → StepsRow n r old new y
