-- Four rows of a window as bit planes: plane p holds the digit of worth 2 ^ p of each cell's state, a lane is a row, a bit a column.
use Rattle.std.specs.Prelude.{◌≡◌, ℕ, ◌+◌, ◌-◌, ◌*◌, ◌^◌, ◌%◌, ◌<◌, min, List, [], slice_index_or}
use Rattle.bitplane_kernel.specs.Planes.{number}
pub use Rattle.bitplane_kernel.specs.Planes.{bit}
use Rattle.tile_steps.specs.declared.planes.RowPlane.{RowPlane}

abbrev pub plane_at : List RowPlane → ℕ → List ℕ
plane_at planes p = (slice_index_or planes p (record { rows = [] })).rows

-- the state of a cell in the lowest n planes
abbrev pub state_in : ℕ → List RowPlane → ℕ → ℕ → ℕ
state_in n planes x y = number n (λ p. bit (plane_at planes p) x y)

-- the plane has these bits, each 0 or 1
pub record HasBits (plane : List ℕ) (f : ℕ → ℕ → ℕ) : Type 0 where
  pub bits : (x y : ℕ) → x < 64 → y < 4 → bit plane x y ≡ f x y

-- the two planes hold, at each cell, how many of the three are set
pub record IsSum (low high a b c : List ℕ) : Type 0 where
  pub sum : (x y : ℕ) → x < 64 → y < 4 → bit low x y + 2 * bit high x y ≡ bit a x y + bit b x y + bit c x y

-- the same for two
pub record IsHalfSum (low high a b : List ℕ) : Type 0 where
  pub sum : (x y : ℕ) → x < 64 → y < 4 → bit low x y + 2 * bit high x y ≡ bit a x y + bit b x y

-- one was added to the state of these cells, within n planes
pub record IsSumOfStates (n : ℕ) (old : List RowPlane) (cells : List ℕ) (new : List RowPlane) : Type 0 where
  pub sum : (x y : ℕ) → x < 64 → y < 4 → state_in n new x y ≡ (state_in n old x y + bit cells x y) % 2 ^ n

-- the lowest n planes were made 0 at these cells
pub record IsCleared (n : ℕ) (old : List RowPlane) (cells : List ℕ) (new : List RowPlane) : Type 0 where
  pub cleared : (p x y : ℕ) → p < n → x < 64 → y < 4 → bit (plane_at new p) x y ≡ min (bit (plane_at old p) x y) (1 - bit cells x y)
