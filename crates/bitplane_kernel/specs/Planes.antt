-- Numbers as bit planes: plane p holds the digit of worth 2 ^ p of each cell's state.
use Rattle.std.specs.Prelude.{◌≡◌, ℕ, zero, suc, ◌+◌, ◌-◌, ◌*◌, ◌^◌, ◌/◌, ◌%◌, ◌<◌, ◌≤◌, min, List, [], map, slice_index, slice_index_or}
use Rattle.std.specs.Int.{bit_at}
use Rattle.std.specs.List.{range_with_len}
use Rattle.bitplane_kernel.specs.declared.planes.BitPlane.{BitPlane}

-- the number whose lowest n binary digits are f 0, f 1, ..
unfoldable pub number : ℕ → (ℕ → ℕ) → ℕ
number zero f = 0
number (suc n) f = number n f + 2 ^ n * f n

-- the bit in column x of row y: a row is a lane of a vector
unfoldable pub bit : List ℕ → ℕ → ℕ → ℕ
bit plane x y = bit_at (slice_index plane y) x

-- plane p of a block
abbrev pub plane_at : List BitPlane → ℕ → List ℕ
plane_at planes p = (slice_index_or planes p (record { rows = [] })).rows

-- the state of a cell in the lowest n planes of a block
abbrev pub state_in : ℕ → List BitPlane → ℕ → ℕ → ℕ
state_in n planes x y = number n (λ p. bit (plane_at planes p) x y)

-- the 256 states of a block, row by row
unfoldable pub block_states : List BitPlane → List ℕ
block_states planes = map (λ i. state_in 8 planes (i % 16) (i / 16)) (range_with_len 0 256)

-- the state of cell i of a leaf, whose planes are numbers with a bit for each cell
abbrev pub state_at_bit : List ℕ → ℕ → ℕ
state_at_bit planes i = number 8 (λ p. bit_at (slice_index planes p) i)

-- the 64 states of a leaf, row by row
unfoldable pub leaf_states : List ℕ → List ℕ
leaf_states planes = map (state_at_bit planes) (range_with_len 0 64)

-- ---- what operations on a plane do to its bits

-- the plane has these bits, each 0 or 1
pub record HasBits (plane : List ℕ) (f : ℕ → ℕ → ℕ) : Type 0 where
  pub bits : (x y : ℕ) → x < 16 → y < 16 → bit plane x y ≡ f x y

-- the two planes hold, at each cell, how many of the three are set
pub record IsSum (low high a b c : List ℕ) : Type 0 where
  pub sum : (x y : ℕ) → x < 16 → y < 16 → bit low x y + 2 * bit high x y ≡ bit a x y + bit b x y + bit c x y

-- the same for two
pub record IsHalfSum (low high a b : List ℕ) : Type 0 where
  pub sum : (x y : ℕ) → x < 16 → y < 16 → bit low x y + 2 * bit high x y ≡ bit a x y + bit b x y

-- one was added to the state of these cells, within n planes
pub record IsSumOfStates (n : ℕ) (old : List BitPlane) (cells : List ℕ) (new : List BitPlane) : Type 0 where
  pub sum : (x y : ℕ) → x < 16 → y < 16 → state_in n new x y ≡ (state_in n old x y + bit cells x y) % 2 ^ n
  pub rest : (p : ℕ) → n ≤ p → plane_at new p ≡ plane_at old p

-- the lowest n planes were made 0 at these cells
pub record IsCleared (n : ℕ) (old : List BitPlane) (cells : List ℕ) (new : List BitPlane) : Type 0 where
  pub cleared : (p x y : ℕ) → p < n → x < 16 → y < 16 → bit (plane_at new p) x y ≡ min (bit (plane_at old p) x y) (1 - bit cells x y)
  pub rest : (p : ℕ) → n ≤ p → plane_at new p ≡ plane_at old p

-- a plane of a block whose quarters are four planes of leaves, each a number with a bit for each cell
pub record IsJoinedPlane (nw ne sw se : ℕ) (whole : List ℕ) : Type 0 where
  pub north_west : (x y : ℕ) → x < 8 → y < 8 → bit whole x y ≡ bit_at nw (8 * y + x)
  pub north_east : (x y : ℕ) → x < 8 → y < 8 → bit whole (x + 8) y ≡ bit_at ne (8 * y + x)
  pub south_west : (x y : ℕ) → x < 8 → y < 8 → bit whole x (y + 8) ≡ bit_at sw (8 * y + x)
  pub south_east : (x y : ℕ) → x < 8 → y < 8 → bit whole (x + 8) (y + 8) ≡ bit_at se (8 * y + x)

-- eight rows of eight bits in the low byte of the first eight lanes, and eight in that of the others
pub record HasRows (north south : ℕ) (plane : List ℕ) : Type 0 where
  pub upper : (x y : ℕ) → x < 8 → y < 8 → bit plane x y ≡ bit_at north (8 * y + x)
  pub lower : (x y : ℕ) → x < 8 → y < 8 → bit plane x (y + 8) ≡ bit_at south (8 * y + x)
  pub east : (x y : ℕ) → x < 8 → y < 16 → bit plane (x + 8) y ≡ 0
