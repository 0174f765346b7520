-- What a caller sees at a part.
use Rattle.std.specs.Prelude.{◌≡◌, ℕ, ◌-◌, ◌<◌, List, length, slice_index_or}
use Rattle.square_store.specs.declared.square.Square.{Square}
use Rattle.square_store.specs.declared.square.Square.TheVariants.{Blank, Leaf, Four}
use Rattle.square_store.specs.Grid.{Grid, blank_grid, IsSpeltWithin}
use Rattle.square_store.specs.Squares.{Held, side_at, IsAt, grid_at, four_grid, Draws}

-- four squares of a level stand at these parts
abbrev pub AreAt : {L : Type 0} → Held L → ℕ → List ℕ → Type 0
AreAt s k parts = (i : ℕ) → i < 4 → IsAt s k (slice_index_or parts i 0)

-- a blank of a stamp, of every level
abbrev pub IsBlankAt : {L : Type 0} → (L → Grid) → ℕ → Held L → ℕ → ℕ → Type 0
IsBlankAt writes side s t p = (k : ℕ) → Draws writes side s k (blank_grid t) p

-- at p stands a leaf, of level 0 and no other, and no blank
pub record IsLeafAt {L : Type 0} (writes : L → Grid) (side : ℕ) (s : Held L) (l : L) (p : ℕ) : Type 0 where
  pub draws : Draws writes side s 0 (writes l) p
  pub level : (k : ℕ) → IsAt s k p → k ≡ 0
  pub spelt : IsSpeltWithin side (writes l)

-- at p stands a square of level k and no other, of four parts, and no blank
pub record IsFourAt {L : Type 0} (writes : L → Grid) (side : ℕ) (s : Held L) (k : ℕ) (parts : List ℕ) (p : ℕ) : Type 0 where
  pub positive : 0 < k
  pub four : length parts ≡ 4
  pub parts_stand : AreAt s (k - 1) parts
  pub draws : Draws writes side s k (four_grid writes side s (k - 1) parts) p
  pub level : (j : ℕ) → IsAt s j p → j ≡ k
  pub spelt : IsSpeltWithin (side_at side k) (grid_at writes side s k p)

-- four parts are the quarters of the square of level k at p, NW, NE, SW and SE: a blank's are that blank
pub record AreQuartersAt {L : Type 0} (writes : L → Grid) (side : ℕ) (s : Held L) (k p : ℕ) (parts : List ℕ) : Type 0 where
  pub four : length parts ≡ 4
  pub stand : AreAt s (k - 1) parts
  pub draws : Draws writes side s k (four_grid writes side s (k - 1) parts) p

-- the square at p
abbrev pub IsSeen : {L : Type 0} → (L → Grid) → ℕ → Held L → ℕ → Square L → Type 0
IsSeen writes side s p (Blank t) = IsBlankAt writes side s t p
IsSeen writes side s p (Leaf l) = IsLeafAt writes side s l.now p
IsSeen writes side s p (Four k parts) = IsFourAt writes side s k parts p
