-- What a square is cut into, told by its writes, whether or not it stands in a store.
use Rattle.std.specs.Prelude.{◌≡◌, ◌⊎◌, ℕ, zero, suc, ◌+◌}
use Rattle.square_store.specs.Grid.{Grid}
use Rattle.square_store.specs.Squares.{Held, side_at, Draws}
use Rattle.square_store.specs.Store.{IsHeld}

-- the writes that are seen from so many columns and rows further on
abbrev pub grid_from : (column row : ℕ) → Grid → Grid
grid_from column row f u v = f (column + u) (row + v)

-- a quarter of side n begins at the first column and row of its square, or n further on
pub record IsQuarterCorner (n column row : ℕ) : Type 0 where
  pub left : (column ≡ 0) ⊎ (column ≡ n)
  pub upper : (row ≡ 0) ⊎ (row ≡ n)

-- at q stands the square of level k that has the writes of f, or one of those that it is cut into, quarter by quarter
unfoldable pub IsPieceOfGrid : {L : Type 0} → (L → Grid) → ℕ → Held L → ℕ → Grid → ℕ → Type 0
IsPieceOfGrid writes side s zero f q = Draws writes side s 0 f q
IsPieceOfGrid writes side s (suc k) f q = Draws writes side s (suc k) f q ⊎ ((column : ℕ) × ((row : ℕ) × (IsQuarterCorner (side_at side k) column row × IsPieceOfGrid writes side s k (grid_from column row f) q)))

-- each square that is new is the square of level k that has the writes of f, or one of those that it is cut into
abbrev pub AddsPiecesOfGrid : {L : Type 0} → (L → Grid) → ℕ → (old new : Held L) → ℕ → Grid → Type 0
AddsPiecesOfGrid writes side old new k f = (q : ℕ) → IsHeld new q → IsHeld old q ⊎ IsPieceOfGrid writes side new k f q

-- each square that is held is the square of level k that has the writes of f, or one of those that it is cut into
abbrev pub HoldsPiecesOfGrid : {L : Type 0} → (L → Grid) → ℕ → Held L → ℕ → Grid → Type 0
HoldsPiecesOfGrid writes side s k f = (q : ℕ) → IsHeld s q → IsPieceOfGrid writes side s k f q
