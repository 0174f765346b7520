-- Squares of states, as lists row by row.
use Rattle.std.specs.Prelude.{◌≡◌, ℕ, ◌+◌, ◌*◌, ◌<◌, List, slice_index}

-- the state in column x of row y of a square of side n
abbrev pub state_at : ℕ → List ℕ → ℕ → ℕ → ℕ
state_at n states x y = slice_index states (n * y + x)

-- a square of side 16 whose quarters are four squares of side 8
pub record IsJoined (nw ne sw se whole : List ℕ) : Type 0 where
  pub north_west : (x y : ℕ) → x < 8 → y < 8 → state_at 16 whole x y ≡ state_at 8 nw x y
  pub north_east : (x y : ℕ) → x < 8 → y < 8 → state_at 16 whole (x + 8) y ≡ state_at 8 ne x y
  pub south_west : (x y : ℕ) → x < 8 → y < 8 → state_at 16 whole x (y + 8) ≡ state_at 8 sw x y
  pub south_east : (x y : ℕ) → x < 8 → y < 8 → state_at 16 whole (x + 8) (y + 8) ≡ state_at 8 se x y

-- the middle square of side 8 of a square of side 16
pub record IsCentre (whole centre : List ℕ) : Type 0 where
  pub middle : (x y : ℕ) → x < 8 → y < 8 → state_at 8 centre x y ≡ state_at 16 whole (x + 4) (y + 4)
