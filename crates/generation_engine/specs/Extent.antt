-- The least region in which something is found.
use Rattle.std.specs.Prelude.{◌≡◌, ℕ, ◌+◌, ◌-◌, ◌==◌, Bool, true, false, ◌&&◌, ◌||◌, not, Option, None, Some}
use Rattle.square_store.specs.Grid.{Grid}
use Rattle.generation_engine.specs.declared.region.Region.{Region}
use Rattle.generation_engine.specs.Region.{is_between, is_in_region}

-- in a column and a row stands a cell that is not dead of a square of side n, whose corner is in a column and a row
abbrev pub is_live_on : ℕ → Grid → ℕ → ℕ → ℕ → ℕ → Bool
is_live_on n f left top u v = (is_between left (left + n) u && is_between top (top + n) v) && not ((f (u - left) (v - top)).state == 0)

-- the least region of all columns and rows in which something is found: it is found in the first and the last of both
pub record IsLeastRegion (is_found : ℕ → ℕ → Bool) (r : Region) : Type 0 where
  pub all : (u v : ℕ) → is_found u v ≡ true → is_in_region r u v ≡ true
  pub first_column : (v : ℕ) × (is_found r.left v ≡ true)
  pub last_column : (u : ℕ) × (v : ℕ) × (is_found u v ≡ true) × (u + 1 ≡ r.right)
  pub first_row : (u : ℕ) × (is_found u r.top ≡ true)
  pub last_row : (u : ℕ) × (v : ℕ) × (is_found u v ≡ true) × (v + 1 ≡ r.bottom)

-- it is that region, or nothing is found
abbrev pub IsRegionWhere : (ℕ → ℕ → Bool) → Option Region → Type 0
IsRegionWhere is_found None = (u v : ℕ) → is_found u v ≡ false
IsRegionWhere is_found (Some r) = IsLeastRegion is_found r

-- of whatever the old one is the least region, the new one is that of it and of what is added
pub record IsWidened (is_added : ℕ → ℕ → Bool) (old new : Option Region) : Type 0 where
  pub widened : (is_found : ℕ → ℕ → Bool) → IsRegionWhere is_found old → IsRegionWhere (λ u v. is_found u v || is_added u v) new
