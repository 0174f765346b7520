-- The root of a macrocell: a square about the middle of a map, one row on.
use Rattle.std.specs.Prelude.{◌≡◌, ◌≢◌, ℕ, suc, ◌-◌, ◌^◌, ◌≤◌, ◌<◌, ℤ, pos, ◌+ℤ◌, ◌-ℤ◌, Bool, true, ◌&&◌, int_le, int_lt}
use Rattle.generations_rule.specs.Place.{Place}
use Rattle.pattern_cells.specs.declared.window.Window.{Window}
use Rattle.macrocell_lines.specs.Squares.{StateSquare, square_of}

-- half the side of a square of level k
abbrev pub half_side : ℕ → ℤ
half_side k = pos (2 ^ (k - 1))

-- a place lies in the square of level k about the middle, one row on: its columns from -2^(k-1) to 2^(k-1) - 1, its rows one more
abbrev pub is_in_root : ℕ → Place → Bool
is_in_root k c = (int_le (pos 0 -ℤ half_side k) c.x && int_lt c.x (half_side k)) && (int_le (pos 1 -ℤ half_side k) c.y && int_lt c.y (half_side k +ℤ pos 1))

-- the square of the least level, from one on, that has each place of a map that is not dead
pub record IsRootLevel (least : ℕ) (f : Place → ℕ) (k : ℕ) : Type 0 where
  pub least_is : least ≤ k
  pub all : (c : Place) → f c ≢ 0 → is_in_root k c ≡ true
  pub no_less : (j : ℕ) → least ≤ j → j < k → ((c : Place) → f c ≢ 0 → is_in_root j c ≡ true) → ⊥

-- the states of a map by columns and rows of the square of level k about the middle, one row on
abbrev pub states_from : (Place → ℕ) → ℕ → ℕ → ℕ → ℕ
states_from f k u v = f (record { x = pos u -ℤ half_side k; y = pos (suc v) -ℤ half_side k })

abbrev pub root_of : (Place → ℕ) → ℕ → StateSquare
root_of f k = square_of k (states_from f k)

-- a window lies in it
abbrev pub is_window_in_root : ℕ → Window → Bool
is_window_in_root k w = (int_le (pos 0 -ℤ half_side k) w.x && int_le (w.x +ℤ pos w.width) (half_side k)) && (int_le (pos 1 -ℤ half_side k) w.y && int_le (w.y +ℤ pos w.height) (half_side k +ℤ pos 1))
