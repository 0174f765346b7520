-- What an engine tells of windows: how many cells are in one, and the least one that has all of them.
use Rattle.std.specs.Prelude.{◌≡◌, ◌≢◌, ℕ, ◌^◌, true, pos, ◌+ℤ◌, Option, None, Some}
use Rattle.generations_rule.specs.Place.{Place, moved}
use Rattle.pattern_cells.specs.declared.window.Window.{Window}
use Rattle.pattern_cells.specs.Window.{is_in_window, seen_where}
use Rattle.bitplane_kernel.specs.Population.{population}
use Rattle.generation_engine.specs.Universe.{EngineValue, states_of, universe_corner}

-- how many cells of the universe are not dead in a window
abbrev pub population_in : Window → EngineValue → ℕ
population_in w e = population (2 ^ 33) (λ u v. seen_where (is_in_window w) (states_of e) (moved universe_corner (pos u) (pos v)))

-- the least window that has each place of a map of states that is not dead: one of them is in its first column, one in its last, and so of its rows
pub record IsLeastWindow (f : Place → ℕ) (w : Window) : Type 0 where
  pub all : (c : Place) → f c ≢ 0 → is_in_window w c ≡ true
  pub first_column : (c : Place) × ((f c ≢ 0) × (c.x ≡ w.x))
  pub last_column : (c : Place) × ((f c ≢ 0) × ((c.x +ℤ pos 1) ≡ (w.x +ℤ pos w.width)))
  pub first_row : (c : Place) × ((f c ≢ 0) × (c.y ≡ w.y))
  pub last_row : (c : Place) × ((f c ≢ 0) × ((c.y +ℤ pos 1) ≡ (w.y +ℤ pos w.height)))

-- it is the least window that has them all, or all are dead
abbrev pub IsExtent : (Place → ℕ) → Option Window → Type 0
IsExtent f None = (c : Place) → f c ≡ 0
IsExtent f (Some w) = IsLeastWindow f w
