-- Four squares of a macrocell about its middle, and four of a universe about its own.
use Rattle.std.specs.Prelude.{◌≡◌, ℕ, ◌+◌, ◌-◌, ◌<◌, ◌≤◌, pos, ◌-ℤ◌, List, false}
use Rattle.generations_rule.specs.Place.{Place}
use Rattle.edit_stamps.specs.Plane.{is_in_plane}
use Rattle.square_store.specs.Grid.{Grid}
use Rattle.square_store.specs.Pieces.{grid_from}
use Rattle.square_store.specs.Squares.{Draws, Held, IsAt, side_at}
use Rattle.generation_engine.specs.declared.leaf_kind.EngineLeaf.{EngineLeaf}
use Rattle.generation_engine.specs.EngineLeaf.{leaf_grid, unstamped}
use Rattle.macrocell_lines.specs.Middle.{half_universe}
use Rattle.macrocell_lines.specs.Squares.{StateSquare, Four}
use Rattle.macrocell_text.specs.declared.entry.Entry.{Entry}
use Rattle.macrocell_text.specs.Maps.{map_of_root}
use Rattle.macrocell_universes.specs.declared.middle.Middle.{Middle}
use Rattle.macrocell_universes.specs.declared.widening.Parts.{Parts}
use Rattle.macrocell_universes.specs.declared.quarters.Numbered.{Numbered}
use Rattle.macrocell_universes.specs.Numbered.{IsNumbered, square_at, square_of}

-- nothing is live outside the plane of edits
abbrev pub LiesInPlane : (Place → ℕ) → Type 0
LiesInPlane f = (c : Place) → is_in_plane c ≡ false → f c ≡ 0

-- ---- of a macrocell

abbrev pub at_level : ℕ → ℕ → Numbered
at_level level n = record { level = level; number = n }

-- the square of four about the middle
abbrev pub square_about : List Entry → Middle → StateSquare
square_about es m = Four (square_at es m.level m.four.nw) (square_at es m.level m.four.ne) (square_at es m.level m.four.sw) (square_at es m.level m.four.se)

-- four squares of a level about the middle have all that is live in a map
pub record IsMiddleOf (es : List Entry) (f : Place → ℕ) (m : Middle) : Type 0 where
  pub map : (c : Place) → map_of_root (square_about es m) c ≡ f c
  pub nw : IsNumbered es (at_level m.level m.four.nw)
  pub ne : IsNumbered es (at_level m.level m.four.ne)
  pub sw : IsNumbered es (at_level m.level m.four.sw)
  pub se : IsNumbered es (at_level m.level m.four.se)

-- ---- of a universe

-- the place in a column and a row of the universe
abbrev pub place_at : ℕ → ℕ → Place
place_at u v = record { x = pos u -ℤ pos half_universe; y = pos v -ℤ pos half_universe }

-- a map of states by the universe's columns and rows
abbrev pub grid_in_universe : (Place → ℕ) → Grid
grid_in_universe f u v = unstamped (f (place_at u v))

-- at a part stands what a map has in the universe from a column and a row on
abbrev pub IsBlock : (Place → ℕ) → Held EngineLeaf → ℕ → ℕ → ℕ → ℕ → Type 0
IsBlock f s level column row part = Draws leaf_grid 8 s level (grid_from column row (grid_in_universe f)) part

-- nothing is live further than so many columns and rows from the middle, or twice so many rows below it
pub record IsWithin (n : ℕ) (f : Place → ℕ) : Type 0 where
  pub left : (u v : ℕ) → u < half_universe - n → f (place_at u v) ≡ 0
  pub right : (u v : ℕ) → half_universe + n ≤ u → f (place_at u v) ≡ 0
  pub above : (u v : ℕ) → v < half_universe - n → f (place_at u v) ≡ 0
  pub below : (u v : ℕ) → half_universe + (n + n) ≤ v → f (place_at u v) ≡ 0

-- four squares of a level about the middle, and the two below the lower ones, have all that is live in a map
pub record AreAbout (f : Place → ℕ) (s : Held EngineLeaf) (p : Parts) : Type 0 where
  pub within : IsWithin (side_at 8 p.level) f
  pub nw : IsBlock f s p.level (half_universe - side_at 8 p.level) (half_universe - side_at 8 p.level) p.nw
  pub ne : IsBlock f s p.level half_universe (half_universe - side_at 8 p.level) p.ne
  pub sw : IsBlock f s p.level (half_universe - side_at 8 p.level) half_universe p.sw
  pub se : IsBlock f s p.level half_universe half_universe p.se
  pub below_sw : IsBlock f s p.level (half_universe - side_at 8 p.level) (half_universe + side_at 8 p.level) p.below_sw
  pub below_se : IsBlock f s p.level half_universe (half_universe + side_at 8 p.level) p.below_se

-- squares of a level stand at all six
pub record StandAt (s : Held EngineLeaf) (p : Parts) : Type 0 where
  pub nw : IsAt s p.level p.nw
  pub ne : IsAt s p.level p.ne
  pub sw : IsAt s p.level p.sw
  pub se : IsAt s p.level p.se
  pub below_sw : IsAt s p.level p.below_sw
  pub below_se : IsAt s p.level p.below_se
