-- Four squares of a universe about its middle.
use Rattle.std.specs.Prelude.{◌≡◌, ℕ, suc, ◌+◌, ◌-◌, ◌/◌, ◌%◌, ◌^◌, ◌<◌, slice_index}
use Rattle.square_store.specs.Squares.{Held, IsAt, grid_at, side_at}
use Rattle.generation_engine.specs.declared.leaf_kind.EngineLeaf.{EngineLeaf}
use Rattle.generation_engine.specs.EngineLeaf.{leaf_grid}
use Rattle.macrocell_lines.specs.declared.middle.Middle.{Middle}
use Rattle.macrocell_lines.specs.declared.root.MiddleLeaves.{MiddleLeaves}

-- how many columns there are to the left of the middle of a universe, and rows above it
abbrev pub half_universe : ℕ
half_universe = 2 ^ 32

-- the square at a part is that of a universe from a column and a row on
pub record IsSeenAt (s : Held EngineLeaf) (root level : ℕ) (column row : ℕ) (part : ℕ) : Type 0 where
  pub stands : IsAt s level part
  pub same : (u v : ℕ) → u < side_at 8 level → v < side_at 8 level → grid_at leaf_grid 8 s level part u v ≡ grid_at leaf_grid 8 s 30 root (column + u) (row + v)

-- four squares of a level lie about the middle
pub record IsMiddle (s : Held EngineLeaf) (root : ℕ) (m : Middle) : Type 0 where
  pub nw : IsSeenAt s root m.level (half_universe - side_at 8 m.level) (half_universe - side_at 8 m.level) m.nw
  pub ne : IsSeenAt s root m.level half_universe (half_universe - side_at 8 m.level) m.ne
  pub sw : IsSeenAt s root m.level (half_universe - side_at 8 m.level) half_universe m.sw
  pub se : IsSeenAt s root m.level half_universe half_universe m.se

-- the states about the middle of a universe, one row on, from so many columns to its left and rows above it
abbrev pub states_about : Held EngineLeaf → ℕ → ℕ → ℕ → ℕ → ℕ
states_about s root half u v = (grid_at leaf_grid 8 s 30 root (half_universe - half + u) (half_universe - half + suc v)).state

-- the four leaves about the middle, each by its states row by row
pub record AreMiddleLeaves (s : Held EngineLeaf) (root : ℕ) (l : MiddleLeaves) : Type 0 where
  pub nw : (i : ℕ) → i < 64 → slice_index l.nw i ≡ (grid_at leaf_grid 8 s 30 root (half_universe - 8 + i % 8) (half_universe - 8 + i / 8)).state
  pub ne : (i : ℕ) → i < 64 → slice_index l.ne i ≡ (grid_at leaf_grid 8 s 30 root (half_universe + i % 8) (half_universe - 8 + i / 8)).state
  pub sw : (i : ℕ) → i < 64 → slice_index l.sw i ≡ (grid_at leaf_grid 8 s 30 root (half_universe - 8 + i % 8) (half_universe + i / 8)).state
  pub se : (i : ℕ) → i < 64 → slice_index l.se i ≡ (grid_at leaf_grid 8 s 30 root (half_universe + i % 8) (half_universe + i / 8)).state
