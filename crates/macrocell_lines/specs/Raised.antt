-- Squares one row on: what lies between the tree of a plane, whose middle is the corner of the cell 0 0, and that of a macrocell, whose
-- middle is the corner of the cell 0 1.
use Rattle.std.specs.Prelude.{ℕ, ◌+◌, suc, nat_lt, if◌then◌else◌}
use Rattle.square_store.specs.Grid.{Grid}
use Rattle.square_store.specs.Squares.{Held, grid_at, side_at}
use Rattle.generation_engine.specs.declared.leaf_kind.EngineLeaf.{EngineLeaf}
use Rattle.generation_engine.specs.EngineLeaf.{leaf_grid}
use Rattle.macrocell_lines.specs.declared.lines.Pair.{Pair}
use Rattle.macrocell_lines.specs.Squares.{StateSquare, square_of}

-- of a square of n columns and rows and the one below it: the square one row on
abbrev pub raised : ℕ → Grid → Grid → Grid
raised n upper lower u v = if nat_lt (suc v) n then upper u (suc v) else lower u 0

-- the states of a pair of squares of a store, one row on
abbrev pub raised_states : Held EngineLeaf → Pair → ℕ → ℕ → ℕ
raised_states s pair u v = (raised (side_at 8 pair.level) (grid_at leaf_grid 8 s pair.level pair.upper) (grid_at leaf_grid 8 s pair.level pair.lower) u v).state

-- their square
abbrev pub square_of_pair : Held EngineLeaf → Pair → StateSquare
square_of_pair s pair = square_of (pair.level + 3) (raised_states s pair)
