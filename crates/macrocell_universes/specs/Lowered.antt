-- Squares one row further down: what lies between the tree of a macrocell, whose middle is the corner of the cell 0 1, and that of a
-- universe, whose middle is the corner of the cell 0 0.
use Rattle.std.specs.Prelude.{◌≡◌, ℕ, zero, suc, ◌+◌, ◌-◌, Bool, List, Some}
use Rattle.indexmap.specs.IndexMap.{get}
use Rattle.square_store.specs.Grid.{Grid}
use Rattle.square_store.specs.Pieces.{AddsPiecesOfGrid}
use Rattle.square_store.specs.Squares.{Draws, Held, side_at}
use Rattle.square_store.specs.Store.{IsAbsent, IsGrown, IsStore}
use Rattle.generation_engine.specs.declared.leaf_kind.EngineLeaf.{EngineLeaf}
use Rattle.generation_engine.specs.EngineLeaf.{IsEngineLeaf, leaf_grid, unstamped}
use Rattle.generation_engine.specs.Loading.{IsStoreFull}
use Rattle.macrocell_lines.specs.Squares.{StateSquare, state_in}
use Rattle.macrocell_text.specs.declared.entry.Entry.{Entry}
use Rattle.macrocell_universes.specs.declared.lowering.Pair.{Pair}
use Rattle.macrocell_universes.specs.declared.lowering.Lowering.{Lowering}
use Rattle.macrocell_universes.specs.declared.quarters.Numbered.{Numbered}
use Rattle.macrocell_universes.specs.contracts.lowering.PairPartialEq.TheImpl as pair_eq
use Rattle.macrocell_universes.specs.Numbered.{square_of}

-- of a square of n columns and rows and the one below it: the last row of the upper one, and all rows of the lower one but its last
abbrev pub lowered : ℕ → Grid → Grid → Grid
lowered n upper lower u zero = upper u (n - 1)
lowered n upper lower u (suc v) = lower u v

-- the states of a square, as writes that were never stamped
abbrev pub grid_of : StateSquare → Grid
grid_of q u v = unstamped (state_in q u v)

-- what stands for the square of a level above a leaf
abbrev pub numbered_above : ℕ → ℕ → Numbered
numbered_above level n = record { level = level + 3; number = n }

-- the states of a pair of squares, one row further down
abbrev pub lowered_pair : List Entry → Pair → Grid
lowered_pair es pair =
    lowered (side_at 8 pair.level) (grid_of (square_of es (numbered_above pair.level pair.upper))) (grid_of (square_of es (numbered_above pair.level pair.lower)))

-- the test of pairs
abbrev pub is_pair : Pair → Pair → Bool
is_pair = pair_eq.eq-value.it

-- each pair that was noted stands in the store, one row further down
abbrev pub AreNoted : List Entry → Lowering → Type 0
AreNoted es w = (pair : Pair) (p : ℕ) → get is_pair w.notes pair ≡ Some p → Draws leaf_grid 8 w.store pair.level (lowered_pair es pair) p

-- a pair stands in the store, one row further down, and nothing was added but what it is cut into
pub record IsLowered (es : List Entry) (old new : Lowering) (pair : Pair) (p : ℕ) : Type 0 where
  pub grows : IsGrown leaf_grid 8 old.store new.store
  pub noted : AreNoted es new
  pub draws : Draws leaf_grid 8 new.store pair.level (lowered_pair es pair) p
  pub adds : AddsPiecesOfGrid leaf_grid 8 old.store new.store pair.level (lowered_pair es pair)

-- the store is full before it has a square, and nothing was added but what that is cut into
pub record IsFullBefore (old new : Held EngineLeaf) (level : ℕ) (f : Grid) : Type 0 where
  pub grows : IsGrown leaf_grid 8 old new
  pub adds : AddsPiecesOfGrid leaf_grid 8 old new level f
  pub full : IsStoreFull new
  pub absent : IsStore leaf_grid 8 IsEngineLeaf new → IsAbsent leaf_grid 8 new level f
