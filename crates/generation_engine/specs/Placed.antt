-- Squares of a store, placed in the middle of a universe.
use Rattle.std.specs.Prelude.{◌≡◌, ℕ, ◌+◌, ◌≤◌, Bool, List, slice_index_or}
use Rattle.bitplane_kernel.specs.Population.{population}
use Rattle.square_store.specs.Grid.{Grid, quartered, AreSameWithin}
use Rattle.square_store.specs.Squares.{Held, side_at, IsAt, grid_at}
use Rattle.stamped_tree.specs.declared.cells.ListedCell.{ListedCell}
use Rattle.generation_engine.specs.declared.leaf_kind.EngineLeaf.{EngineLeaf}
use Rattle.generation_engine.specs.declared.placed.PlacedSquare.{PlacedSquare}
use Rattle.generation_engine.specs.declared.placed.PlacedQuarters.{PlacedQuarters}
use Rattle.generation_engine.specs.declared.region.Region.{Region}
use Rattle.generation_engine.specs.EngineLeaf.{leaf_grid}
use Rattle.generation_engine.specs.Region.{seen_grid}
use Rattle.generation_engine.specs.Walk.{GathersSquare}
use Rattle.generation_engine.specs.Extent.{is_live_on}

-- a square of a level at a part, its corner in a column and a row
abbrev pub placed_at : ℕ → ℕ → ℕ → ℕ → PlacedSquare
placed_at level part left top = record { level = level; part = part; corner = record { left = left; top = top } }

-- four parts of a level, NW, NE, SW, SE, side by side from a corner on
pub record ArePlacedParts (k : ℕ) (parts : List ℕ) (left top : ℕ) (q : PlacedQuarters) : Type 0 where
  pub nw : q.nw ≡ placed_at k (slice_index_or parts 0 0) left top
  pub ne : q.ne ≡ placed_at k (slice_index_or parts 1 0) (left + side_at 8 k) top
  pub sw : q.sw ≡ placed_at k (slice_index_or parts 2 0) left (top + side_at 8 k)
  pub se : q.se ≡ placed_at k (slice_index_or parts 3 0) (left + side_at 8 k) (top + side_at 8 k)

-- the region has the columns and rows of a square
pub record HasColumnsOf (q : PlacedSquare) (r : Region) : Type 0 where
  pub left : r.left ≡ q.corner.left
  pub right : r.right ≡ q.corner.left + side_at 8 q.level
  pub top : r.top ≡ q.corner.top
  pub bottom : r.bottom ≡ q.corner.top + side_at 8 q.level

-- the writes of a square, by column and row from its corner
abbrev pub grid_of : Held EngineLeaf → PlacedSquare → Grid
grid_of s q = grid_at leaf_grid 8 s q.level q.part

-- the square stands in the store, and lies in the middle
pub record IsPlaced (s : Held EngineLeaf) (q : PlacedSquare) : Type 0 where
  pub level : q.level ≤ 28
  pub stands : IsAt s q.level q.part
  pub left : q.corner.left + side_at 8 q.level ≤ 4294967296
  pub top : q.corner.top + side_at 8 q.level ≤ 4294967296

-- a placed square of a level has its corner in a column and a row
pub record IsPlacedIn (s : Held EngineLeaf) (k left top : ℕ) (q : PlacedSquare) : Type 0 where
  pub placed : IsPlaced s q
  pub level : q.level ≡ k
  pub column : q.corner.left ≡ left
  pub row : q.corner.top ≡ top

-- four squares of a level, side by side from a corner on, that together have the writes of f
pub record AreSideBySide (s : Held EngineLeaf) (k : ℕ) (f : Grid) (left top : ℕ) (q : PlacedQuarters) : Type 0 where
  pub nw : IsPlacedIn s k left top q.nw
  pub ne : IsPlacedIn s k (left + side_at 8 k) top q.ne
  pub sw : IsPlacedIn s k left (top + side_at 8 k) q.sw
  pub se : IsPlacedIn s k (left + side_at 8 k) (top + side_at 8 k) q.se
  pub same : AreSameWithin (side_at 8 k + side_at 8 k) f (quartered (side_at 8 k) (grid_of s q.nw) (grid_of s q.ne) (grid_of s q.sw) (grid_of s q.se))

-- the list gained the cells of a square that are not dead and in a region, and is longer by as many as there are
abbrev pub GathersSeen : Held EngineLeaf → Region → PlacedSquare → List ListedCell → List ListedCell → Type 0
GathersSeen s r q old new = GathersSquare (side_at 8 q.level) (seen_grid r q.corner.left q.corner.top (grid_of s q)) q.corner.left q.corner.top old new

-- how many cells of a square are not dead and in a region
abbrev pub seen_population : Held EngineLeaf → Region → PlacedSquare → ℕ
seen_population s r q = population (side_at 8 q.level) (λ u v. (seen_grid r q.corner.left q.corner.top (grid_of s q) u v).state)

-- in a column and a row of a square stands a cell that is not dead
abbrev pub is_live_in : Held EngineLeaf → PlacedSquare → ℕ → ℕ → Bool
is_live_in s q u v = is_live_on (side_at 8 q.level) (grid_of s q) q.corner.left q.corner.top u v
