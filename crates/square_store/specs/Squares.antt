-- What a place in a store means, over leaves of any kind.
use Rattle.std.specs.Prelude.{◌≡◌, ℕ, zero, suc, ◌*◌, ◌^◌, List, slice_get, slice_index_or, Option, None, Some}
use Rattle.square_store.specs.declared.first_result.FirstResult.{FirstResult}
use Rattle.square_store.specs.declared.node.Node.{Node}
use Rattle.square_store.specs.declared.node.Node.TheVariants.{Blank, Leaf, Four}
use Rattle.square_store.specs.Grid.{Grid, blank_grid, quartered, AreSameWithin}

-- the leaves and the squares that a store holds, the first result that is kept of each square, if any, and how many squares the store has room for
pub record Held (L : Type 0) : Type 0 where
  pub leaves : List L
  pub squares : List Node
  pub firsts : List (Option FirstResult)
  pub room : ℕ

-- the side of a square of level k, where leaves are of level 0
abbrev pub side_at : ℕ → ℕ → ℕ
side_at side k = side * 2 ^ k

-- a node has level k: a blank has every level, and any other node one
abbrev pub HasLevel : ℕ → Option Node → Type 0
HasLevel k None = ⊥
HasLevel k (Some (Blank t)) = Unit {0}
HasLevel k (Some (Leaf q)) = k ≡ 0
HasLevel k (Some (Four j a b c d)) = k ≡ j

-- a square of level k stands at place p
unfoldable pub IsAt : {L : Type 0} → Held L → ℕ → ℕ → Type 0
IsAt s k p = HasLevel k (slice_get s.squares p)

module _ {L : Type 0} (writes : L → Grid) where
  -- the writes of the leaf, if there is one
  abbrev pub leaf_grid : Option L → Grid
  leaf_grid None = blank_grid 0
  leaf_grid (Some l) = writes l

  -- the writes of a node of level 0
  abbrev pub small_grid : List L → Option Node → Grid
  small_grid leaves None = blank_grid 0
  small_grid leaves (Some (Blank t)) = blank_grid t
  small_grid leaves (Some (Leaf q)) = leaf_grid (slice_get leaves q)
  small_grid leaves (Some (Four j a b c d)) = blank_grid 0

-- the writes of a node whose parts have side n, where below gives those of a part
abbrev pub large_grid : ℕ → (ℕ → Grid) → Option Node → Grid
large_grid n below None = blank_grid 0
large_grid n below (Some (Blank t)) = blank_grid t
large_grid n below (Some (Leaf q)) = blank_grid 0
large_grid n below (Some (Four j a b c d)) = quartered n (below a) (below b) (below c) (below d)

-- the writes of the square of level k at place p, by column and row
unfoldable pub grid_at : {L : Type 0} → (L → Grid) → ℕ → Held L → ℕ → ℕ → Grid
grid_at writes side s zero p = small_grid writes s.leaves (slice_get s.squares p)
grid_at writes side s (suc k) p = large_grid (side_at side k) (grid_at writes side s k) (slice_get s.squares p)

-- the writes of the square of four parts of level k
abbrev pub quarters_grid : {L : Type 0} → (L → Grid) → ℕ → Held L → ℕ → (nw ne sw se : ℕ) → Grid
quarters_grid writes side s k nw ne sw se = quartered (side_at side k) (grid_at writes side s k nw) (grid_at writes side s k ne) (grid_at writes side s k sw) (grid_at writes side s k se)

-- the same, of an array of parts: NW, NE, SW and SE
abbrev pub four_grid : {L : Type 0} → (L → Grid) → ℕ → Held L → ℕ → List ℕ → Grid
four_grid writes side s k parts = quarters_grid writes side s k (slice_index_or parts 0 0) (slice_index_or parts 1 0) (slice_index_or parts 2 0) (slice_index_or parts 3 0)

-- a square of level k with the writes of f stands at place p
pub record Draws {L : Type 0} (writes : L → Grid) (side : ℕ) (s : Held L) (k : ℕ) (f : Grid) (p : ℕ) : Type 0 where
  pub stands : IsAt s k p
  pub same : AreSameWithin (side_at side k) (grid_at writes side s k p) f
