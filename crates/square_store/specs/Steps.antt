-- The steps by which a store grows.
use Rattle.std.specs.Prelude.{◌≡◌, ℕ, zero, suc, [], ◌++◌, ◌∷◌, length, slice_get, Option, None, Some}
use Rattle.square_store.specs.declared.node.Node.{Node}
use Rattle.square_store.specs.declared.node.Node.TheVariants.{Blank, Leaf, Four}
use Rattle.square_store.specs.Grid.{Grid}
use Rattle.square_store.specs.Squares.{Held, side_at, HasLevel, small_grid, large_grid, grid_at}
use Rattle.square_store.specs.Store.{HasParts}

-- the writes of a node, taken as one of level k
abbrev pub node_grid : {L : Type 0} → (L → Grid) → ℕ → Held L → ℕ → Option Node → Grid
node_grid writes side s zero x = small_grid writes s.leaves x
node_grid writes side s (suc k) x = large_grid (side_at side k) (grid_at writes side s k) x

-- the node is a blank
abbrev pub IsBlankNode : Option Node → Type 0
IsBlankNode None = ⊥
IsBlankNode (Some (Blank t)) = Unit {0}
IsBlankNode (Some (Leaf q)) = ⊥
IsBlankNode (Some (Four k a b c d)) = ⊥

-- all four parts are one blank
pub record IsOneBlank {L : Type 0} (s : Held L) (a b c d : ℕ) : Type 0 where
  pub blank : IsBlankNode (slice_get s.squares a)
  pub ne : b ≡ a
  pub sw : c ≡ a
  pub se : d ≡ a

-- no square has this node
abbrev pub IsAbsentNode : {L : Type 0} → Held L → Node → Type 0
IsAbsentNode s x = (p : ℕ) → slice_get s.squares p ≡ Some x → ⊥

-- the leaf is none of the store's
abbrev pub IsAbsentLeaf : {L : Type 0} → Held L → L → Type 0
IsAbsentLeaf s l = (q : ℕ) → slice_get s.leaves q ≡ Some l → ⊥

-- at p stands the square of a leaf
abbrev pub IsPlaceOfLeaf : {L : Type 0} → Held L → L → ℕ → Type 0
IsPlaceOfLeaf s l p = (q : ℕ) × (slice_get s.squares p ≡ Some (Leaf q)) × (slice_get s.leaves q ≡ Some l)

-- the node may stand in the store
abbrev pub IsWanted : {L : Type 0} → Held L → Node → Type 0
IsWanted s (Blank t) = Unit {0}
IsWanted s (Leaf q) = ⊥
IsWanted s (Four k a b c d) = HasParts s k a b c d × (IsOneBlank s a b c d → ⊥)

-- the summary is that of a node
abbrev pub IsSummed : {L S : Type 0} → (L → Grid) → ℕ → (ℕ → Grid → S → Type 0) → Held L → Node → S → Type 0
IsSummed writes side IsSummary s x summary = (k : ℕ) → HasLevel k (Some x) → IsSummary (side_at side k) (node_grid writes side s k (Some x)) summary

-- a node went last
pub record IsPushed {L : Type 0} (old new : Held L) (x : Node) (p : ℕ) : Type 0 where
  pub place : p ≡ length old.squares
  pub whole : new ≡ record { leaves = old.leaves; squares = old.squares ++ x ∷ []; firsts = old.firsts ++ None ∷ []; room = old.room }

-- a leaf went last, and its square
pub record IsLeafPushed {L : Type 0} (old new : Held L) (l : L) (p : ℕ) : Type 0 where
  pub place : p ≡ length old.squares
  pub whole : new ≡ record { leaves = old.leaves ++ l ∷ []; squares = old.squares ++ Leaf (length old.leaves) ∷ []; firsts = old.firsts ++ None ∷ []; room = old.room }

-- a leaf has its square at p: it stood there, or went last
pub data IsLeafEntered {L : Type 0} (old new : Held L) (l : L) (p : ℕ) : Type 0 where
  LeafStood : new ≡ old → IsPlaceOfLeaf old l p → IsLeafEntered old new l p
  LeafAdded : IsAbsentLeaf old l → IsLeafPushed old new l p → IsLeafEntered old new l p
