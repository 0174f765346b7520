-- What holds of every store, and what a call makes of one.
use Rattle.std.specs.Prelude.{◌≡◌, ℕ, suc, ◌-◌, ◌<◌, ◌≤◌, List, [], length, slice_get, slice_set, Some}
use Rattle.square_store.specs.declared.first_result.FirstResult.{FirstResult}
use Rattle.square_store.specs.declared.node.Node.{Node}
use Rattle.square_store.specs.declared.node.Node.TheVariants.{Blank, Leaf, Four}
use Rattle.square_store.specs.Grid.{Grid, AreSameWithin, IsSpeltWithin}
use Rattle.square_store.specs.Squares.{Held, side_at, IsAt, grid_at, Draws}

-- the parts of a square of level k are squares of the level below
pub record HasParts {L : Type 0} (s : Held L) (k a b c d : ℕ) : Type 0 where
  pub level : 0 < k
  pub nw : IsAt s (k - 1) a
  pub ne : IsAt s (k - 1) b
  pub sw : IsAt s (k - 1) c
  pub se : IsAt s (k - 1) d

-- each square and each leaf stands once, and no blank is spelt out
pub record IsCanonical {L : Type 0} (writes : L → Grid) (side : ℕ) (IsLeaf : L → Type 0) (s : Held L) : Type 0 where
  pub once : (p q : ℕ) (x : Node) → slice_get s.squares p ≡ Some x → slice_get s.squares q ≡ Some x → p ≡ q
  pub leaf_once : (p q : ℕ) (l : L) → slice_get s.leaves p ≡ Some l → slice_get s.leaves q ≡ Some l → p ≡ q
  pub leaf : (q : ℕ) (l : L) → slice_get s.leaves q ≡ Some l → IsLeaf l
  pub spelt : (q : ℕ) (l : L) → slice_get s.leaves q ≡ Some l → IsSpeltWithin side (writes l)
  pub named : (q : ℕ) → q < length s.leaves → (p : ℕ) × (slice_get s.squares p ≡ Some (Leaf q))
  pub leaf_within : (p q : ℕ) → slice_get s.squares p ≡ Some (Leaf q) → q < length s.leaves
  pub parts : (p k a b c d : ℕ) → slice_get s.squares p ≡ Some (Four k a b c d) → HasParts s k a b c d
  pub four : (p k a b c d t : ℕ) → slice_get s.squares p ≡ Some (Four k a b c d) → slice_get s.squares a ≡ Some (Blank t) → b ≡ a → c ≡ a → d ≡ a → ⊥

-- what holds of every store
pub record IsStore {L : Type 0} (writes : L → Grid) (side : ℕ) (IsLeaf : L → Type 0) (s : Held L) : Type 0 where
  pub canonical : IsCanonical writes side IsLeaf s
  pub few_leaves : length s.leaves ≤ length s.squares
  pub few_squares : length s.squares ≤ s.room

-- each square has the summary beside it that it should
pub record AreSummaries {L S : Type 0} (writes : L → Grid) (side : ℕ) (IsSummary : ℕ → Grid → S → Type 0) (s : Held L) (summaries : List S) : Type 0 where
  pub as_many : length summaries ≡ length s.squares
  pub each : (k p : ℕ) (x : S) → IsAt s k p → slice_get summaries p ≡ Some x → IsSummary (side_at side k) (grid_at writes side s k p) x

-- a store of nothing
abbrev pub nothing_held : {L : Type 0} → ℕ → Held L
nothing_held room = record { leaves = []; squares = []; firsts = []; room = room }

-- a place has a square
abbrev pub IsHeld : {L : Type 0} → Held L → ℕ → Type 0
IsHeld s p = p < length s.squares

-- a store has grown: what stood stands, with its writes
pub record IsGrown {L : Type 0} (writes : L → Grid) (side : ℕ) (old new : Held L) : Type 0 where
  pub room : new.room ≡ old.room
  pub held : (p : ℕ) → IsHeld old p → IsHeld new p
  pub stands : (k p : ℕ) → IsAt old k p → IsAt new k p
  pub same : (k p : ℕ) → IsAt old k p → grid_at writes side new k p ≡ grid_at writes side old k p

-- no result is new
abbrev pub IsNoneKept : {L : Type 0} → (old new : Held L) → Type 0
IsNoneKept old new = (p : ℕ) (x : FirstResult) → slice_get new.firsts p ≡ Some (Some x) → slice_get old.firsts p ≡ Some (Some x)

-- a result was kept of the square at p
abbrev pub with_first : {L : Type 0} → Held L → ℕ → FirstResult → Held L
with_first s p x = record { leaves = s.leaves; squares = s.squares; firsts = slice_set s.firsts p (Some x); room = s.room }

-- no square of level k has the writes of f
abbrev pub IsAbsent : {L : Type 0} → (L → Grid) → ℕ → Held L → ℕ → Grid → Type 0
IsAbsent writes side s k f = (p : ℕ) → Draws writes side s k f p → ⊥

-- the store is as it was, or one square that was not there is new, at the last place
pub data IsAdded {L : Type 0} (writes : L → Grid) (side : ℕ) (old new : Held L) (k : ℕ) (f : Grid) (p : ℕ) : Type 0 where
  Stood : new ≡ old → IsAdded writes side old new k f p
  Added : IsAbsent writes side old k f → p ≡ length old.squares → length new.squares ≡ suc (length old.squares) → IsAdded writes side old new k f p

-- the store holds as many squares as it has room for, and not this one
pub record IsFullFor {L : Type 0} (writes : L → Grid) (side : ℕ) (s : Held L) (k : ℕ) (f : Grid) : Type 0 where
  pub full : length s.squares ≡ s.room
  pub absent : IsAbsent writes side s k f

-- the store has room for one more square, and not this one
pub record IsRoomFor {L : Type 0} (writes : L → Grid) (side : ℕ) (s : Held L) (k : ℕ) (f : Grid) : Type 0 where
  pub room : length s.squares < s.room
  pub absent : IsAbsent writes side s k f

-- two parts of one level with the same writes are one
abbrev pub IsOnePartEach : {L : Type 0} → (L → Grid) → ℕ → Held L → Type 0
IsOnePartEach writes side s = (k p q : ℕ) → IsAt s k p → IsAt s k q → AreSameWithin (side_at side k) (grid_at writes side s k p) (grid_at writes side s k q) → p ≡ q
