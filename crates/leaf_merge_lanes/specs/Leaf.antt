-- Leaves: 8 by 8 last-writer-wins registers (Shapiro et al., INRIA RR-7506), as the list of their writes, row by row.
use Rattle.std.specs.Prelude.{◌≡◌, ℕ, ◌<◌, ◌≤◌, List, length, map, slice_index_or, IsTrue}
use Rattle.stamped_writes.specs.declared.write.Write.{Write}
use Rattle.stamped_writes.specs.Write.{at_most, greater, unwritten}

-- the write of a stamp and a state
abbrev pub write_of : ℕ → ℕ → Write
write_of stamp state = record { stamp = stamp; state = state }

-- the write at place i, which is 8 * row + column
abbrev pub write_on_leaf : List Write → ℕ → Write
write_on_leaf writes i = slice_index_or writes i unwritten

-- a leaf has 64 writes
abbrev pub IsLeaf : List Write → Type 0
IsLeaf writes = length writes ≡ 64

-- the stamps, place by place
abbrev pub stamps_of : List Write → List ℕ
stamps_of writes = map (λ (w : Write). w.stamp) writes

-- the states, place by place
abbrev pub states_of : List Write → List ℕ
states_of writes = map (λ (w : Write). w.state) writes

-- every place holds state 0, written with stamp t
abbrev pub AreBlank : List Write → ℕ → Type 0
AreBlank writes t = (i : ℕ) → i < 64 → write_on_leaf writes i ≡ write_of t 0

-- every place of the third holds the greater of the two writes there
abbrev pub AreMerged : List Write → List Write → List Write → Type 0
AreMerged a b merged = (i : ℕ) → i < 64 → write_on_leaf merged i ≡ greater (write_on_leaf a i) (write_on_leaf b i)

-- at every place the first write is at most the second
abbrev pub AreAtMost : List Write → List Write → Type 0
AreAtMost a b = (i : ℕ) → i < 64 → IsTrue (at_most (write_on_leaf a i) (write_on_leaf b i))

-- t is the least of the writes' stamps
pub record IsLeastOfStamps (writes : List Write) (t : ℕ) : Type 0 where
  pub below : (i : ℕ) → i < 64 → t ≤ (write_on_leaf writes i).stamp
  pub reached : (i : ℕ) × (i < 64) × (t ≡ (write_on_leaf writes i).stamp)

-- t is the greatest of the writes' stamps
pub record IsGreatestOfStamps (writes : List Write) (t : ℕ) : Type 0 where
  pub above : (i : ℕ) → i < 64 → (write_on_leaf writes i).stamp ≤ t
  pub reached : (i : ℕ) × (i < 64) × (t ≡ (write_on_leaf writes i).stamp)
