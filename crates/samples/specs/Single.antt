-- Leaves of one write.
use Rattle.std.specs.Prelude.{◌≡◌, ◌≢◌, ℕ, ◌<◌, Bool, IsTrue, ◌↔◌}
use Rattle.std.proofs.Common.{ap}
use Rattle.stamped_writes.specs.declared.write.Write.{Write}
use Rattle.square_store.specs.Grid.{Grid}
use Rattle.samples.specs.declared.single.Single.{Single}

-- the write, in the one column and row
abbrev pub single_grid : Single → Grid
single_grid leaf u v = leaf.write

-- some place in n columns and rows has a state other than 0
pub record HasState (n : ℕ) (f : Grid) : Type 0 where
  pub u : ℕ
  pub v : ℕ
  pub u_within : u < n
  pub v_within : v < n
  pub state : (f u v).state ≢ 0

-- the flag tells whether some place has a state other than 0
abbrev pub IsLive : ℕ → Grid → Bool → Type 0
IsLive n f live = IsTrue live ↔ HasState n f

single_of : Write → Single
single_of w = record { write = w }

-- a leaf is told by its write
pub single_exact : (a b : Single) → a.write ≡ b.write → a ≡ b
unfolding single_of
single_exact a b e = ap single_of e
