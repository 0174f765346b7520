-- Leaves of states, by columns and rows, and how many cells of a square are not dead.
use Rattle.std.specs.Prelude.{◌≡◌, ℕ, ◌+◌, ◌-◌, ◌*◌, ◌/◌, ◌%◌, ◌^◌, ◌<◌, min, true, List, length}
use Rattle.std.proofs.Common.{arith, ap, ◌∙◌, sym, get_or}
use Rattle.std.proofs.lemmas.List.{ext_get_or}
use Rattle.stamped_writes.specs.declared.write.Write.{Write}
use Rattle.bitplane_kernel.specs.Population.{population}
use Rattle.bitplane_kernel.specs.Same.{is_same, same_Decides}
use Rattle.bitplane_kernel.specs.Square.{state_at}
use Rattle.square_store.specs.Grid.{Grid, AreSameWithin}
use Rattle.generation_engine.specs.declared.leaf_kind.EngineLeaf.{EngineLeaf}

-- a state as a write that was never stamped
abbrev pub unstamped : ℕ → Write
unstamped state = record { stamp = 0; state = state }

-- the states of a square, without their stamps
abbrev pub states_on : Grid → Grid
states_on f u v = unstamped (f u v).state

-- the states of a leaf, row by row
abbrev pub leaf_grid : EngineLeaf → Grid
leaf_grid l u v = unstamped (state_at 8 l.leaf u v)

-- a leaf has 64 states
abbrev pub IsEngineLeaf : EngineLeaf → Type 0
IsEngineLeaf l = length l.leaf ≡ 64

-- how many cells in n columns and rows are not dead, where that is below 2^128
abbrev pub IsPopulationOf : ℕ → Grid → ℕ → Type 0
IsPopulationOf n f count = count ≡ min (population n (λ u v. (f u v).state)) (2 ^ 128 - 1)

leaf_of : List ℕ → EngineLeaf
leaf_of states = record { leaf = states }

-- the test of leaves is exact
pub leaf_same : (a b : EngineLeaf) → is_same a.leaf b.leaf ≡ true → a ≡ b
unfolding leaf_of
leaf_same a b h = ap leaf_of ((same_Decides a.leaf b.leaf).0 h)

at_index : (states : List ℕ) (i : ℕ) → state_at 8 states (i % 8) (i / 8) ≡ get_or states i 0
at_index states i = let e : 8 * (i / 8) + i % 8 ≡ i = omega arith in ap (λ k. get_or states k 0) e

-- the states tell a leaf
pub leaf_exact : (a b : EngineLeaf) → IsEngineLeaf a → IsEngineLeaf b → AreSameWithin 8 (leaf_grid a) (leaf_grid b) → a ≡ b
unfolding leaf_of
leaf_exact a b la lb same = ap leaf_of (ext_get_or 0 a.leaf b.leaf (la ∙ sym lb) (λ i h.
    let u : i % 8 < 8 = omega arith in
    let v : i / 8 < 8 = omega (arith, la, h) in
    sym (at_index a.leaf i) ∙ ap (λ (w : Write). w.state) (same (i % 8) (i / 8) u v) ∙ at_index b.leaf i))
