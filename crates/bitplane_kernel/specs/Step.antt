-- One generation of the planes of a block.
use Rattle.std.specs.Prelude.{◌≡◌, ℕ, ◌+◌, ◌<◌, ◌≤◌, ◌==◌, List, if◌then◌else◌}
use Rattle.generations_rule.specs.Rule.{GenerationsRule, has, next_state}
use Rattle.bitplane_kernel.specs.declared.planes.BitPlane.{BitPlane}
use Rattle.bitplane_kernel.specs.Planes.{state_in}

-- 1 for a live cell, 0 for any other
abbrev pub one_if_live : ℕ → ℕ
one_if_live s = if s == 1 then 1 else 0

-- how many neighbours of the cell in column x + 1 of row y + 1 are live
abbrev pub live_in : List BitPlane → ℕ → ℕ → ℕ
live_in planes x y =
    let live : ℕ → ℕ → ℕ = λ u v. one_if_live (state_in 8 planes u v) in
    live x y + live (x + 1) y + live (x + 2) y
    + live x (y + 1) + live (x + 2) (y + 1)
    + live x (y + 2) + live (x + 1) (y + 2) + live (x + 2) (y + 2)

-- the states of that cell and its neighbours are below a bound
pub record AreBelow (bound : ℕ) (planes : List BitPlane) (x y : ℕ) : Type 0 where
  pub below : (u v : ℕ) → x ≤ u → u ≤ x + 2 → y ≤ v → v ≤ y + 2 → state_in 8 planes u v < bound

-- whether a cell in state s, n of whose neighbours are live, ages or is born
pub record ChangesAt (r : GenerationsRule) (s n aging born : ℕ) : Type 0 where
  pub ages : aging ≡ (if s == 0 then 0 else (if s == 1 then (if has r.survival n then 0 else 1) else 1))
  pub births : born ≡ (if s == 0 then (if has r.birth n then 1 else 0) else 0)

-- the cells that are not on the edge are one generation later
pub record StepsPlanes (r : GenerationsRule) (old new : List BitPlane) : Type 0 where
  pub inner : (x y : ℕ) → x < 14 → y < 14 → AreBelow r.states old x y → state_in 8 new (x + 1) (y + 1) ≡ next_state r (state_in 8 old (x + 1) (y + 1)) (live_in old x y)
