-- What is read of a universe.
use Rattle.std.proofs.Common.{◌≡◌, ℕ, ◌-◌, ◌^◌, ◌<◌, ◌≤◌, Bool, true, false, ℤ, pos, negsuc, ◌+ℤ◌, min, refl, sym, ◌∙◌, ap, subst, arith}
use Rattle.std.specs.Prelude.{◌&&◌, int_le, int_lt, if◌then◌else◌}
use Rattle.std.proofs.lemmas.Bool.{and_parts}
use Rattle.std.proofs.lemmas.Bool.Decides.{nat_tests}
use Rattle.std.proofs.lemmas.Int.{ints}
use Rattle.generations_rule.specs.Place.{Place, moved}
use Rattle.generations_rule.specs.Rule.{IsRule}
use Rattle.stamped_writes.specs.declared.write.Write.{Write}
use Rattle.stamped_writes.specs.Write.{unwritten}
use Rattle.edit_stamps.specs.Plane.{is_coordinate_in_plane, is_in_plane}
use Rattle.edit_stamps.specs.PlaneMap.{HasStatesBelow}
use Rattle.bitplane_kernel.specs.Population.{population}
use Rattle.square_store.specs.Grid.{Grid, blank_grid}
use Rattle.square_store.specs.Squares.{side_at, grid_at, Draws}
use Rattle.square_store.specs.Store.{nothing_held, IsFullFor}
use Rattle.stamped_tree.specs.LeafKind.{plane_grid}
use Rattle.stamped_tree.specs.Plane.{StampedPlane, from_edge, map_of}
use Rattle.generation_engine.specs.EngineLeaf.{leaf_grid, states_on}
use Rattle.generation_engine.specs.Counts.{population_at}
use Rattle.generation_engine.specs.Loading.{centred, plane_in_universe}
use Rattle.generation_engine.specs.Universe.{EngineValue, AreSameStates, IsEngine, from_universe_edge, is_coordinate_in_universe, is_in_universe, population_of, states_in_writes, states_of, universe_corner}
use Rattle.generation_engine.proofs.Counting.{population_at_most, population_same}
use Rattle.generation_engine.proofs.Grids.{is_middle, centred_in, centred_beside, centred_above}

-- ---- columns and rows

-- a column is a coordinate of the universe
pub column_of : (u : ℕ) → from_universe_edge (negsuc 4294967295 +ℤ pos u) ≡ u
column_of u = omega (arith, ints)

in_universe : (u : ℕ) → u < 8589934592 → is_coordinate_in_universe (negsuc 4294967295 +ℤ pos u) ≡ true
in_universe u h = grind (arith, ints, h)

pub column_within : (x : ℤ) → is_coordinate_in_universe x ≡ true → from_universe_edge x < 8589934592
column_within x h =
    let parts : (int_le (negsuc 4294967295) x ≡ true) × (int_lt x (pos 4294967296) ≡ true) = and_parts _ _ h in
    omega (arith, ints, parts.0, parts.1)

pub state_read : (e : EngineValue) (u v : ℕ) → u < 8589934592 → v < 8589934592 → states_of e (moved universe_corner (pos u) (pos v)) ≡ (grid_at leaf_grid 8 e.store 30 e.root u v).state
state_read e u v hu hv = rw (in_universe u hu, in_universe v hv, column_of u, column_of v) refl

-- the count of the root is that of the universe
pub population_read : (e : EngineValue) → population_at e.store 30 e.root ≡ population_of e
population_read e = sym (population_same 8589934592 _ (λ u v. (grid_at leaf_grid 8 e.store 30 e.root u v).state) (λ u v hu hv. state_read e u v hu hv))

-- what holds of the root's states, and of 0, holds of all
pub each_state : (P : ℕ → Type 0) (e : EngineValue) → ((u v : ℕ) → u < 8589934592 → v < 8589934592 → P (grid_at leaf_grid 8 e.store 30 e.root u v).state) → P 0 → (c : Place) → P (states_of e c)
each_state P e inside outside c = go (is_in_universe c) refl
  where
    go : (b : Bool) → is_in_universe c ≡ b → P (if b then (grid_at leaf_grid 8 e.store 30 e.root (from_universe_edge c.x) (from_universe_edge c.y)).state else 0)
    go false e = outside
    go true e =
        let parts : (is_coordinate_in_universe c.x ≡ true) × (is_coordinate_in_universe c.y ≡ true) = and_parts _ _ e in
        inside (from_universe_edge c.x) (from_universe_edge c.y) (column_within c.x parts.0) (column_within c.y parts.1)

-- ---- a dead universe

pub dead_read : (e : EngineValue) → Draws leaf_grid 8 e.store 30 (blank_grid 0) e.root → AreSameStates (states_of e) (λ _. 0)
dead_read e drawn = each_state (λ s. s ≡ 0) e (λ u v hu hv. ap (λ (w : Write). w.state) (drawn.same u v (omega (arith, hu)) (omega (arith, hv)))) refl

pub dead_engine : (e : EngineValue) → IsRule e.rule → e.generation ≡ 0 → Draws leaf_grid 8 e.store 30 (blank_grid 0) e.root → IsEngine e
dead_engine e rule start drawn = record {
  root = drawn.stands;
  below = λ c. (let dead = dead_read e drawn c in let least = rule.least in omega (arith, dead, least));
  generations = omega (arith, start);
  reach = λ c out. dead_read e drawn c;
}

pub never_full : (nodes : ℕ) → 64 ≤ nodes → IsFullFor leaf_grid 8 (nothing_held nodes) 0 (blank_grid 0) → ⊥
never_full nodes some full = let h = full.full in none nodes h some
  where
    none : (nodes : ℕ) → 0 ≡ nodes → 64 ≤ nodes → ⊥
    none nodes e h = omega (arith, e, h)

-- ---- a plane in the universe

-- where the plane's columns are
record IsPlaneColumn (x : ℤ) : Type 0 where
  first : 3221225472 ≤ from_universe_edge x
  last : from_universe_edge x < 5368709120
  column : from_universe_edge x - 2147483648 - 1073741824 ≡ from_edge x

plane_column : (x : ℤ) → is_coordinate_in_plane x ≡ true → IsPlaneColumn x
plane_column x h = record {
  first = grind (arith, ints, nat_tests, h);
  last = grind (arith, ints, nat_tests, h);
  column = grind (arith, ints, nat_tests, h);
}

-- and where they are not
no_plane_column : (x : ℤ) → is_coordinate_in_universe x ≡ true → is_coordinate_in_plane x ≡ false → is_middle 2147483648 (from_universe_edge x) ≡ true → is_middle 1073741824 (from_universe_edge x - 2147483648) ≡ false
no_plane_column x h out mid = grind (arith, ints, nat_tests, h, out, mid)

module _ (n m : ℕ) (f : Grid) (u v : ℕ) where
  beside : (is_middle n u ≡ true → is_middle m (u - n) ≡ false) → (centred n (centred m f) u v).state ≡ 0
  beside out = go (is_middle n u) refl (is_middle n v)
    where
      go : (x : Bool) → is_middle n u ≡ x → (y : Bool) → (if x && y then centred m f (u - n) (v - n) else blank_grid 0 u v).state ≡ 0
      go false e y = refl
      go true e false = refl
      go true e true = ap (λ (w : Write). w.state) (centred_beside m f (u - n) (v - n) (out e))

  above : (is_middle n v ≡ true → is_middle m (v - n) ≡ false) → (centred n (centred m f) u v).state ≡ 0
  above out = go (is_middle n u) (is_middle n v) refl
    where
      go : (x y : Bool) → is_middle n v ≡ y → (if x && y then centred m f (u - n) (v - n) else blank_grid 0 u v).state ≡ 0
      go false y e = refl
      go true false e = refl
      go true true e = ap (λ (w : Write). w.state) (centred_above m f (u - n) (v - n) (out e))

module _ (p : StampedPlane) (e : EngineValue) (drawn : Draws leaf_grid 8 e.store 30 (plane_in_universe p) e.root) where
  f : Grid
  f = states_on (grid_at plane_grid 8 p.store 28 p.root)

  inside : (x y : ℤ) → IsPlaneColumn x → IsPlaneColumn y → (plane_in_universe p (from_universe_edge x) (from_universe_edge y)).state ≡ (grid_at plane_grid 8 p.store 28 p.root (from_edge x) (from_edge y)).state
  inside x y hx hy =
      let u = from_universe_edge x in let v = from_universe_edge y in
      let a = hx.first in let b = hx.last in let c = hy.first in let d = hy.last in
      let g = states_on (grid_at plane_grid 8 p.store 28 p.root) in
      ap (λ (w : Write). w.state) (centred_in 2147483648 (centred 1073741824 g) u v (omega (arith, a)) (omega (arith, b)) (omega (arith, c)) (omega (arith, d))
      ∙ centred_in 1073741824 g (u - 2147483648) (v - 2147483648) (omega (arith, a)) (omega (arith, b)) (omega (arith, c)) (omega (arith, d)))
      ∙ ap (λ z. (grid_at plane_grid 8 p.store 28 p.root z (v - 2147483648 - 1073741824)).state) hx.column
      ∙ ap (λ z. (grid_at plane_grid 8 p.store 28 p.root (from_edge x) z).state) hy.column

  pub plane_read : AreSameStates (states_of e) (states_in_writes (map_of p))
  plane_read c = go (is_in_universe c) refl (is_in_plane c) refl
    where
      map : Bool → ℕ
      map b = (if b then grid_at plane_grid 8 p.store 28 p.root (from_edge c.x) (from_edge c.y) else unwritten).state

      go : (b : Bool) → is_in_universe c ≡ b → (d : Bool) → is_in_plane c ≡ d → states_of e c ≡ (map_of p c).state
      go false out false gone = rw (out, gone) refl
      go false out true here = absurd (within c.x c.y here out)
        where
          within : (x y : ℤ) → is_in_plane (record { x = x; y = y }) ≡ true → is_in_universe (record { x = x; y = y }) ≡ false → ⊥
          within x y h k = grind (arith, ints, h, k)
      go true is true here =
          let parts : (is_coordinate_in_universe c.x ≡ true) × (is_coordinate_in_universe c.y ≡ true) = and_parts _ _ is in
          let plane : (is_coordinate_in_plane c.x ≡ true) × (is_coordinate_in_plane c.y ≡ true) = and_parts _ _ here in
          let hu = column_within c.x parts.0 in let hv = column_within c.y parts.1 in
          rw (is, here) (ap (λ (w : Write). w.state) (drawn.same (from_universe_edge c.x) (from_universe_edge c.y) (omega (arith, hu)) (omega (arith, hv))) ∙ inside c.x c.y (plane_column c.x plane.0) (plane_column c.y plane.1))
      go true is false gone =
          let parts : (is_coordinate_in_universe c.x ≡ true) × (is_coordinate_in_universe c.y ≡ true) = and_parts _ _ is in
          let hu = column_within c.x parts.0 in let hv = column_within c.y parts.1 in
          let u = from_universe_edge c.x in let v = from_universe_edge c.y in
          rw (is, gone) (ap (λ (w : Write). w.state) (drawn.same u v (omega (arith, hu)) (omega (arith, hv))) ∙ dead (is_coordinate_in_plane c.x) (is_coordinate_in_plane c.y) refl refl gone parts.0 parts.1)
        where
          dead : (a b : Bool) → is_coordinate_in_plane c.x ≡ a → is_coordinate_in_plane c.y ≡ b → (is_coordinate_in_plane c.x && is_coordinate_in_plane c.y) ≡ false → is_coordinate_in_universe c.x ≡ true → is_coordinate_in_universe c.y ≡ true
              → (plane_in_universe p (from_universe_edge c.x) (from_universe_edge c.y)).state ≡ 0
          dead false b ea eb out hx hy = beside 2147483648 1073741824 (states_on (grid_at plane_grid 8 p.store 28 p.root)) (from_universe_edge c.x) (from_universe_edge c.y) (no_plane_column c.x hx ea)
          dead true false ea eb out hx hy = above 2147483648 1073741824 (states_on (grid_at plane_grid 8 p.store 28 p.root)) (from_universe_edge c.x) (from_universe_edge c.y) (no_plane_column c.y hy eb)
          dead true true ea eb out hx hy = absurd (never (sym (rw (ea, eb) refl) ∙ out))
            where
              never : true ≡ false → ⊥
              never z = cc

  pub plane_engine : HasStatesBelow e.rule.states (map_of p) → e.generation ≡ 0 → IsEngine e
  plane_engine below start = record {
    root = drawn.stands;
    below = λ c. subst (λ s. s < e.rule.states) (sym (plane_read c)) (below c);
    generations = omega (arith, start);
    reach = λ c out. plane_read c ∙ outside c (rw start at out);
  }
    where
      outside : (c : Place) → is_in_plane c ≡ false → (map_of p c).state ≡ 0
      outside c out = rw out refl
