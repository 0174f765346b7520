-- The universe that a root makes.
use Rattle.std.proofs.Common.{◌≡◌, ℕ, zero, suc, ◌+◌, ◌-◌, ◌*◌, ◌^◌, ◌≤◌, ◌<◌, Bool, true, false, refl, sym, ◌∙◌, ap, arith, subst, ℤ, pos, negsuc}
use Rattle.std.specs.Prelude.{◌&&◌, ◌+ℤ◌, ◌-ℤ◌, nat_abs, int_le, int_lt, if◌then◌else◌}
use Rattle.std.proofs.lemmas.Bool.{and_parts, and_from}
use Rattle.std.proofs.lemmas.Bool.Decides.{nat_tests}
use Rattle.std.proofs.lemmas.Int.{ints}
use Rattle.stamped_writes.specs.declared.write.Write.{Write}
use Rattle.generations_rule.specs.Place.{Place}
use Rattle.edit_stamps.specs.Plane.{is_coordinate_in_plane, is_in_plane}
use Rattle.square_store.specs.Squares.{Draws, grid_at}
use Rattle.generation_engine.specs.EngineLeaf.{leaf_grid}
use Rattle.generation_engine.specs.Universe.{AreSameStates, EngineValue, IsEngine, from_universe_edge, is_coordinate_in_universe, is_in_reach, is_in_universe, states_of}
use Rattle.macrocell_lines.specs.Middle.{half_universe}
use Rattle.macrocell_text.proofs.MapLaws.{count_of}
use Rattle.macrocell_universes.specs.declared.fault.UniverseFault.{UniverseFault}
use Rattle.macrocell_universes.specs.declared.fault.UniverseFault.TheVariants.{OutOfPlane, StateRange, StoreFull, Memory}
use Rattle.macrocell_universes.specs.Middles.{LiesInPlane, grid_in_universe, place_at}
use Rattle.square_store.specs.declared.fault.StoreFault.{StoreFault}
use Rattle.square_store.specs.declared.fault.StoreFault.TheVariants as store
use Rattle.macrocell_universes.specs.Refusals.{HasStatesBelow, IsRefused}
use Rattle.macrocell_universes.specs.UniverseFault.{universe_fault_of}

from_edge : (x : ℤ) → int_le (negsuc (2 ^ 32 - 1)) x ≡ true → int_le (pos 0) (x -ℤ negsuc (2 ^ 32 - 1)) ≡ true
from_edge x h = grind (arith, ints, nat_tests, h)

edge_within : (x : ℤ) (n : ℕ) → x -ℤ negsuc (2 ^ 32 - 1) ≡ pos n → int_lt x (pos (2 ^ 32)) ≡ true → n < 8589934592
edge_within x n e h = grind (arith, ints, nat_tests, e, h)

edge_back : (x : ℤ) (n : ℕ) → x -ℤ negsuc (2 ^ 32 - 1) ≡ pos n → pos n -ℤ pos half_universe ≡ x
edge_back x n e = omega (arith, ints, e)

-- a coordinate of the universe, from its edge
coordinate : (x : ℤ) → is_coordinate_in_universe x ≡ true → (from_universe_edge x < 8589934592) × (pos (from_universe_edge x) -ℤ pos half_universe ≡ x)
coordinate x h =
    let both = and_parts (int_le (negsuc (2 ^ 32 - 1)) x) (int_lt x (pos (2 ^ 32))) h in
    let n = count_of (x -ℤ negsuc (2 ^ 32 - 1)) (from_edge x both.0) in
    let is : from_universe_edge x ≡ n.count = ap nat_abs n.is in
    let low = edge_within x n.count n.is both.1 in
    (omega (arith, is, low), ap (λ m. pos m -ℤ pos half_universe) is ∙ edge_back x n.count n.is)

plane_coordinate : (x : ℤ) → is_coordinate_in_plane x ≡ true → is_coordinate_in_universe x ≡ true
plane_coordinate x h =
    let both = and_parts (int_le (negsuc (2 ^ 30 - 1)) x) (int_lt x (pos (2 ^ 30))) h in
    let l = both.0 in let r = both.1 in
    let a : int_le (negsuc (2 ^ 32 - 1)) x ≡ true = grind (arith, ints, nat_tests, l) in
    let b : int_lt x (pos (2 ^ 32)) ≡ true = grind (arith, ints, nat_tests, r) in
    and_from _ _ a b

plane_in_universe : (c : Place) → is_in_plane c ≡ true → is_in_universe c ≡ true
plane_in_universe c h = (let both = and_parts (is_coordinate_in_plane c.x) (is_coordinate_in_plane c.y) h in and_from _ _ (plane_coordinate c.x both.0) (plane_coordinate c.y both.1))

-- a universe whose root is that of a map shows it
pub universe_states : (e : EngineValue) (f : Place → ℕ) → Draws leaf_grid 8 e.store 30 (grid_in_universe f) e.root → LiesInPlane f → AreSameStates (states_of e) f
universe_states e f drawn plane c = by (is_in_universe c) refl
  where
    outside : is_in_universe c ≡ false → (b : Bool) → is_in_plane c ≡ b → is_in_plane c ≡ false
    outside out true h = (let yes = plane_in_universe c h in let no : true ≡ false = sym yes ∙ out in absurd (cc))
    outside out false h = h

    by : (b : Bool) → is_in_universe c ≡ b → (if b then (grid_at leaf_grid 8 e.store 30 e.root (from_universe_edge c.x) (from_universe_edge c.y)).state else 0) ≡ f c
    by true h =
        let both = and_parts (is_coordinate_in_universe c.x) (is_coordinate_in_universe c.y) h in
        let x = coordinate c.x both.0 in let y = coordinate c.y both.1 in
        ap (λ (w : Write). w.state) (drawn.same (from_universe_edge c.x) (from_universe_edge c.y) x.0 y.0) ∙ (λ i. f (record { x = x.1 i; y = y.1 i }))
    by false h = sym (plane c (outside h (is_in_plane c) refl))

reach_is_plane : (c : Place) → is_in_reach 0 c ≡ is_in_plane c
reach_is_plane c = refl

pub built_engine : (e : EngineValue) (f : Place → ℕ) → Draws leaf_grid 8 e.store 30 (grid_in_universe f) e.root → LiesInPlane f → HasStatesBelow e.rule.states f → e.generation ≡ 0 → IsEngine e
built_engine e f drawn plane below none =
    let same = universe_states e f drawn plane in
    record {
      root = drawn.stands;
      below = λ c. subst (λ s. s < e.rule.states) (sym (same c)) (below c);
      generations = omega (arith, none);
      reach = λ c out. same c ∙ plane c (sym (reach_is_plane c) ∙ subst (λ g. is_in_reach g c ≡ false) none out);
    }

-- ---- the same of a map that agrees

module _ (f g : Place → ℕ) (same : (c : Place) → f c ≡ g c) where
  pub plane_same : LiesInPlane f → LiesInPlane g
  plane_same plane c out = sym (same c) ∙ plane c out

  pub below_same : (n : ℕ) → HasStatesBelow n f → HasStatesBelow n g
  below_same n below c = subst (λ s. s < n) (same c) (below c)

  pub refused_same : (n : ℕ) (fault : UniverseFault) → IsRefused n f fault → IsRefused n g fault
  refused_same n OutOfPlane h = (h.0, (h.1.0, λ z. h.1.1 (same h.0 ∙ z)))
  refused_same n StateRange h = (plane_same h.0, (h.1.0, subst (λ s. n ≤ s) (same h.1.0) h.1.1))
  refused_same n StoreFull h = (plane_same h.0, below_same n h.1)
  refused_same n Memory h = h

-- a want, where neither of the other refusals is so
pub want_refused : (n : ℕ) (f : Place → ℕ) (fault : StoreFault) → LiesInPlane f → HasStatesBelow n f → IsRefused n f (universe_fault_of fault)
want_refused n f store.StoreFull plane below = (plane, below)
want_refused n f store.Memory plane below = tt
