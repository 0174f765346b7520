-- What a universe shows in a window, and the least window that has all of its cells.
use Rattle.std.proofs.Common.{◌≡◌, ◌≢◌, ℕ, zero, suc, ◌+◌, ◌-◌, ◌^◌, ◌<◌, ◌≤◌, ◌⊎◌, Bool, true, false, None, List, map, inl, inr, refl, sym, ap, ◌∙◌, arith}
use Rattle.std.specs.Prelude.{ℤ, pos, negsuc, ◌+ℤ◌, ◌&&◌, int_le, int_lt, if◌then◌else◌}
use Rattle.std.specs.List.Sorted.{IsNonDecreasingBy}
use Rattle.std.proofs.lemmas.Bool.{and_from, and_parts, cases_Bool, true≢false}
use Rattle.std.proofs.lemmas.Bool.Decides.{nat_tests}
use Rattle.std.proofs.lemmas.Int.{ints}
use Rattle.generations_rule.specs.Place.{Place, at_place, moved}
use Rattle.pattern_cells.specs.declared.window.Window.{Window}
use Rattle.pattern_cells.specs.Window.{is_in_span, is_in_window, seen_where}
use Rattle.stamped_writes.specs.declared.write.Write.{Write}
use Rattle.bitplane_kernel.specs.Population.{population}
use Rattle.square_store.specs.Grid.{blank_grid}
use Rattle.stamped_tree.specs.declared.cells.ListedCell.{ListedCell}
use Rattle.stamped_tree.specs.Walk.{AreGathered, IsNonzeroCell}
use Rattle.stamped_tree.proofs.Placing as placing
use Rattle.generation_engine.specs.declared.region.Region.{Region}
use Rattle.generation_engine.specs.Extent.{IsLeastRegion, is_live_on}
use Rattle.generation_engine.specs.Region.{IsNarrow, IsRegionOf, is_between, is_in_region, middle_coordinate, seen_grid}
use Rattle.generation_engine.specs.Universe.{EngineValue, IsEngine, is_coordinate_in_reach, is_in_reach, states_of, universe_corner, unstamped_writes}
use Rattle.generation_engine.specs.Walk.{AreCellsOf, cell_of_middle, from_middle_edge, is_coordinate_in_middle, is_in_middle, middle_grid, middle_order}
use Rattle.generation_engine.specs.Window.{IsExtent, IsLeastWindow, population_in}
use Rattle.generation_engine.proofs.Extents.{from_live, live_on}
use Rattle.generation_engine.proofs.Populations.{counted_in_middle, not_reached_above, not_reached_behind, not_reached_below, not_reached_beside}
use Rattle.generation_engine.proofs.Seen.{from_between, from_inside}
use Rattle.generation_engine.proofs.Spots.{edge_of}
use Rattle.generation_engine.proofs.WalkLaws.{in_middle, not_reached, read_in_middle}

-- ---- the region of a window

span : (x n : ℤ) (k left : ℕ) → pos left ≡ (x +ℤ pos 2147483648) → is_coordinate_in_middle n ≡ true → is_between left (left + k) (from_middle_edge n) ≡ is_in_span x k n
span x n k left e h = grind (arith, ints, nat_tests, e, h)

pub window_region : (w : Window) (left top width height : ℕ) → pos left ≡ (w.x +ℤ pos 2147483648) → pos top ≡ (w.y +ℤ pos 2147483648) → width ≡ w.width → height ≡ w.height
    → IsRegionOf w (record { left = left; right = left + width; top = top; bottom = top + height })
window_region w left top width height hl ht ew eh at here =
    let parts : (is_coordinate_in_middle at.x ≡ true) × (is_coordinate_in_middle at.y ≡ true) = and_parts _ _ here in
    let columns = span w.x at.x width left hl parts.0 ∙ ap (λ k. is_in_span w.x k at.x) ew in
    let rows = span w.y at.y height top ht parts.1 ∙ ap (λ k. is_in_span w.y k at.y) eh in
    λ i. columns i && rows i

-- ---- what is seen

picked : (b : Bool) (x : ℕ) (y : Write) → x ≡ y.state → (if b then x else 0) ≡ (if b then y else blank_grid 0 0 0).state
picked true x y e = e
picked false x y e = refl

dead_picked : (b : Bool) (x : ℕ) → x ≡ 0 → (if b then x else 0) ≡ 0
dead_picked true x e = e
dead_picked false x e = refl

module _ (e : EngineValue) (is : IsEngine e) (w : Window) (r : Region) (of_window : IsRegionOf w r) where
  -- in the middle the window shows what the region does
  seen_in_middle : (at : Place) → is_in_middle at ≡ true → seen_where (is_in_window w) (states_of e) at ≡ (seen_grid r 0 0 (middle_grid e.store e.root) (from_middle_edge at.x) (from_middle_edge at.y)).state
  seen_in_middle at here =
      let u = from_middle_edge at.x in let v = from_middle_edge at.y in
      let column : 0 + u ≡ u = omega arith in let row : 0 + v ≡ v = omega arith in
      let inside : is_in_region r (0 + u) (0 + v) ≡ is_in_window w at = ap (λ x. is_in_region r x (0 + v)) column ∙ ap (λ y. is_in_region r u y) row ∙ of_window at here in
      picked (is_in_window w at) (states_of e at) (middle_grid e.store e.root u v) (read_in_middle e at here)
      ∙ ap (λ (b : Bool). (if b then middle_grid e.store e.root u v else blank_grid 0 0 0).state) (sym inside)

  seen_beyond : (at : Place) → is_in_reach e.generation at ≡ false → seen_where (is_in_window w) (states_of e) at ≡ 0
  seen_beyond at out = dead_picked (is_in_window w at) (states_of e at) (is.reach at out)

  pub cells_seen : (cells : List ListedCell) → IsNonDecreasingBy middle_order cells → AreGathered (IsNonzeroCell 4294967296 (seen_grid r 0 0 (middle_grid e.store e.root)) 0 0) cells → AreCellsOf (seen_where (is_in_window w) (states_of e)) (map cell_of_middle cells)
  cells_seen cells order all = placing.walked 4294967296 cell_of_middle is_in_middle from_middle_edge middle_order in_middle (seen_grid r 0 0 (middle_grid e.store e.root)) (unstamped_writes (seen_where (is_in_window w) (states_of e))) cells order all seen_in_middle
      (λ at out. seen_beyond at (not_reached e.generation at.x at.y is.generations out))

  pub population_seen : population 4294967296 (λ u v. (seen_grid r 0 0 (middle_grid e.store e.root) u v).state) ≡ population_in w e
  population_seen = sym (counted_in_middle 2147483648 (λ u v. seen_where (is_in_window w) (states_of e) (moved universe_corner (pos u) (pos v))) (λ u v. (seen_grid r 0 0 (middle_grid e.store e.root) u v).state)
      (λ x y h. seen_beyond (moved universe_corner (pos x) (pos y)) (not_reached_beside e.generation x _ is.generations h))
      (λ x y h. seen_beyond (moved universe_corner (pos x) (pos y)) (not_reached_behind e.generation x _ is.generations h))
      (λ x y h. seen_beyond (moved universe_corner (pos x) (pos y)) (not_reached_above e.generation y _ is.generations h))
      (λ x y h. seen_beyond (moved universe_corner (pos x) (pos y)) (not_reached_below e.generation y _ is.generations h))
      (λ u v hu hv. seen_in_middle (moved universe_corner (pos (2147483648 + u)) (pos (2147483648 + v))) (and_from _ _ (of_middle u hu) (of_middle v hv))
      ∙ ap (λ x. (seen_grid r 0 0 (middle_grid e.store e.root) x (from_middle_edge (negsuc 4294967295 +ℤ pos (2147483648 + v)))).state) (edge u hu)
      ∙ ap (λ y. (seen_grid r 0 0 (middle_grid e.store e.root) u y).state) (edge v hv)))
    where
      of_middle : (n : ℕ) → n < 4294967296 → is_coordinate_in_middle (negsuc 4294967295 +ℤ pos (2147483648 + n)) ≡ true
      of_middle n h = grind (arith, ints, nat_tests, h)

      edge : (n : ℕ) → n < 4294967296 → from_middle_edge (negsuc 4294967295 +ℤ pos (2147483648 + n)) ≡ n
      edge n h = grind (arith, ints, h)

-- ---- the extent

at_coordinate : (n : ℤ) → is_coordinate_in_middle n ≡ true → n ≡ middle_coordinate (from_middle_edge n)
at_coordinate n h = grind (arith, ints, nat_tests, h)

not_before : (a b : ℕ) → a ≤ b → int_le (middle_coordinate a) (middle_coordinate b) ≡ true
not_before a b h = grind (arith, ints, nat_tests, h)

is_before : (a b : ℕ) → a < b → int_lt (middle_coordinate a) (middle_coordinate b) ≡ true
is_before a b h = grind (arith, ints, nat_tests, h)

-- a live cell of the middle, as a cell of the universe
record IsLiveAt (e : EngineValue) (u v : ℕ) : Type 0 where
  live : states_of e (at_place (middle_coordinate u) (middle_coordinate v)) ≢ 0
  column : u + 1 < 2 ^ 32
  row : v + 1 < 2 ^ 32

in_middle_at : (n : ℕ) → n < 4294967296 → is_coordinate_in_middle (middle_coordinate n) ≡ true
in_middle_at n h = grind (arith, ints, nat_tests, h)

in_reach : (g n : ℕ) → g ≤ 536870912 → is_coordinate_in_reach g (middle_coordinate n) ≡ true → n + 1 < 4294967296
in_reach g n few h = grind (arith, ints, nat_tests, few, h)

module _ (e : EngineValue) (is : IsEngine e) where
  live_at : (u v : ℕ) → is_live_on 4294967296 (middle_grid e.store e.root) 0 0 u v ≡ true → IsLiveAt e u v
  live_at u v h =
      let i = from_live 4294967296 (middle_grid e.store e.root) 0 0 u v h in let b = i.last in let d = i.lower in
      let hu : u < 4294967296 = omega (arith, b) in let hv : v < 4294967296 = omega (arith, d) in
      let at = at_place (middle_coordinate u) (middle_coordinate v) in
      let column : from_middle_edge (middle_coordinate u) ≡ u - 0 = edge_of u hu ∙ omega arith in
      let row : from_middle_edge (middle_coordinate v) ≡ v - 0 = edge_of v hv ∙ omega arith in
      let read : states_of e at ≡ (middle_grid e.store e.root (u - 0) (v - 0)).state = read_in_middle e at (and_from _ _ (in_middle_at u hu) (in_middle_at v hv))
      ∙ ap (λ x. (middle_grid e.store e.root x (from_middle_edge (middle_coordinate v))).state) column ∙ ap (λ y. (middle_grid e.store e.root (u - 0) y).state) row in
      let live : states_of e at ≢ 0 = λ z. i.live (sym read ∙ z) in
      let reached : is_in_reach e.generation at ≡ true = elim (cases_Bool (is_in_reach e.generation at)) [ inl t ↦ t | inr f ↦ absurd (live (is.reach at f)) ] in
      let parts : (is_coordinate_in_reach e.generation (middle_coordinate u) ≡ true) × (is_coordinate_in_reach e.generation (middle_coordinate v) ≡ true) = and_parts _ _ reached in
      record { live = live; column = in_reach e.generation u is.generations parts.0; row = in_reach e.generation v is.generations parts.1 }

  -- a live cell of the universe is one of the middle
  record IsLiveCell (c : Place) : Type 0 where
    here : is_in_middle c ≡ true
    live : is_live_on 4294967296 (middle_grid e.store e.root) 0 0 (from_middle_edge c.x) (from_middle_edge c.y) ≡ true

  live_cell : (c : Place) → states_of e c ≢ 0 → IsLiveCell c
  live_cell c alive =
      let u = from_middle_edge c.x in let v = from_middle_edge c.y in
      let here : is_in_middle c ≡ true = elim (cases_Bool (is_in_middle c)) [ inl t ↦ t | inr f ↦ absurd (alive (is.reach c (not_reached e.generation c.x c.y is.generations f))) ] in
      let sides = in_middle.inside c here in
      let column : u ≡ u - 0 = omega arith in let row : v ≡ v - 0 = omega arith in
      let read = read_in_middle e c here ∙ ap (λ x. (middle_grid e.store e.root x v).state) column ∙ ap (λ y. (middle_grid e.store e.root (u - 0) y).state) row in
      let hu = sides.0 in let hv = sides.1 in
      record { here = here; live = live_on 4294967296 (middle_grid e.store e.root) 0 0 u v (record { first = omega arith; last = omega (arith, hu); upper = omega arith; lower = omega (arith, hv); live = λ z. alive (read ∙ z) }) }

  pub no_extent : ((u v : ℕ) → is_live_on 4294967296 (middle_grid e.store e.root) 0 0 u v ≡ false) → IsExtent (states_of e) None
  no_extent none c = elim (zero_or (states_of e c)) [
    | inl dead ↦ dead
    | inr alive ↦ (let i = live_cell c alive in absurd (true≢false (sym i.live ∙ none (from_middle_edge c.x) (from_middle_edge c.y))))
  ]
    where
      zero_or : (n : ℕ) → (n ≡ 0) ⊎ (n ≢ 0)
      zero_or zero = inl refl
      zero_or (suc n) = inr (λ z. omega (arith, z))

  module _ (r : Region) (least : IsLeastRegion (is_live_on 4294967296 (middle_grid e.store e.root) 0 0) r) where
    pub narrow : IsNarrow r
    narrow =
        let first = from_inside r r.left least.first_column.0 (least.all r.left least.first_column.0 least.first_column.1) in
        let upper = from_inside r least.first_row.0 r.top (least.all least.first_row.0 r.top least.first_row.1) in
        let right = live_at least.last_column.0 least.last_column.1 least.last_column.2 in let bottom = live_at least.last_row.0 least.last_row.1 least.last_row.2 in
        let a = first.right in let b = right.column in let c = least.last_column.3 in let d = upper.bottom in let f = bottom.row in let g = least.last_row.3 in
        record { columns = a; right = omega (arith, b, c); rows = d; bottom = omega (arith, f, g) }

    pub extent_seen : (w : Window) → w.x ≡ middle_coordinate r.left → (w.x +ℤ pos w.width) ≡ middle_coordinate r.right → w.y ≡ middle_coordinate r.top → (w.y +ℤ pos w.height) ≡ middle_coordinate r.bottom
        → IsLeastWindow (states_of e) w
    extent_seen w hl hr ht hb = record {
      all = λ c alive. (let i = live_cell c alive in
          let parts : (is_coordinate_in_middle c.x ≡ true) × (is_coordinate_in_middle c.y ≡ true) = and_parts _ _ i.here in
          let inside = least.all (from_middle_edge c.x) (from_middle_edge c.y) i.live in
          let sides : (is_between r.left r.right (from_middle_edge c.x) ≡ true) × (is_between r.top r.bottom (from_middle_edge c.y) ≡ true) = and_parts _ _ inside in
          and_from _ _ (within w.x c.x w.width r.left r.right hl hr parts.0 sides.0) (within w.y c.y w.height r.top r.bottom ht hb parts.1 sides.1));
      first_column = (at_place (middle_coordinate r.left) (middle_coordinate least.first_column.0), ((live_at r.left least.first_column.0 least.first_column.1).live, sym hl));
      last_column = (at_place (middle_coordinate least.last_column.0) (middle_coordinate least.last_column.1), ((live_at least.last_column.0 least.last_column.1 least.last_column.2).live, next least.last_column.0 r.right least.last_column.3 ∙ sym hr));
      first_row = (at_place (middle_coordinate least.first_row.0) (middle_coordinate r.top), ((live_at least.first_row.0 r.top least.first_row.1).live, sym ht));
      last_row = (at_place (middle_coordinate least.last_row.0) (middle_coordinate least.last_row.1), ((live_at least.last_row.0 least.last_row.1 least.last_row.2).live, next least.last_row.1 r.bottom least.last_row.3 ∙ sym hb));
    }
      where
        within : (x n : ℤ) (k first past : ℕ) → x ≡ middle_coordinate first → (x +ℤ pos k) ≡ middle_coordinate past → is_coordinate_in_middle n ≡ true → is_between first past (from_middle_edge n) ≡ true → is_in_span x k n ≡ true
        within x n k first past e e' here h =
            let sides = from_between first past (from_middle_edge n) h in
            let place = at_coordinate n here in
            and_from (int_le x n) (int_lt n (x +ℤ pos k))
            (rw (e, place) (not_before first (from_middle_edge n) sides.0))
            (rw (e', place) (is_before (from_middle_edge n) past sides.1))

        next : (n past : ℕ) → n + 1 ≡ past → (middle_coordinate n +ℤ pos 1) ≡ middle_coordinate past
        next n past e = omega (arith, ints, e)
