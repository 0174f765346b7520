-- Squares over which an edit is written.
use Rattle.std.proofs.Common.{◌≡◌, ℕ, zero, suc, ◌+◌, ◌-◌, ◌*◌, ◌/◌, ◌%◌, ◌<◌, Bool, true, false, List, [], ◌∷◌, inl, inr, refl, sym, ap, ◌∙◌, subst, arith}
use Rattle.std.specs.Prelude.{slice_index_or, Option, None, Some, IfSome, IsTrue, ◌==◌, nat_lt, if◌then◌else◌, length}
use Rattle.std.specs.HashMap.{HashMap}
use Rattle.std.proofs.lemmas.Bool.Decides.{nat_tests}
use Rattle.square_store.specs.Grid.{Grid, blank_grid, quartered, AreSameWithin}
use Rattle.square_store.specs.Squares.{Held, IsAt, side_at, grid_at, Draws}
use Rattle.square_store.specs.Seen.{AreQuartersAt}
use Rattle.square_store.specs.Store.{IsGrown}
use Rattle.square_store.proofs.Quarters.{AreQuartersOf, quarters_of}
use Rattle.square_store.proofs.Drawn.{draws_as, twice_below}
use Rattle.generations_rule.specs.Place.{Place}
use Rattle.leaf_merge_lanes.specs.Leaf.{write_of, write_on_leaf}
use Rattle.stamped_writes.specs.declared.write.Write.{Write}
use Rattle.edit_stamps.specs.Edit.{PlaneEdit, IsEdit, listed, is_covered, write_by, writes_of}
use Rattle.edit_stamps.specs.Stamp.{is_stamp}
use Rattle.edit_stamps.specs.Plane.{is_in_plane}
use Rattle.edit_stamps.specs.PlaneMap.{is_plane_write, LiesInPlane}
use Rattle.stamped_writes.specs.Write.{unwritten, greater, joined, Writes, AreSame}
use Rattle.edit_stamps.proofs.WriteLaws.{greater-unwritten}
use Rattle.stamped_tree.specs.declared.leaf_kind.PlaneLeaf.{PlaneLeaf}
use Rattle.stamped_tree.specs.declared.area.Area.{Area}
use Rattle.stamped_tree.specs.declared.cells.ListedCell.{ListedCell}
use Rattle.stamped_tree.specs.declared.filled.AreaKey.{AreaKey}
use Rattle.stamped_tree.specs.LeafKind.{plane_grid}
use Rattle.stamped_tree.specs.Area.{is_in_area, area_grid, IsAreaOfPart, IsEmptyArea, IsWholeArea}
use Rattle.stamped_tree.specs.Drawing.{state_listed, edit_grid, cells_in}
use Rattle.stamped_tree.specs.Filled.{AreFilled, IsFilled}
use Rattle.stamped_tree.specs.OnPlane.{plane_writes}
use Rattle.stamped_tree.specs.Overwriting.{overwrite, overwritten, overwritten_grid, listed_over}
use Rattle.stamped_tree.specs.Plane.{from_edge, grid_of_leaf, map_of, HasPlaneWrites}
use Rattle.stamped_tree.proofs.Drawing.{part_writes, edit_writes}
use Rattle.stamped_tree.proofs.Maps.{blank_read}
use Rattle.stamped_tree.proofs.OnPlaneLaws.{placed, edit_inside}
use Rattle.stamped_tree.proofs.Parts.{same_default}

-- ---- one write over another

some_stamp : (stamp : ℕ) → IsTrue (is_stamp stamp) → nat_lt 0 stamp ≡ true
some_stamp zero h = absurd (grind (arith, nat_tests, h))
some_stamp (suc stamp) h = grind (arith, nat_tests)

-- what an edit writes over a write
pub over_by : (old : Write) (stamp : ℕ) → IsTrue (is_stamp stamp) → (state : Option ℕ) (covered : Bool) → listed_over (if covered then write_of stamp 0 else old) stamp state ≡ overwrite old (write_by stamp state covered)
over_by old stamp h (Some state) covered = rw (some_stamp stamp h) refl
over_by old stamp h None true = rw (some_stamp stamp h) refl
over_by old stamp h None false = refl

-- an edit over nothing
over_nothing : (stamp : ℕ) → IsTrue (is_stamp stamp) → (state : Option ℕ) (covered : Bool) → overwrite unwritten (write_by stamp state covered) ≡ write_by stamp state covered
over_nothing stamp h (Some state) covered = rw (some_stamp stamp h) refl
over_nothing stamp h None true = rw (some_stamp stamp h) refl
over_nothing stamp h None false = refl

-- writes that a plane may have
over_stamped : (old new : Write) → IsTrue (is_plane_write old) → IsTrue (is_plane_write new) → IsTrue (is_plane_write (overwrite old new))
over_stamped old new ho hn = go (nat_lt 0 new.stamp)
  where
    go : (t : Bool) → IsTrue (is_plane_write (if t then new else old))
    go true = hn
    go false = ho

pub over_same : (n : ℕ) (f g x y : Grid) → AreSameWithin n f g → AreSameWithin n x y → AreSameWithin n (overwritten_grid f x) (overwritten_grid g y)
over_same n f g x y e h u v hu hv = rw (e u v hu hv, h u v hu hv) refl

-- ---- areas

not_covered : (a : Area) (u v : ℕ) → IsEmptyArea a → is_in_area a u v ≡ false
not_covered a u v (inl h) = grind (arith, nat_tests, h)
not_covered a u v (inr h) = grind (arith, nat_tests, h)

covered : (a : Area) (n u v : ℕ) → IsWholeArea n a → u < n → v < n → is_in_area a u v ≡ true
covered a n u v h hu hv = let l = h.0 in let r = h.1 in let t = h.2 in let b = h.3 in grind (arith, nat_tests, l, r, t, b)

-- ---- leaves

-- an area and then the listed states, written on a leaf
pub leaf_written : (leaf mid new : List Write) (stamp : ℕ) (a : Area) (cells : List ListedCell) → IsTrue (is_stamp stamp)
    → ((i : ℕ) → i < 64 → write_on_leaf mid i ≡ (if is_in_area a (i % 8) (i / 8) then write_of stamp 0 else write_on_leaf leaf i))
    → ((i : ℕ) → i < 64 → write_on_leaf new i ≡ listed_over (write_on_leaf mid i) stamp (state_listed cells (i % 8) (i / 8)))
    → AreSameWithin 8 (grid_of_leaf new) (overwritten_grid (grid_of_leaf leaf) (edit_grid stamp a cells))
leaf_written leaf mid new stamp a cells h first second u v hu hv =
    let i = 8 * v + u in
    let eu : (8 * v + u) % 8 ≡ u = omega (arith, hu) in
    let ev : (8 * v + u) / 8 ≡ v = omega (arith, hu) in
    let within : i < 64 = omega (arith, hu, hv) in
    second i within ∙ rw (eu, ev) (ap (λ w. listed_over w stamp (state_listed cells u v)) (rw (eu, ev) at (first i within)) ∙ over_by (write_on_leaf leaf i) stamp h (state_listed cells u v) (is_in_area a u v))

pub leaf_left : (leaf : List Write) (stamp : ℕ) (a : Area) → IsEmptyArea a → (i : ℕ) → write_on_leaf leaf i ≡ (if is_in_area a (i % 8) (i / 8) then write_of stamp 0 else write_on_leaf leaf i)
leaf_left leaf stamp a h i = rw (not_covered a (i % 8) (i / 8) h) refl

-- the same, over the square that the leaf is read from
pub leaf_over : (leaf old f e : Grid) → AreSameWithin 8 leaf (overwritten_grid old e) → AreSameWithin 8 old f → AreSameWithin (side_at 8 0) leaf (overwritten_grid f e)
leaf_over leaf old f e written read u v hu hv = written u v hu hv ∙ over_same 8 old f e e read (λ u v hu hv. refl) u v hu hv

pub leaf_stamped : (n : ℕ) (f g : Grid) (stamp : ℕ) (a : Area) (cells : List ListedCell) → IsTrue (is_stamp stamp) → HasPlaneWrites n f → AreSameWithin n g (overwritten_grid f (edit_grid stamp a cells)) → HasPlaneWrites n g
leaf_stamped n f g stamp a cells h has same u v hu hv = subst (λ w. IsTrue (is_plane_write w)) (sym (same u v hu hv)) (over_stamped (f u v) (edit_grid stamp a cells u v) (has u v hu hv) (edit_writes stamp a cells u v h))

pub same_writes : (n : ℕ) (f g : Grid) → AreSameWithin n f g → HasPlaneWrites n g → HasPlaneWrites n f
same_writes n f g same has u v hu hv = subst (λ w. IsTrue (is_plane_write w)) (sym (same u v hu hv)) (has u v hu hv)

-- ---- squares of which no cell is listed

none_of : (cells : List ListedCell) → length cells ≡ 0 → cells ≡ []
none_of [] h = refl
none_of (c ∷ cells) h = absurd (omega (arith, h))

pub stays : (s : Held PlaneLeaf) (k p stamp : ℕ) (a : Area) (cells : List ListedCell) → IsAt s k p → length cells ≡ 0 → IsEmptyArea a → Draws plane_grid 8 s k (overwritten_grid (grid_at plane_grid 8 s k p) (edit_grid stamp a cells)) p
stays s k p stamp a cells at none empty = record {
  stands = at;
  same = λ u v hu hv. rw (none_of cells none, not_covered a u v empty) refl;
}

-- an area that is all of a square makes it a blank
pub covered_whole : (s : Held PlaneLeaf) (k p stamp n : ℕ) (a : Area) (cells : List ListedCell) → IsTrue (is_stamp stamp) → n ≡ side_at 8 k → length cells ≡ 0 → IsWholeArea n a → AreSameWithin (side_at 8 k) (blank_grid stamp) (overwritten_grid (grid_at plane_grid 8 s k p) (edit_grid stamp a cells))
covered_whole s k p stamp n a cells h side none whole u v hu hv = rw (none_of cells none, covered a n u v whole (omega (arith, hu, side)) (omega (arith, hv, side)), some_stamp stamp h) refl

pub blank_over : (s t : Held PlaneLeaf) (k p stamp n b : ℕ) (a : Area) (cells : List ListedCell) → IsTrue (is_stamp stamp) → n ≡ side_at 8 k → length cells ≡ 0 → IsWholeArea n a → Draws plane_grid 8 t k (blank_grid stamp) b → Draws plane_grid 8 t k (overwritten_grid (grid_at plane_grid 8 s k p) (edit_grid stamp a cells)) b
blank_over s t k p stamp n b a cells h side none whole drawn = draws_as plane_grid 8 t k (blank_grid stamp) (overwritten_grid (grid_at plane_grid 8 s k p) (edit_grid stamp a cells)) b (covered_whole s k p stamp n a cells h side none whole) drawn

pub area_over : (s : Held PlaneLeaf) (k p stamp d : ℕ) (a : Area) (cells : List ListedCell) → length cells ≡ 0 → Draws plane_grid 8 s k (overwritten_grid (grid_at plane_grid 8 s k p) (area_grid stamp a)) d → Draws plane_grid 8 s k (overwritten_grid (grid_at plane_grid 8 s k p) (edit_grid stamp a cells)) d
area_over s k p stamp d a cells none drawn = rw (none_of cells none) drawn

pub no_length : (n : ℕ) → true ≡ (n == 0) → n ≡ 0
no_length n h = let is : (n == 0) ≡ true = sym h in grind (arith, nat_tests, is)

pub filled_drawn : (s t : Held PlaneLeaf) (k p stamp d : ℕ) (a : Area) (cells : List ListedCell) → IsGrown plane_grid 8 s t → IsAt s k p → length cells ≡ 0 → Draws plane_grid 8 t k (overwritten_grid (grid_at plane_grid 8 s k p) (edit_grid stamp a cells)) d → IsFilled t stamp k a p d
filled_drawn s t k p stamp d a cells g at none drawn =
    let over : Draws plane_grid 8 t k (overwritten_grid (grid_at plane_grid 8 s k p) (area_grid stamp a)) d = rw (none_of cells none) at drawn in
    record {
      stands = g.stands k p at;
      draws = record {
        stands = over.stands;
        same = λ u v hu hv. over.same u v hu hv ∙ sym (ap (λ (f : Grid). overwrite (f u v) (area_grid stamp a u v)) (g.same k p at));
      };
    }

-- ---- squares that were kept

pub some_right : (o : Option ℕ) (P : ℕ → Type 0) → ((p : ℕ) → o ≡ Some p → P p) → IfSome o P
some_right None P h = tt
some_right (Some p) P h = h p refl

pub grown_none : {L : Type 0} (writes : L → Grid) (side : ℕ) (s : Held L) → IsGrown writes side s s
grown_none writes side s = record { room = refl; held = λ p h. h; stands = λ k p h. h; same = λ k p h. refl }

-- what was written over a square, in a store that grew
pub over_later : (s t : Held PlaneLeaf) (k q p : ℕ) (w : Grid) → IsGrown plane_grid 8 s t → IsAt s k q → Draws plane_grid 8 s k (overwritten_grid (grid_at plane_grid 8 s k q) w) p → Draws plane_grid 8 t k (overwritten_grid (grid_at plane_grid 8 t k q) w) p
over_later s t k q p w g at drawn = record {
  stands = g.stands k p drawn.stands;
  same = λ u v hu hv. ap (λ (f : Grid). f u v) (g.same k p drawn.stands) ∙ drawn.same u v hu hv ∙ sym (ap (λ (f : Grid). overwrite (f u v) (w u v)) (g.same k q at));
}

pub filled_later : {S : Type 0} (s t : Held PlaneLeaf) (stamp : ℕ) (kept : HashMap AreaKey ℕ S) → IsGrown plane_grid 8 s t → AreFilled s stamp kept → AreFilled t stamp kept
filled_later s t stamp kept g are = record {
  each = λ key p e. (let was = are.each key p e in record {
    stands = g.stands key.level key.part was.stands;
    draws = over_later s t key.level key.part p (area_grid stamp key.area) g was.stands was.draws;
  });
}

-- ---- quarters

module _ (s : Held PlaneLeaf) (k p : ℕ) (parts : List ℕ) (some : 0 < k) (cut : AreQuartersAt plane_grid 8 s k p parts) (n : ℕ) (is : n ≡ side_at 8 (k - 1)) where
  abbrev at : ℕ → Grid
  at i = grid_at plane_grid 8 s (k - 1) (slice_index_or parts i 0)

  reads : AreQuartersOf n (at 0) (at 1) (at 2) (at 3) (grid_at plane_grid 8 s k p)
  reads = quarters_of n (at 0) (at 1) (at 2) (at 3) (grid_at plane_grid 8 s k p)
      (λ u v hu hv. (let wide = twice_below 8 k some in
      ap (λ m. quartered m (at 0) (at 1) (at 2) (at 3) u v) is ∙ sym (cut.draws.same u v (omega (arith, hu, is, wide)) (omega (arith, hv, is, wide)))))

  pub part_is : (i w : ℕ) → i < 4 → slice_index_or parts i w ≡ slice_index_or parts i 0
  part_is i w h = same_default parts i w 0 (let l = cut.four in omega (arith, h, l))

  pub part_at : (i w : ℕ) → i < 4 → IsAt s (k - 1) (slice_index_or parts i w)
  part_at i w h = subst (λ q. IsAt s (k - 1) q) (sym (part_is i w h)) (cut.stand i h)

  -- what a quarter reads in a store that grew
  read_later : (t : Held PlaneLeaf) → IsGrown plane_grid 8 s t → (i : ℕ) → i < 4 → (u v : ℕ) → grid_at plane_grid 8 t (k - 1) (slice_index_or parts i 0) u v ≡ at i u v
  read_later t g i h u v = ap (λ (f : Grid). f u v) (g.same (k - 1) (slice_index_or parts i 0) (cut.stand i h))

  module _ (t : Held PlaneLeaf) (g : IsGrown plane_grid 8 s t) (stamp : ℕ) (a x : Area) (cells : List ListedCell) (w : ℕ) where
    pub over_nw : IsAreaOfPart a 0 0 n x → AreSameWithin n (overwritten_grid (grid_at plane_grid 8 t (k - 1) (slice_index_or parts 0 w)) (edit_grid stamp x (cells_in cells 0 0 n))) (λ u v. overwritten_grid (grid_at plane_grid 8 s k p) (edit_grid stamp a cells) (0 + u) (0 + v))
    over_nw part = over_same n _ (λ u v. grid_at plane_grid 8 s k p (0 + u) (0 + v)) _ (λ u v. edit_grid stamp a cells (0 + u) (0 + v))
        (λ u v hu hv. ap (λ r. grid_at plane_grid 8 t (k - 1) r u v) (part_is 0 w (omega arith)) ∙ read_later t g 0 (omega arith) u v ∙ reads.nw u v hu hv ∙ (let zu : u ≡ 0 + u = omega arith in let zv : v ≡ 0 + v = omega arith in ap (λ z. grid_at plane_grid 8 s k p z v) zu ∙ ap (λ z. grid_at plane_grid 8 s k p (0 + u) z) zv))
        (part_writes stamp a x cells 0 0 n part)

    pub over_ne : IsAreaOfPart a n 0 n x → AreSameWithin n (overwritten_grid (grid_at plane_grid 8 t (k - 1) (slice_index_or parts 1 w)) (edit_grid stamp x (cells_in cells n 0 n))) (λ u v. overwritten_grid (grid_at plane_grid 8 s k p) (edit_grid stamp a cells) (n + u) (0 + v))
    over_ne part = over_same n _ (λ u v. grid_at plane_grid 8 s k p (n + u) (0 + v)) _ (λ u v. edit_grid stamp a cells (n + u) (0 + v))
        (λ u v hu hv. ap (λ r. grid_at plane_grid 8 t (k - 1) r u v) (part_is 1 w (omega arith)) ∙ read_later t g 1 (omega arith) u v ∙ reads.ne u v hu hv ∙ (let zv : v ≡ 0 + v = omega arith in ap (λ z. grid_at plane_grid 8 s k p (n + u) z) zv))
        (part_writes stamp a x cells n 0 n part)

    pub over_sw : IsAreaOfPart a 0 n n x → AreSameWithin n (overwritten_grid (grid_at plane_grid 8 t (k - 1) (slice_index_or parts 2 w)) (edit_grid stamp x (cells_in cells 0 n n))) (λ u v. overwritten_grid (grid_at plane_grid 8 s k p) (edit_grid stamp a cells) (0 + u) (n + v))
    over_sw part = over_same n _ (λ u v. grid_at plane_grid 8 s k p (0 + u) (n + v)) _ (λ u v. edit_grid stamp a cells (0 + u) (n + v))
        (λ u v hu hv. ap (λ r. grid_at plane_grid 8 t (k - 1) r u v) (part_is 2 w (omega arith)) ∙ read_later t g 2 (omega arith) u v ∙ reads.sw u v hu hv ∙ (let zu : u ≡ 0 + u = omega arith in ap (λ z. grid_at plane_grid 8 s k p z (n + v)) zu))
        (part_writes stamp a x cells 0 n n part)

    pub over_se : IsAreaOfPart a n n n x → AreSameWithin n (overwritten_grid (grid_at plane_grid 8 t (k - 1) (slice_index_or parts 3 w)) (edit_grid stamp x (cells_in cells n n n))) (λ u v. overwritten_grid (grid_at plane_grid 8 s k p) (edit_grid stamp a cells) (n + u) (n + v))
    over_se part = over_same n _ (λ u v. grid_at plane_grid 8 s k p (n + u) (n + v)) _ (λ u v. edit_grid stamp a cells (n + u) (n + v))
        (λ u v hu hv. ap (λ r. grid_at plane_grid 8 t (k - 1) r u v) (part_is 3 w (omega arith)) ∙ read_later t g 3 (omega arith) u v ∙ reads.se u v hu hv)
        (part_writes stamp a x cells n n n part)

-- ---- the map

pub over_read : (s t : Held PlaneLeaf) (root part : ℕ) (e : PlaneEdit) → Draws plane_grid 8 t 28 (overwritten_grid (grid_at plane_grid 8 s 28 root) (plane_writes e)) part → LiesInPlane (writes_of e)
    → AreSame (map_of (record { store = t; root = part })) (overwritten (map_of (record { store = s; root = root })) (writes_of e))
over_read s t root part e drawn inside at = go (is_in_plane at) refl
  where
    go : (b : Bool) → is_in_plane at ≡ b → map_of (record { store = t; root = part }) at ≡ overwritten (map_of (record { store = s; root = root })) (writes_of e) at
    go false out = rw (out, inside at out) refl
    go true in_plane =
        let there = placed at in_plane in
        let hu = there.1 in let hv = there.2 in
        rw in_plane (drawn.same (from_edge at.x) (from_edge at.y) (omega (arith, hu)) (omega (arith, hv)) ∙ ap (λ c. overwrite (grid_at plane_grid 8 s 28 root (from_edge at.x) (from_edge at.y)) (writes_of e c)) there.0)

-- over nothing
pub nothing_read : (s t : Held PlaneLeaf) (root part : ℕ) (e : PlaneEdit) → IsEdit e → Draws plane_grid 8 s 28 (blank_grid 0) root → Draws plane_grid 8 t 28 (overwritten_grid (grid_at plane_grid 8 s 28 root) (plane_writes e)) part
    → AreSame (map_of (record { store = t; root = part })) (writes_of e)
nothing_read s t root part e is blank drawn at =
    over_read s t root part e drawn (edit_inside e is) at
    ∙ ap (λ w. overwrite w (writes_of e at)) (blank_read (record { store = s; root = root }) blank at)
    ∙ over_nothing e.stamp is.stamp (listed e.cells at) (is_covered e.area at)

-- ---- a later edit

wins : (old : Write) (stamp state : ℕ) → old.stamp < stamp → record { stamp = stamp; state = state } ≡ greater old (record { stamp = stamp; state = state })
wins old stamp state h = let later : nat_lt old.stamp stamp ≡ true = grind (arith, nat_tests, h) in rw later refl

over_older : (old : Write) (stamp : ℕ) → IsTrue (is_stamp stamp) → old.stamp < stamp → (state : Option ℕ) (covered : Bool) → overwrite old (write_by stamp state covered) ≡ greater old (write_by stamp state covered)
over_older old stamp h older (Some state) covered = rw (some_stamp stamp h) (wins old stamp state older)
over_older old stamp h older None true = rw (some_stamp stamp h) (wins old stamp 0 older)
over_older old stamp h older None false = sym (greater-unwritten old)

-- where an edit's stamp is above those of a map, writing over it is joining
pub over_is_joined : (map : Writes) (e : PlaneEdit) → IsEdit e → ((c : Place) → (map c).stamp < e.stamp) → AreSame (overwritten map (writes_of e)) (joined map (writes_of e))
over_is_joined map e is older c = over_older (map c) e.stamp is.stamp (older c) (listed e.cells c) (is_covered e.area c)
