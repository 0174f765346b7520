-- A text whose map does not fit: no store of that room holds the map's square.
use Rattle.std.proofs.Common.{◌≡◌, Bool, true, false, ℕ, zero, suc, ◌+◌, ◌-◌, List, Result, Ok, Err, length, inl, inr, sym, ap, subst, ◌∙◌, arith}
use Rattle.std.specs.Prelude.{pos, ◌+ℤ◌, ℤ, ◌==◌, ◌⊎◌}
use Rattle.std.proofs.lemmas.Bool.{cases_lt}
use Rattle.std.proofs.lemmas.Int.{ints}
use Rattle.generations_rule.specs.Place.{Place, moved}
use Rattle.generations_rule.specs.Rule.{GenerationsRule}
use Rattle.byte_codec.specs.Reading.{ended, onwards}
use Rattle.stamped_writes.specs.Write.{Writes, AreSame, unwritten}
use Rattle.square_store.specs.Grid.{Grid, blank_grid, quartered, AreSameWithin}
use Rattle.square_store.specs.Squares.{Held, side_at, IsAt, Draws}
use Rattle.square_store.specs.Store.{IsOnePartEach, IsStore}
use Rattle.square_store.proofs.Counting.{AreShared, no_room, shared_piece}
use Rattle.square_store.proofs.Drawn.{draws_as, draws_later}
use Rattle.square_store.proofs.Places.{at_within}
use Rattle.square_store.proofs.Quarters.{twice, quarter_nw, quarter_ne, quarter_sw, quarter_se}
use Rattle.stamped_tree.specs.declared.leaf_kind.PlaneLeaf.{PlaneLeaf}
use Rattle.stamped_tree.specs.LeafKind.{IsPlaneLeaf, plane_grid}
use Rattle.stamped_tree.specs.Plane.{StampedPlane, map_of}
use Rattle.stamped_tree.specs.Tree.{Tree, Blank, Leaf, Four, IsTreeOf, IsPlaneTree, plane_corner, side, east, south, south_east}
use Rattle.stamped_tree.proofs.Maps.{root_read}
use Rattle.stamped_tree.proofs.TreeLaws.{reached}
use Rattle.delta_exchange.specs.declared.fault.ReadFault.{ReadFault}
use Rattle.delta_exchange.specs.declared.fault.ReadFault.TheVariants.{StoreFull, Trailing}
use Rattle.delta_exchange.specs.declared.square_reading.ReadSquare.{ReadSquare}
use Rattle.delta_exchange.specs.Room.{tree_grid, IsFilledFor, IsReadInto, IsTooLargeFor, IsMapTooLargeFor, square_of}
use Rattle.delta_exchange.specs.StateReading.{state_tree_of, tree_at}
use Rattle.delta_exchange.proofs.MessageLaws.{FailsHead, HasHead, at_end, head_then, no_head}
use Rattle.delta_exchange.specs.Fault.{IsWant}

-- ---- what a text goes on with

told_end : (b : Bool) (x tree : Tree) → at_end b x ≡ Ok tree → x ≡ tree
told_end true x tree e = cc
told_end false x tree e = absurd (cc)

pub square_behind : (read : Result (Tree × List ℕ) ReadFault) (tree : Tree) → onwards read (λ tree rest. ended Trailing tree rest) ≡ Ok tree → (rest : List ℕ) × (read ≡ Ok (tree, rest))
square_behind (Err f) tree e = absurd (cc)
square_behind (Ok x) tree e = (x.1, ap (λ t. Ok (t, x.1)) (told_end (length x.1 == 0) x.0 tree e))

-- behind the head stands the square of the whole plane
pub whole_square : (r : GenerationsRule) (text t1 : List ℕ) (states : ℕ) (tree : Tree) → HasHead r text t1 → states ≡ r.states → state_tree_of r text ≡ Ok tree → (rest : List ℕ) × (tree_at states 28 t1 ≡ Ok (tree, rest))
whole_square r text t1 states tree head same is =
    let e = square_behind (tree_at r.states 28 t1) tree (sym (head_then r text t1 head) ∙ is) in
    (e.0, ap (λ n. tree_at n 28 t1) same ∙ e.1)

-- the head of a text that is one wants no room
pub head_has_room : (r : GenerationsRule) (text : List ℕ) (tree : Tree) (fault : ReadFault) → state_tree_of r text ≡ Ok tree → IsWant fault ⊎ FailsHead r text fault → fault ≡ StoreFull → ⊥
head_has_room r text tree fault is (inl want) e = absurd (cc)
head_has_room r text tree fault is (inr fails) e = never (state_tree_of r text) is (no_head r text fault fails)
  where
    never : (read : Result Tree ReadFault) → read ≡ Ok tree → read ≡ Err fault → ⊥
    never read e f = cc

-- ---- a new plane, and what was read into it

-- a square was refused for want of room
pub refused_full : (r : Result ReadSquare ReadFault) (old new : Held PlaneLeaf) (k : ℕ) (f : Grid) → IsReadInto r old new k f → r ≡ Err StoreFull → IsFilledFor old new k f
refused_full r old new k f into refused = record { grown = into.grown; pieces = into.pieces; full = into.full refused }

-- no store of the room of a full one has the square that it lacks
pub too_large : (plane : StampedPlane) (new : Held PlaneLeaf) (nodes : ℕ) (f : Grid) → length plane.store.squares ≡ 1 → plane.store.room ≡ nodes → AreSame (map_of plane) (λ c. unwritten) → IsAt plane.store 28 plane.root
    → IsFilledFor plane.store new 28 f → IsStore plane_grid 8 IsPlaneLeaf new → IsOnePartEach plane_grid 8 new → IsTooLargeFor nodes f
too_large plane new nodes f single room none at into is one t a b its room' blank drawn =
    let full = into.full is in
    no_room plane_grid 8 IsPlaneLeaf new t is.canonical (omega arith) one shared 28 b f full its.few_squares (room' ∙ sym room ∙ sym into.grown.room) drawn
  where
    root_blank : Draws plane_grid 8 plane.store 28 (blank_grid 0) plane.root
    root_blank = record { stands = at; same = λ u v hu hv. sym (root_read plane u v (omega (arith, hu)) (omega (arith, hv))) ∙ none (moved plane_corner (pos u) (pos v)) }

    shared : AreShared plane_grid 8 new t
    shared q held = elim (into.pieces q held) [
      | inl old ↦ (let within = at_within plane.store 28 plane.root at in let e : plane.root ≡ q = omega (arith, old, within, single) in
          (a, record { level = 28; grid = blank_grid 0; here = subst (λ p. Draws plane_grid 8 new 28 (blank_grid 0) p) e (draws_later plane_grid 8 plane.store new 28 (blank_grid 0) plane.root into.grown root_blank); there = blank 28 }))
      | inr piece ↦ shared_piece plane_grid 8 IsPlaneLeaf t its.canonical new 28 q f b piece drawn
    ]

-- ---- the square of a map

further : (corner : Place) (m n u v x y : ℕ) → x ≡ m + u → y ≡ n + v → moved (moved corner (pos m) (pos n)) (pos u) (pos v) ≡ moved corner (pos x) (pos y)
further corner m n u v x y hx hy = λ j. record { x = add corner.x m u x hx j; y = add corner.y n v y hy j }
  where
    add : (z : ℤ) (m u x : ℕ) → x ≡ m + u → z +ℤ pos m +ℤ pos u ≡ z +ℤ pos x
    add z m u x h = omega (arith, ints, h)

-- four squares are the quarters of a map's
quarters_of_map : (n : ℕ) (a b c d : Grid) (p : Writes) (corner : Place) → AreSameWithin n a (square_of p corner) → AreSameWithin n b (square_of p (east n corner)) → AreSameWithin n c (square_of p (south n corner)) → AreSameWithin n d (square_of p (south_east n corner))
    → AreSameWithin (n + n) (quartered n a b c d) (square_of p corner)
quarters_of_map n a b c d p corner ea eb ec ed u v hu hv = elim (cases_lt v n) [
  | inl top ↦ elim (cases_lt u n) [
    | inl left ↦ quarter_nw n a b c d u v left top ∙ ea u v left top
    | inr right ↦ (let e : n + (u - n) ≡ u = omega arith in
        ap (λ z. quartered n a b c d z v) (sym e) ∙ quarter_ne n a b c d (u - n) v top ∙ eb (u - n) v (omega (arith, hu)) top ∙ ap p (further corner n 0 (u - n) v u v (sym e) (omega arith)))
  ]
  | inr bottom ↦ (let f : n + (v - n) ≡ v = omega arith in elim (cases_lt u n) [
    | inl left ↦ ap (λ z. quartered n a b c d u z) (sym f) ∙ quarter_sw n a b c d u (v - n) left ∙ ec u (v - n) left (omega (arith, hv)) ∙ ap p (further corner 0 n u (v - n) u v (omega arith) (sym f))
    | inr right ↦ (let e : n + (u - n) ≡ u = omega arith in
        ap (λ z. quartered n a b c d z v) (sym e) ∙ ap (λ z. quartered n a b c d (n + (u - n)) z) (sym f) ∙ quarter_se n a b c d (u - n) (v - n)
        ∙ ed (u - n) (v - n) (omega (arith, hu)) (omega (arith, hv)) ∙ ap p (further corner n n (u - n) (v - n) u v (sym e) (sym f)))
  ])
]

-- the writes of the tree of a map's square are the map's
pub tree_writes : (p : Writes) (k : ℕ) (corner : Place) (tree : Tree) → IsTreeOf p k corner tree → AreSameWithin (side_at 8 k) (tree_grid k tree) (square_of p corner)
unfolding tree_grid
tree_writes p zero corner (Blank t) is u v hu hv = sym (is (moved corner (pos u) (pos v)) (reached corner (side 0) u v hu hv))
tree_writes p zero corner (Leaf writes) is u v hu hv = is.1.each u v (omega (arith, hu)) (omega (arith, hv)) unwritten
tree_writes p zero corner (Four a b c d) is u v hu hv = absurd is
tree_writes p (suc k) corner (Blank t) is u v hu hv = sym (is (moved corner (pos u) (pos v)) (reached corner (side (suc k)) u v hu hv))
tree_writes p (suc k) corner (Leaf writes) is u v hu hv = absurd is
tree_writes p (suc k) corner (Four a b c d) is u v hu hv =
    quarters_of_map (side_at 8 k) (tree_grid k a) (tree_grid k b) (tree_grid k c) (tree_grid k d) p corner
    (tree_writes p k corner a is.1) (tree_writes p k (east (side k) corner) b is.2) (tree_writes p k (south (side k) corner) c is.3) (tree_writes p k (south_east (side k) corner) d is.4)
    u v (omega (arith, hu, twice 8 k)) (omega (arith, hv, twice 8 k))

pub map_too_large : (p : Writes) (tree : Tree) (nodes : ℕ) → IsPlaneTree p tree → IsTooLargeFor nodes (tree_grid 28 tree) → IsMapTooLargeFor nodes p
map_too_large p tree nodes is large t a b its room blank drawn =
    large t a b its room blank (draws_as plane_grid 8 t 28 (square_of p plane_corner) (tree_grid 28 tree) b (λ u v hu hv. sym (tree_writes p 28 plane_corner tree is u v hu hv)) drawn)
