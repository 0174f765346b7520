-- The writes of a store's squares, as one more is added.
use Rattle.std.proofs.Common.{◌≡◌, ℕ, suc, ◌+◌, ◌-◌, ◌*◌, ◌<◌, List, length, inl, inr, ◌⊎◌, refl, sym, ap, subst, ◌∙◌, arith}
use Rattle.std.specs.Prelude.{slice_get, slice_index_or, Option, None, Some, IsTrue}
use Rattle.std.proofs.lemmas.Option.{slice_get_cases}
use Rattle.std.proofs.lemmas.Bool.{cases_lt}
use Rattle.std.proofs.Math.Pow.{pow_pos}
use Rattle.stamped_writes.specs.declared.write.Write.{Write}
use Rattle.edit_stamps.specs.PlaneMap.{is_plane_write}
use Rattle.leaf_merge_lanes.specs.Leaf.{write_of}
use Rattle.square_store.specs.declared.node.Node.{Node}
use Rattle.square_store.specs.declared.node.Node.TheVariants.{Blank, Leaf, Four}
use Rattle.square_store.specs.Grid.{Grid, blank_grid}
use Rattle.square_store.specs.Squares.{Held, side_at, IsAt, grid_at, four_grid, Draws}
use Rattle.square_store.specs.Store.{nothing_held, IsGrown, IsAdded, Stood, Added}
use Rattle.square_store.specs.Seen.{AreAt}
use Rattle.square_store.proofs.Places.{at_node, node_at, at_within, blank_writes}
use Rattle.square_store.proofs.Quarters.{twice, each_quarter}
use Rattle.stamped_tree.specs.declared.leaf_kind.PlaneLeaf.{PlaneLeaf}
use Rattle.stamped_tree.specs.LeafKind.{plane_grid}
use Rattle.stamped_tree.specs.Plane.{HasPlaneWrites, ArePlaneWrites, HoldPlaneWrites}

pub side_some : (k : ℕ) → 0 < side_at 8 k
side_some k = omega (arith, pow_pos k)

-- a square has one level, or is a blank
levels : (s : Held PlaneLeaf) (k j p : ℕ) → IsAt s k p → IsAt s j p → (k ≡ j) ⊎ ((t : ℕ) × (slice_get s.squares p ≡ Some (Blank t)))
levels s k j p h i = go (slice_get s.squares p) refl
  where
    go : (x : Option Node) → slice_get s.squares p ≡ x → (k ≡ j) ⊎ ((t : ℕ) × (slice_get s.squares p ≡ Some (Blank t)))
    go None e = absurd (node_at s k p None e h)
    go (Some (Blank t)) e = inr (t, e)
    go (Some (Leaf q)) e = inl (node_at s k p (Some (Leaf q)) e h ∙ sym (node_at s j p (Some (Leaf q)) e i))
    go (Some (Four m a b c d)) e = inl (node_at s k p (Some (Four m a b c d)) e h ∙ sym (node_at s j p (Some (Four m a b c d)) e i))

-- each square that is held stands for a level
some_level : (s : Held PlaneLeaf) (p : ℕ) → p < length s.squares → (k : ℕ) × IsAt s k p
some_level s p h = elim ((slice_get_cases s.squares p).1) [
  | inl c ↦ level_of c.0 c.2
  | inr c ↦ absurd (omega (arith, h, c.0))
]
  where
    level_of : (x : Node) → slice_get s.squares p ≡ Some x → (k : ℕ) × IsAt s k p
    level_of (Blank t) e = (0, at_node s 0 p (Blank t) e tt)
    level_of (Leaf q) e = (0, at_node s 0 p (Leaf q) e refl)
    level_of (Four m a b c d) e = (m, at_node s m p (Four m a b c d) e refl)

-- what a square writes as one level it writes as any for which it stands
pub any_level : (s : Held PlaneLeaf) (k p : ℕ) → IsAt s k p → HasPlaneWrites (side_at 8 k) (grid_at plane_grid 8 s k p) → (j : ℕ) → IsAt s j p → HasPlaneWrites (side_at 8 j) (grid_at plane_grid 8 s j p)
any_level s k p h has j i u v hu hv = elim (levels s k j p h i) [
  | inl e ↦ (subst (λ m. HasPlaneWrites (side_at 8 m) (grid_at plane_grid 8 s m p)) e has) u v hu hv
  | inr b ↦ subst (λ (f : Grid). IsTrue (is_plane_write (f u v))) (sym (blank_writes plane_grid 8 s j p b.0 b.1))
      (subst (λ (f : Grid). IsTrue (is_plane_write (f 0 0))) (blank_writes plane_grid 8 s k p b.0 b.1) (has 0 0 (side_some k) (side_some k)))
]

pub holds_nothing : (room : ℕ) → HoldPlaneWrites (nothing_held room)
holds_nothing room k p h = let within = at_within (nothing_held room) k p h in absurd (omega (arith, within))

-- one more square, with writes of a plane
module _ (old new : Held PlaneLeaf) (k : ℕ) (f : Grid) (p : ℕ) (holds : HoldPlaneWrites old) (grown : IsGrown plane_grid 8 old new) (drawn : Draws plane_grid 8 new k f p) (has : HasPlaneWrites (side_at 8 k) f) where
  stood : (q : ℕ) → q < length old.squares → (j : ℕ) → IsAt new j q → HasPlaneWrites (side_at 8 j) (grid_at plane_grid 8 new j q)
  stood q h =
      let own = some_level old q h in
      any_level new own.0 q (grown.stands own.0 q own.1)
      (subst (λ (g : Grid). HasPlaneWrites (side_at 8 own.0) g) (sym (grown.same own.0 q own.1)) (holds own.0 q own.1))

  is_new : (j : ℕ) → IsAt new j p → HasPlaneWrites (side_at 8 j) (grid_at plane_grid 8 new j p)
  is_new = any_level new k p drawn.stands (λ u v hu hv. subst (λ (w : Write). IsTrue (is_plane_write w)) (sym (drawn.same u v hu hv)) (has u v hu hv))

  pub holds_added : IsAdded plane_grid 8 old new k f p → HoldPlaneWrites new
  holds_added (Stood e) = λ j q h. subst HoldPlaneWrites (sym e) holds j q h
  holds_added (Added absent place more) = λ j q h. elim (cases_lt q (length old.squares)) [
    | inl below ↦ stood q below j h
    | inr above ↦ (let e : q ≡ p = (let within = at_within new j q h in omega (arith, within, more, place, above)) in
        subst (λ i. HasPlaneWrites (side_at 8 j) (grid_at plane_grid 8 new j i)) (sym e) (is_new j (subst (λ i. IsAt new j i) e h)))
  ]

pub blank_has : (t : ℕ) → IsTrue (is_plane_write (write_of t 0)) → (n : ℕ) → HasPlaneWrites n (blank_grid t)
blank_has t h n u v hu hv = h

pub leaf_has : (writes : List Write) → ArePlaneWrites writes → HasPlaneWrites (side_at 8 0) (plane_grid (record { leaf = writes }))
leaf_has writes h u v hu hv = h (8 * v + u) (omega (arith, hu, hv))

pub four_has : (s : Held PlaneLeaf) → HoldPlaneWrites s → (k : ℕ) → 0 < k → (parts : List ℕ) → AreAt s (k - 1) parts → HasPlaneWrites (side_at 8 k) (four_grid plane_grid 8 s (k - 1) parts)
four_has s holds k some parts are u v hu hv =
    let n = side_at 8 (k - 1) in
    let at = λ (i : ℕ). grid_at plane_grid 8 s (k - 1) (slice_index_or parts i 0) in
    let wide : side_at 8 k ≡ n + n = (let e : suc (k - 1) ≡ k = omega (arith, some) in ap (side_at 8) (sym e) ∙ twice 8 (k - 1)) in
    each_quarter (λ w. IsTrue (is_plane_write w)) n (at 0) (at 1) (at 2) (at 3)
    (holds (k - 1) (slice_index_or parts 0 0) (are 0 (omega arith))) (holds (k - 1) (slice_index_or parts 1 0) (are 1 (omega arith)))
    (holds (k - 1) (slice_index_or parts 2 0) (are 2 (omega arith))) (holds (k - 1) (slice_index_or parts 3 0) (are 3 (omega arith)))
    u v (omega (arith, hu, wide)) (omega (arith, hv, wide))
