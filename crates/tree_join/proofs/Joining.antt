-- Joins of squares, from what the stamps tell and from joins of the quarters.
use Rattle.std.proofs.Common.{◌≡◌, ℕ, zero, suc, ◌+◌, ◌-◌, ◌*◌, ◌/◌, ◌%◌, ◌<◌, List, [], ◌∷◌, inl, inr, refl, sym, ap, subst, ◌∙◌, arith}
use Rattle.std.specs.Prelude.{IsTrue, slice_index_or}
use Rattle.std.specs.HashMap.{HashMap}
use Rattle.std.proofs.lemmas.Bool.{cases_Bool}
use Rattle.stamped_writes.specs.declared.write.Write.{Write}
use Rattle.stamped_writes.specs.Write.{at_most, greater}
use Rattle.edit_stamps.specs.PlaneMap.{is_plane_write}
use Rattle.edit_stamps.proofs.WriteLaws.{is_total}
use Rattle.leaf_merge_lanes.specs.Leaf.{write_of, write_on_leaf}
use Rattle.square_store.specs.Grid.{Grid, AreSameWithin}
use Rattle.square_store.specs.Squares.{Held, side_at, IsAt, grid_at, four_grid, Draws}
use Rattle.square_store.specs.Store.{IsGrown}
use Rattle.square_store.specs.Seen.{AreAt, IsBlankAt}
use Rattle.stamped_tree.specs.declared.leaf_kind.PlaneLeaf.{PlaneLeaf}
use Rattle.stamped_tree.specs.LeafKind.{plane_grid}
use Rattle.stamped_tree.specs.Plane.{ArePlaneWrites, HoldPlaneWrites, grid_of_leaf}
use Rattle.stamped_tree.specs.Copy.{IsCopy}
use Rattle.stamped_tree.proofs.Copying.{copy_later}
use Rattle.square_store.proofs.Drawn.{grown_more, twice_below}
use Rattle.stamped_tree.proofs.Parts.{same_default}
use Rattle.tree_join.specs.Squares.{AreQuarters, AreSquaresAtMost, IsSquareJoin, join_grid}
use Rattle.tree_join.specs.Remembered.{RemembersCopies, RemembersJoins}
use Rattle.tree_join.specs.declared.remember.PartPair.{PartPair}
use Rattle.tree_join.proofs.Comparing.{each_of_three}

pub right_wins : (v w : Write) → IsTrue (at_most v w) → greater v w ≡ w
right_wins v w h = rw h refl

pub left_wins : (v w : Write) → IsTrue (at_most w v) → greater v w ≡ v
left_wins v w h = elim (cases_Bool (at_most v w)) [
  | inl t ↦ right_wins v w t ∙ is_total.antisymmetric w v h t
  | inr f ↦ rw f refl
]

-- ---- one join

module _ (there : Held PlaneLeaf) (k a b : ℕ) where
  pub joined_stays : (here : Held PlaneLeaf) → IsAt here k a → AreSquaresAtMost there here k b a → IsSquareJoin here there k a b a
  joined_stays here at most = record {
    stands = at;
    draws = record { stands = at; same = λ u v hu hv. sym (left_wins _ _ (most u v hu hv)) };
  }

  -- what was read at a square before is read in a store that grew
  pub joins_as_before : (here new : Held PlaneLeaf) → IsGrown plane_grid 8 here new → IsAt here k a → (u v : ℕ) → join_grid new there k a b u v ≡ join_grid here there k a b u v
  joins_as_before here new grown at u v = ap (λ (f : Grid). greater (f u v) (grid_at plane_grid 8 there k b u v)) (grown.same k a at)

  pub joined_later : (here new : Held PlaneLeaf) (p : ℕ) → IsGrown plane_grid 8 here new → IsSquareJoin here there k a b p → IsSquareJoin new there k a b p
  joined_later here new p grown join = record {
    stands = grown.stands k a join.stands;
    draws = record {
      stands = grown.stands k p join.draws.stands;
      same = λ u v hu hv. ap (λ (f : Grid). f u v) (grown.same k p join.draws.stands) ∙ join.draws.same u v hu hv ∙ sym (joins_as_before here new grown join.stands u v);
    };
  }

  -- a square that is added with the writes of a join
  pub joined_drawn : (here new : Held PlaneLeaf) (f : Grid) (p : ℕ) → IsGrown plane_grid 8 here new → IsAt here k a → Draws plane_grid 8 new k f p → AreSameWithin (side_at 8 k) f (join_grid here there k a b) → IsSquareJoin new there k a b p
  joined_drawn here new f p grown at drawn same = record {
    stands = grown.stands k a at;
    draws = record {
      stands = drawn.stands;
      same = λ u v hu hv. drawn.same u v hu hv ∙ same u v hu hv ∙ sym (joins_as_before here new grown at u v);
    };
  }

  pub joined_brought : (here new : Held PlaneLeaf) (p : ℕ) → IsGrown plane_grid 8 here new → IsAt here k a → IsAt there k b → IsCopy there new b p → AreSquaresAtMost here there k a b → IsSquareJoin new there k a b p
  joined_brought here new p grown at bt copy most = joined_drawn here new (grid_at plane_grid 8 there k b) p grown at (copy.draws k bt) (λ u v hu hv. sym (right_wins _ _ (most u v hu hv)))

-- ---- what is kept

pub joins_later : {S : Type 0} (here new there : Held PlaneLeaf) (joins : HashMap PartPair ℕ S) → IsGrown plane_grid 8 here new → RemembersJoins here there joins → RemembersJoins new there joins
joins_later here new there joins grown kept = record { each = λ pair p e. joined_later there pair.above pair.here pair.there here new p grown (kept.each pair p e) }

pub copies_later : {S : Type 0} (here new there : Held PlaneLeaf) (copies : HashMap ℕ ℕ S) → IsGrown plane_grid 8 here new → RemembersCopies here there copies → RemembersCopies new there copies
copies_later here new there copies grown kept = record { each = λ a p e. copy_later there here new a p grown (kept.each a p e) }

-- ---- writes of planes

pub greater_has : (v w : Write) → IsTrue (is_plane_write v) → IsTrue (is_plane_write w) → IsTrue (is_plane_write (greater v w))
greater_has v w hv hw = elim (cases_Bool (at_most v w)) [ inl t ↦ rw t hw | inr f ↦ rw f hv ]

pub blank_write : (s : Held PlaneLeaf) (t p : ℕ) → HoldPlaneWrites s → IsBlankAt plane_grid 8 s t p → IsTrue (is_plane_write (write_of t 0))
blank_write s t p holds blank = subst (λ (w : Write). IsTrue (is_plane_write w)) ((blank 0).same 0 0 (omega arith) (omega arith)) (holds 0 p (blank 0).stands 0 0 (omega arith) (omega arith))

-- the writes of a leaf, by its squares
pub leaf_writes_have : (leaf : List Write) (f : Grid) → AreSameWithin 8 (grid_of_leaf leaf) f → ((u v : ℕ) → u < 8 → v < 8 → IsTrue (is_plane_write (f u v))) → ArePlaneWrites leaf
leaf_writes_have leaf f same has i h =
    let hu : i % 8 < 8 = omega arith in
    let hv : i / 8 < 8 = omega (arith, h) in
    let e : 8 * (i / 8) + i % 8 ≡ i = omega arith in
    subst (λ (w : Write). IsTrue (is_plane_write w)) (sym (same (i % 8) (i / 8) hu hv) ∙ ap (write_on_leaf leaf) e) (has (i % 8) (i / 8) hu hv)

pub merged_has : (here there : Held PlaneLeaf) (a b : ℕ) → HoldPlaneWrites here → HoldPlaneWrites there → IsAt here 0 a → IsAt there 0 b → (u v : ℕ) → u < 8 → v < 8 → IsTrue (is_plane_write (join_grid here there 0 a b u v))
merged_has here there a b ha hb at bt u v hu hv = greater_has (grid_at plane_grid 8 here 0 a u v) (grid_at plane_grid 8 there 0 b u v) (ha 0 a at u v hu hv) (hb 0 b bt u v hu hv)

-- ---- four quarters

module _ (there s0 s1 s2 s3 s4 s5 : Held PlaneLeaf) (k a b : ℕ) (pa pb : List ℕ) (w x w' x' w'' x'' w''' x''' p0 p1 p2 p3 p : ℕ) (some : 0 < k) (at : IsAt s0 k a) (qa : AreQuarters s0 k a pa) (qb : AreQuarters there k b pb)
    (g1 : IsGrown plane_grid 8 s0 s1) (g2 : IsGrown plane_grid 8 s1 s2) (g3 : IsGrown plane_grid 8 s2 s3) (g4 : IsGrown plane_grid 8 s3 s4) (g5 : IsGrown plane_grid 8 s4 s5)
    (j0 : IsSquareJoin s1 there (k - 1) (slice_index_or pa 0 w) (slice_index_or pb 0 x) p0) (j1 : IsSquareJoin s2 there (k - 1) (slice_index_or pa 1 w') (slice_index_or pb 1 x') p1)
    (j2 : IsSquareJoin s3 there (k - 1) (slice_index_or pa 2 w'') (slice_index_or pb 2 x'') p2) (j3 : IsSquareJoin s4 there (k - 1) (slice_index_or pa 3 w''') (slice_index_or pb 3 x''') p3) where
  from1 : IsGrown plane_grid 8 s1 s4
  from1 = grown_more plane_grid 8 s1 s2 s4 g2 (grown_more plane_grid 8 s2 s3 s4 g3 g4)

  from0 : IsGrown plane_grid 8 s0 s4
  from0 = grown_more plane_grid 8 s0 s1 s4 g1 from1

  at_zero : (s : Held PlaneLeaf) (i w x p : ℕ) → i < 4 → IsGrown plane_grid 8 s s4 → IsSquareJoin s there (k - 1) (slice_index_or pa i w) (slice_index_or pb i x) p → IsSquareJoin s4 there (k - 1) (slice_index_or pa i 0) (slice_index_or pb i 0) p
  at_zero s i w x p h grown join =
      let la = qa.four in
      let lb = qb.four in
      joined_later there (k - 1) (slice_index_or pa i 0) (slice_index_or pb i 0) s s4 p grown
      (subst (λ q. IsSquareJoin s there (k - 1) (slice_index_or pa i 0) q p) (same_default pb i x 0 (omega (arith, h, lb)))
      (subst (λ q. IsSquareJoin s there (k - 1) q (slice_index_or pb i x) p) (same_default pa i w 0 (omega (arith, h, la))) join))

  k0 : IsSquareJoin s4 there (k - 1) (slice_index_or pa 0 0) (slice_index_or pb 0 0) p0
  k0 = at_zero s1 0 w x p0 (omega arith) from1 j0

  k1 : IsSquareJoin s4 there (k - 1) (slice_index_or pa 1 0) (slice_index_or pb 1 0) p1
  k1 = at_zero s2 1 w' x' p1 (omega arith) (grown_more plane_grid 8 s2 s3 s4 g3 g4) j1

  k2 : IsSquareJoin s4 there (k - 1) (slice_index_or pa 2 0) (slice_index_or pb 2 0) p2
  k2 = at_zero s3 2 w'' x'' p2 (omega arith) g4 j2

  k3 : IsSquareJoin s4 there (k - 1) (slice_index_or pa 3 0) (slice_index_or pb 3 0) p3
  k3 = at_zero s4 3 w''' x''' p3 (omega arith) (record { room = refl; held = λ p h. h; stands = λ k p h. h; same = λ k p h. refl }) j3

  pub joins_stand : AreAt s4 (k - 1) (p0 ∷ p1 ∷ p2 ∷ p3 ∷ [])
  joins_stand zero h = k0.draws.stands
  joins_stand (suc zero) h = k1.draws.stands
  joins_stand (suc (suc zero)) h = k2.draws.stands
  joins_stand (suc (suc (suc zero))) h = k3.draws.stands
  joins_stand (suc (suc (suc (suc i)))) h = absurd (omega (arith, h))

  -- the quarters of a square that was there
  pub quarters_later : AreQuarters s4 k a pa
  quarters_later = record {
    four = qa.four;
    stand = λ i h. from0.stands (k - 1) (slice_index_or pa i 0) (qa.stand i h);
    same = λ u v hu hv. (let wide = twice_below 8 k some in let n = side_at 8 (k - 1) in
        let f = λ (i : ℕ). grid_at plane_grid 8 s0 (k - 1) (slice_index_or pa i 0) in
        let g = λ (i : ℕ). grid_at plane_grid 8 s4 (k - 1) (slice_index_or pa i 0) in
        let still = λ (i : ℕ) (h : i < 4) (u v : ℕ) (hu : u < n) (hv : v < n). ap (λ (f : Grid). f u v) (sym (from0.same (k - 1) (slice_index_or pa i 0) (qa.stand i h))) in
        ap (λ (f : Grid). f u v) (from0.same k a at) ∙ qa.same u v hu hv
        ∙ each_of_three (λ p q _. p ≡ q) n (f 0) (f 1) (f 2) (f 3) (g 0) (g 1) (g 2) (g 3) (g 0) (g 1) (g 2) (g 3) (still 0 (omega arith)) (still 1 (omega arith)) (still 2 (omega arith)) (still 3 (omega arith)) u v (omega (arith, hu, wide)) (omega (arith, hv, wide)));
  }

  pub four_joined : AreSameWithin (side_at 8 k) (four_grid plane_grid 8 s4 (k - 1) (p0 ∷ p1 ∷ p2 ∷ p3 ∷ [])) (join_grid s4 there k a b)
  four_joined u v hu hv =
      let wide = twice_below 8 k some in
      let n = side_at 8 (k - 1) in
      let f = λ (i : ℕ). grid_at plane_grid 8 s4 (k - 1) (slice_index_or pa i 0) in
      let g = λ (i : ℕ). grid_at plane_grid 8 there (k - 1) (slice_index_or pb i 0) in
      let h = λ (p : ℕ). grid_at plane_grid 8 s4 (k - 1) p in
      each_of_three (λ x y z. x ≡ greater y z) n (h p0) (h p1) (h p2) (h p3) (f 0) (f 1) (f 2) (f 3) (g 0) (g 1) (g 2) (g 3) k0.draws.same k1.draws.same k2.draws.same k3.draws.same u v (omega (arith, hu, wide)) (omega (arith, hv, wide))
      ∙ ap (λ z. greater z (four_grid plane_grid 8 there (k - 1) pb u v)) (sym (quarters_later.same u v hu hv))
      ∙ ap (λ z. greater (grid_at plane_grid 8 s4 k a u v) z) (sym (qb.same u v hu hv))

  pub joined_four : Draws plane_grid 8 s5 k (four_grid plane_grid 8 s4 (k - 1) (p0 ∷ p1 ∷ p2 ∷ p3 ∷ [])) p → IsSquareJoin s5 there k a b p
  joined_four drawn = joined_drawn there k a b s4 s5 (four_grid plane_grid 8 s4 (k - 1) (p0 ∷ p1 ∷ p2 ∷ p3 ∷ [])) p g5 (from0.stands k a at) drawn four_joined
