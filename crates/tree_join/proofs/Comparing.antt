-- Two squares compared: quarter by quarter, by their stamps, pa blanks and pa leaves.
use Rattle.std.proofs.Common.{◌≡◌, ℕ, zero, suc, ◌+◌, ◌-◌, ◌*◌, ◌/◌, ◌%◌, ◌<◌, ◌↔◌, Bool, true, false, not, eqb-true, List, [], ◌∷◌, inl, inr, refl, sym, ap, subst, ◌∙◌, arith}
use Rattle.std.specs.Prelude.{IsTrue, slice_index_or, Option, None, Some, MatchOption, is_some, ◌==◌, ◌&&◌}
use Rattle.std.proofs.lemmas.Bool.{cases_lt, and_parts}
use Rattle.stamped_writes.specs.declared.write.Write.{Write}
use Rattle.stamped_writes.specs.Write.{at_most}
use Rattle.leaf_merge_lanes.specs.Leaf.{IsLeaf, AreAtMost, write_on_leaf, write_of}
use Rattle.leaf_merge_lanes.specs.Same.{is_same, same_Decides}
use Rattle.square_store.specs.Grid.{Grid, quartered, AreSameWithin, IsBlankWithin, IsSpeltWithin}
use Rattle.square_store.specs.Squares.{Held, side_at, IsAt, grid_at, four_grid}
use Rattle.square_store.specs.Seen.{IsBlankAt, IsLeafAt, IsFourAt, AreAt}
use Rattle.square_store.proofs.Drawn.{twice_below}
use Rattle.square_store.proofs.Quarters.{lt_true, lt_false, quarter_nw, quarter_ne, quarter_sw, quarter_se, each_quarter}
use Rattle.stamped_tree.specs.declared.leaf_kind.PlaneLeaf.{PlaneLeaf}
use Rattle.stamped_tree.specs.declared.leaf_kind.StampBounds.{StampBounds}
use Rattle.stamped_tree.specs.LeafKind.{plane_grid, plane_exact, AreStampBounds}
use Rattle.stamped_tree.specs.Plane.{grid_of_leaf}
use Rattle.stamped_tree.proofs.Parts.{same_default}
use Rattle.tree_join.specs.Squares.{AreAtMostWithin, AreQuarters, AreSameSquares}

-- ---- quarters

-- what holds of three squares at each place, quarter by quarter, holds of the wholes
pub each_of_three : (R : Write → Write → Write → Type 0) (n : ℕ) (a b c d a' b' c' d' a'' b'' c'' d'' : Grid)
    → ((u v : ℕ) → u < n → v < n → R (a u v) (a' u v) (a'' u v)) → ((u v : ℕ) → u < n → v < n → R (b u v) (b' u v) (b'' u v))
    → ((u v : ℕ) → u < n → v < n → R (c u v) (c' u v) (c'' u v)) → ((u v : ℕ) → u < n → v < n → R (d u v) (d' u v) (d'' u v))
    → (u v : ℕ) → u < n + n → v < n + n → R (quartered n a b c d u v) (quartered n a' b' c' d' u v) (quartered n a'' b'' c'' d'' u v)
each_of_three R n a b c d a' b' c' d' a'' b'' c'' d'' ra rb rc rd u v hu hv = elim (cases_lt v n) [
  | inl top ↦ elim (cases_lt u n) [
    | inl left ↦ rw (lt_true v n top, lt_true u n left) (ra u v left top)
    | inr right ↦ rw (lt_true v n top, lt_false u n right) (rb (u - n) v (omega (arith, hu)) top)
  ]
  | inr bottom ↦ elim (cases_lt u n) [
    | inl left ↦ rw (lt_false v n bottom, lt_true u n left) (rc u (v - n) left (omega (arith, hv)))
    | inr right ↦ rw (lt_false v n bottom, lt_false u n right) (rd (u - n) (v - n) (omega (arith, hu)) (omega (arith, hv)))
  ]
]

-- a relation of writes holds in the first n columns and rows
abbrev pub AreRelated : (Write → Write → Type 0) → ℕ → Grid → Grid → Type 0
AreRelated R n f g = (u v : ℕ) → u < n → v < n → R (f u v) (g u v)

module _ (R : Write → Write → Type 0) (n : ℕ) (a b c d a' b' c' d' : Grid) where
  both : (x y z w : Write) → x ≡ y → z ≡ w → R x z → R y w
  both x y z w e f h = subst (λ i. R y i) f (subst (λ i. R i z) e h)

  module _ (h : AreRelated R (n + n) (quartered n a b c d) (quartered n a' b' c' d')) where
    pub related_nw : AreRelated R n a a'
    related_nw u v p q = both _ _ _ _ (quarter_nw n a b c d u v p q) (quarter_nw n a' b' c' d' u v p q) (h u v (omega (arith, p)) (omega (arith, q)))

    pub related_ne : AreRelated R n b b'
    related_ne u v p q = both _ _ _ _ (quarter_ne n a b c d u v q) (quarter_ne n a' b' c' d' u v q) (h (n + u) v (omega (arith, p)) (omega (arith, q)))

    pub related_sw : AreRelated R n c c'
    related_sw u v p q = both _ _ _ _ (quarter_sw n a b c d u v p) (quarter_sw n a' b' c' d' u v p) (h u (n + v) (omega (arith, p)) (omega (arith, q)))

    pub related_se : AreRelated R n d d'
    related_se u v p q = both _ _ _ _ (quarter_se n a b c d u v) (quarter_se n a' b' c' d' u v) (h (n + u) (n + v) (omega (arith, p)) (omega (arith, q)))

-- the quarters of two squares, related pair by pair
module _ (R : Write → Write → Type 0) (s t : Held PlaneLeaf) (k a b : ℕ) (some : 0 < k) (pa pb : List ℕ) (qa : AreQuarters s k a pa) (qb : AreQuarters t k b pb) where
  -- whatever stands for a part that is not there
  at_default : (i w x w' x' : ℕ) → i < 4 → AreRelated R (side_at 8 (k - 1)) (grid_at plane_grid 8 s (k - 1) (slice_index_or pa i w)) (grid_at plane_grid 8 t (k - 1) (slice_index_or pb i x))
      → AreRelated R (side_at 8 (k - 1)) (grid_at plane_grid 8 s (k - 1) (slice_index_or pa i w')) (grid_at plane_grid 8 t (k - 1) (slice_index_or pb i x'))
  at_default i w x w' x' h r =
      let la = qa.four in
      let lb = qb.four in
      subst (λ q. AreRelated R (side_at 8 (k - 1)) (grid_at plane_grid 8 s (k - 1) (slice_index_or pa i w')) (grid_at plane_grid 8 t (k - 1) q)) (same_default pb i x x' (omega (arith, h, lb)))
      (subst (λ q. AreRelated R (side_at 8 (k - 1)) (grid_at plane_grid 8 s (k - 1) q) (grid_at plane_grid 8 t (k - 1) (slice_index_or pb i x))) (same_default pa i w w' (omega (arith, h, la))) r)

  pub related_whole : (w x w' x' w'' x'' w''' x''' : ℕ)
      → AreRelated R (side_at 8 (k - 1)) (grid_at plane_grid 8 s (k - 1) (slice_index_or pa 0 w)) (grid_at plane_grid 8 t (k - 1) (slice_index_or pb 0 x))
      → AreRelated R (side_at 8 (k - 1)) (grid_at plane_grid 8 s (k - 1) (slice_index_or pa 1 w')) (grid_at plane_grid 8 t (k - 1) (slice_index_or pb 1 x'))
      → AreRelated R (side_at 8 (k - 1)) (grid_at plane_grid 8 s (k - 1) (slice_index_or pa 2 w'')) (grid_at plane_grid 8 t (k - 1) (slice_index_or pb 2 x''))
      → AreRelated R (side_at 8 (k - 1)) (grid_at plane_grid 8 s (k - 1) (slice_index_or pa 3 w''')) (grid_at plane_grid 8 t (k - 1) (slice_index_or pb 3 x'''))
      → AreRelated R (side_at 8 k) (grid_at plane_grid 8 s k a) (grid_at plane_grid 8 t k b)
  related_whole w x w' x' w'' x'' w''' x''' r0 r1 r2 r3 u v hu hv =
      let wide = twice_below 8 k some in
      let n = side_at 8 (k - 1) in
      let f = λ (i : ℕ). grid_at plane_grid 8 s (k - 1) (slice_index_or pa i 0) in
      let g = λ (i : ℕ). grid_at plane_grid 8 t (k - 1) (slice_index_or pb i 0) in
      let r = each_of_three (λ p q _. R p q) n (f 0) (f 1) (f 2) (f 3) (g 0) (g 1) (g 2) (g 3) (g 0) (g 1) (g 2) (g 3)
      (at_default 0 w x 0 0 (omega arith) r0) (at_default 1 w' x' 0 0 (omega arith) r1) (at_default 2 w'' x'' 0 0 (omega arith) r2) (at_default 3 w''' x''' 0 0 (omega arith) r3)
      u v (omega (arith, hu, wide)) (omega (arith, hv, wide)) in
      subst (λ q. R (grid_at plane_grid 8 s k a u v) q) (sym (qb.same u v hu hv)) (subst (λ p. R p (four_grid plane_grid 8 t (k - 1) pb u v)) (sym (qa.same u v hu hv)) r)

  module _ (r : AreRelated R (side_at 8 k) (grid_at plane_grid 8 s k a) (grid_at plane_grid 8 t k b)) where
    cut : AreRelated R (side_at 8 (k - 1) + side_at 8 (k - 1)) (four_grid plane_grid 8 s (k - 1) pa) (four_grid plane_grid 8 t (k - 1) pb)
    cut u v hu hv =
        let wide = twice_below 8 k some in
        let iu : u < side_at 8 k = omega (arith, hu, wide) in
        let iv : v < side_at 8 k = omega (arith, hv, wide) in
        subst (λ q. R (four_grid plane_grid 8 s (k - 1) pa u v) q) (qb.same u v iu iv) (subst (λ p. R p (grid_at plane_grid 8 t k b u v)) (qa.same u v iu iv) (r u v iu iv))

    pub related_0 : (w x : ℕ) → AreRelated R (side_at 8 (k - 1)) (grid_at plane_grid 8 s (k - 1) (slice_index_or pa 0 w)) (grid_at plane_grid 8 t (k - 1) (slice_index_or pb 0 x))
    related_0 w x =
        let half = side_at 8 (k - 1) in
        let f = λ (i : ℕ). grid_at plane_grid 8 s (k - 1) (slice_index_or pa i 0) in
        let g = λ (i : ℕ). grid_at plane_grid 8 t (k - 1) (slice_index_or pb i 0) in
        at_default 0 0 0 w x (omega arith) (related_nw R half (f 0) (f 1) (f 2) (f 3) (g 0) (g 1) (g 2) (g 3) cut)

    pub related_1 : (w x : ℕ) → AreRelated R (side_at 8 (k - 1)) (grid_at plane_grid 8 s (k - 1) (slice_index_or pa 1 w)) (grid_at plane_grid 8 t (k - 1) (slice_index_or pb 1 x))
    related_1 w x =
        let half = side_at 8 (k - 1) in
        let f = λ (i : ℕ). grid_at plane_grid 8 s (k - 1) (slice_index_or pa i 0) in
        let g = λ (i : ℕ). grid_at plane_grid 8 t (k - 1) (slice_index_or pb i 0) in
        at_default 1 0 0 w x (omega arith) (related_ne R half (f 0) (f 1) (f 2) (f 3) (g 0) (g 1) (g 2) (g 3) cut)

    pub related_2 : (w x : ℕ) → AreRelated R (side_at 8 (k - 1)) (grid_at plane_grid 8 s (k - 1) (slice_index_or pa 2 w)) (grid_at plane_grid 8 t (k - 1) (slice_index_or pb 2 x))
    related_2 w x =
        let half = side_at 8 (k - 1) in
        let f = λ (i : ℕ). grid_at plane_grid 8 s (k - 1) (slice_index_or pa i 0) in
        let g = λ (i : ℕ). grid_at plane_grid 8 t (k - 1) (slice_index_or pb i 0) in
        at_default 2 0 0 w x (omega arith) (related_sw R half (f 0) (f 1) (f 2) (f 3) (g 0) (g 1) (g 2) (g 3) cut)

    pub related_3 : (w x : ℕ) → AreRelated R (side_at 8 (k - 1)) (grid_at plane_grid 8 s (k - 1) (slice_index_or pa 3 w)) (grid_at plane_grid 8 t (k - 1) (slice_index_or pb 3 x))
    related_3 w x =
        let half = side_at 8 (k - 1) in
        let f = λ (i : ℕ). grid_at plane_grid 8 s (k - 1) (slice_index_or pa i 0) in
        let g = λ (i : ℕ). grid_at plane_grid 8 t (k - 1) (slice_index_or pb i 0) in
        at_default 3 0 0 w x (omega arith) (related_se R half (f 0) (f 1) (f 2) (f 3) (g 0) (g 1) (g 2) (g 3) cut)

-- a part among the quarters stands, whatever stands for one that is not there
pub quarter_stands : (s : Held PlaneLeaf) (k p : ℕ) (parts : List ℕ) → AreQuarters s k p parts → (i w : ℕ) → i < 4 → IsAt s (k - 1) (slice_index_or parts i w)
quarter_stands s k p parts q i w h = let l = q.four in subst (λ r. IsAt s (k - 1) r) (same_default parts i 0 w (omega (arith, h, l))) (q.stand i h)

pub quarters_of_blank : (s : Held PlaneLeaf) (k t p : ℕ) → 0 < k → IsBlankAt plane_grid 8 s t p → AreQuarters s k p (p ∷ p ∷ p ∷ p ∷ [])
quarters_of_blank s k t p some blank = record {
  four = refl;
  stand = stand;
  same = λ u v hu hv. (let wide = twice_below 8 k some in
      let each = λ (u v : ℕ) (hu : u < side_at 8 (k - 1)) (hv : v < side_at 8 (k - 1)). (blank (k - 1)).same u v hu hv in
      (blank k).same u v hu hv ∙ sym (each_quarter (λ w. w ≡ write_of t 0) (side_at 8 (k - 1)) (grid_at plane_grid 8 s (k - 1) p) (grid_at plane_grid 8 s (k - 1) p) (grid_at plane_grid 8 s (k - 1) p) (grid_at plane_grid 8 s (k - 1) p) each each each each u v (omega (arith, hu, wide)) (omega (arith, hv, wide))));
}
  where
    stand : AreAt s (k - 1) (p ∷ p ∷ p ∷ p ∷ [])
    stand zero h = (blank (k - 1)).stands
    stand (suc zero) h = (blank (k - 1)).stands
    stand (suc (suc zero)) h = (blank (k - 1)).stands
    stand (suc (suc (suc zero))) h = (blank (k - 1)).stands
    stand (suc (suc (suc (suc i)))) h = absurd (omega (arith, h))

-- ---- blanks and leaves

pub leaf_spelt : (s : Held PlaneLeaf) (l : PlaneLeaf) (p : ℕ) → IsLeafAt plane_grid 8 s l p → (k : ℕ) → IsAt s k p → IsSpeltWithin (side_at 8 k) (grid_at plane_grid 8 s k p)
leaf_spelt s l p leaf k at t blank =
    let small = subst (λ j. IsBlankWithin (side_at 8 j) (grid_at plane_grid 8 s j p) t) (leaf.level k at) blank in
    leaf.spelt t (λ u v hu hv. sym (leaf.draws.same u v hu hv) ∙ small u v hu hv)

pub four_spelt : (s : Held PlaneLeaf) (j p : ℕ) (parts : List ℕ) → IsFourAt plane_grid 8 s j parts p → (k : ℕ) → IsAt s k p → IsSpeltWithin (side_at 8 k) (grid_at plane_grid 8 s k p)
four_spelt s j p parts four k at = subst (λ i. IsSpeltWithin (side_at 8 i) (grid_at plane_grid 8 s i p)) (sym (four.level k at)) four.spelt

-- the writes of two leaves are related exactly where their squares' are
at_index : (l : List Write) (i : ℕ) → grid_of_leaf l (i % 8) (i / 8) ≡ write_on_leaf l i
at_index l i = let e : 8 * (i / 8) + i % 8 ≡ i = omega arith in ap (write_on_leaf l) e

module _ (x y : List Write) (f g : Grid) (ex : AreSameWithin 8 (grid_of_leaf x) f) (ey : AreSameWithin 8 (grid_of_leaf y) g) where
  pub same_leaves : IsLeaf x → IsLeaf y → IsTrue (is_same x y) ↔ AreSameWithin 8 f g
  same_leaves lx ly = (
    λ h u v hu hv. sym (ex u v hu hv) ∙ ap (λ l. grid_of_leaf l u v) ((same_Decides x y).0 h) ∙ ey u v hu hv,
    λ h. (same_Decides x y).1 (ap (λ (l : PlaneLeaf). l.leaf) (plane_exact (record { leaf = x }) (record { leaf = y }) lx ly (λ u v hu hv. ex u v hu hv ∙ h u v hu hv ∙ sym (ey u v hu hv)))),
  )

  pub leaves_at_most : (AreAtMost x y) ↔ AreAtMostWithin 8 f g
  leaves_at_most = (
    λ h u v hu hv. subst (λ w. IsTrue (at_most (f u v) w)) (ey u v hu hv) (subst (λ w. IsTrue (at_most w (grid_of_leaf y u v))) (ex u v hu hv) (h (8 * v + u) (omega (arith, hu, hv)))),
    λ h i hi. (let hu : i % 8 < 8 = omega arith in let hv : i / 8 < 8 = omega (arith, hi) in
        subst (λ w. IsTrue (at_most (write_on_leaf x i) w)) (sym (ey (i % 8) (i / 8) hu hv) ∙ at_index y i) (subst (λ w. IsTrue (at_most w (g (i % 8) (i / 8)))) (sym (ex (i % 8) (i / 8) hu hv) ∙ at_index x i) (h (i % 8) (i / 8) hu hv))),
  )

-- a leaf with the writes of a square
pub leaf_is : (x y : List Write) (f : Grid) → AreSameWithin 8 (grid_of_leaf x) f → IsTrue (is_same x y) → AreSameWithin 8 f (grid_of_leaf y)
leaf_is x y f same h u v hu hv = sym (same u v hu hv) ∙ ap (λ l. grid_of_leaf l u v) ((same_Decides x y).0 h)

-- ---- what one look tells

module _ (n : ℕ) (f g : Grid) (b : StampBounds) (bf : AreStampBounds n f b) (bg : AreStampBounds n g b) where
  -- two blanks with the same bounds
  same_blanks : (x y : ℕ) → IsBlankWithin n f x → IsBlankWithin n g y → AreSameWithin n f g
  same_blanks x y fx gy u v hu hv =
      let l = bf.least in
      let m = bg.least in
      let ex : b.least ≡ x = l.1.3 ∙ ap (λ (w : Write). w.stamp) (fx l.0 l.1.0 l.1.1 l.1.2) in
      let ey : b.least ≡ y = m.1.3 ∙ ap (λ (w : Write). w.stamp) (gy m.0 m.1.0 m.1.1 m.1.2) in
      fx u v hu hv ∙ ap (λ t. write_of t 0) (sym ex ∙ ey) ∙ sym (gy u v hu hv)

module _ (s t : Held PlaneLeaf) (k a c : ℕ) (at : IsAt s k a) (ct : IsAt t k c) where
  pub looks_blank : (b : StampBounds) → AreStampBounds (side_at 8 k) (grid_at plane_grid 8 s k a) b → AreStampBounds (side_at 8 k) (grid_at plane_grid 8 t k c) b → (x : ℕ) → IsBlankAt plane_grid 8 s x a
      → (o : Option ℕ) → MatchOption o ((j : ℕ) → IsAt t j c → IsSpeltWithin (side_at 8 j) (grid_at plane_grid 8 t j c)) (λ y. IsBlankAt plane_grid 8 t y c)
      → IsTrue (is_some o) ↔ AreSameSquares s t k a c
  looks_blank b ba bc x blank None spelt = (λ h. absurd (cc), λ same. absurd (spelt k ct x (λ u v hu hv. sym (same u v hu hv) ∙ (blank k).same u v hu hv)))
  looks_blank b ba bc x blank (Some y) other = (λ h. same_blanks (side_at 8 k) _ _ b ba bc x y (blank k).same (other k).same, λ same. refl)

  pub looks_spelt : ((j : ℕ) → IsAt s j a → IsSpeltWithin (side_at 8 j) (grid_at plane_grid 8 s j a)) → (y : ℕ) → IsBlankAt plane_grid 8 t y c → IsTrue false ↔ AreSameSquares s t k a c
  looks_spelt spelt y blank = (λ h. absurd (cc), λ same. absurd (spelt k at y (λ u v hu hv. same u v hu hv ∙ (blank k).same u v hu hv)))

is_true : (x : Bool) → false ≡ not x → x ≡ true
is_true true h = refl
is_true false h = absurd (cc)

pub bounds_same : (b c : StampBounds) → false ≡ not ((b.least == c.least) && (b.greatest == c.greatest)) → b ≡ c
bounds_same b c h =
    let both = and_parts _ _ (is_true _ h) in
    let p : b.least ≡ c.least = eqb-true b.least c.least both.0 in
    let q : b.greatest ≡ c.greatest = eqb-true b.greatest c.greatest both.1 in
    λ i. record { least = p i; greatest = q i }

-- one quarter tells that the whole is not
pub refuted : (P Q : Type 0) (r : Bool) → r ≡ false → (IsTrue r ↔ P) → (Q → P) → IsTrue false ↔ Q
refuted P Q r e told down = (λ z. absurd (cc), λ q. sym e ∙ told.1 (down q))
