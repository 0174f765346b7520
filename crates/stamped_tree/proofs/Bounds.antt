-- The least and the greatest stamp of a square.
use Rattle.std.proofs.Common.{◌≡◌, ℕ, ◌+◌, ◌*◌, ◌/◌, ◌%◌, ◌<◌, ◌≤◌, ◌⊎◌, inl, inr, sym, ap, ◌∙◌, subst, arith}
use Rattle.std.specs.Prelude.{min, max, Option, None, Some, MatchOption, IfSome, IfNone}
use Rattle.std.proofs.lemmas.Bool.{cases_lt}
use Rattle.stamped_writes.specs.declared.write.Write.{Write}
use Rattle.leaf_merge_lanes.specs.Leaf.{write_on_leaf, AreBlank, IsLeastOfStamps, IsGreatestOfStamps}
use Rattle.square_store.specs.Grid.{Grid, quartered, IsBlankWithin, IsSpeltWithin}
use Rattle.square_store.proofs.Quarters.{quarter_nw, quarter_ne, quarter_sw, quarter_se, each_quarter}
use Rattle.stamped_tree.specs.declared.leaf_kind.PlaneLeaf.{PlaneLeaf}
use Rattle.stamped_tree.specs.declared.leaf_kind.StampBounds.{StampBounds}
use Rattle.stamped_tree.specs.LeafKind.{plane_grid, AreStampBounds}

-- some place has the stamp
abbrev IsStampOf : ℕ → Grid → ℕ → Type 0
IsStampOf n f t = (u : ℕ) × ((v : ℕ) × (u < n) × (v < n) × (t ≡ (f u v).stamp))

module _ (n : ℕ) (a b c d : Grid) where
  of_nw : (t : ℕ) → IsStampOf n a t → IsStampOf (n + n) (quartered n a b c d) t
  of_nw t h = let hu = h.1.1 in let hv = h.1.2 in (h.0, (h.1.0, omega (arith, hu), omega (arith, hv), h.1.3 ∙ sym (ap (λ (w : Write). w.stamp) (quarter_nw n a b c d h.0 h.1.0 h.1.1 h.1.2))))

  of_ne : (t : ℕ) → IsStampOf n b t → IsStampOf (n + n) (quartered n a b c d) t
  of_ne t h = let hu = h.1.1 in let hv = h.1.2 in (n + h.0, (h.1.0, omega (arith, hu), omega (arith, hv), h.1.3 ∙ sym (ap (λ (w : Write). w.stamp) (quarter_ne n a b c d h.0 h.1.0 h.1.2))))

  of_sw : (t : ℕ) → IsStampOf n c t → IsStampOf (n + n) (quartered n a b c d) t
  of_sw t h = let hu = h.1.1 in let hv = h.1.2 in (h.0, (n + h.1.0, omega (arith, hu), omega (arith, hv), h.1.3 ∙ sym (ap (λ (w : Write). w.stamp) (quarter_sw n a b c d h.0 h.1.0 h.1.1))))

  of_se : (t : ℕ) → IsStampOf n d t → IsStampOf (n + n) (quartered n a b c d) t
  of_se t h = let hu = h.1.1 in let hv = h.1.2 in (n + h.0, (n + h.1.0, omega (arith, hu), omega (arith, hv), h.1.3 ∙ sym (ap (λ (w : Write). w.stamp) (quarter_se n a b c d h.0 h.1.0))))

  -- one of four stamps
  one_of : (t w x y z : ℕ) → (t ≡ w) ⊎ (t ≡ x) ⊎ (t ≡ y) ⊎ (t ≡ z) → IsStampOf n a w → IsStampOf n b x → IsStampOf n c y → IsStampOf n d z → IsStampOf (n + n) (quartered n a b c d) t
  one_of t w x y z one ha hb hc hd = elim one [
    | inl e ↦ subst (λ t. IsStampOf (n + n) (quartered n a b c d) t) (sym e) (of_nw w ha)
    | inr one ↦ elim one [
      | inl e ↦ subst (λ t. IsStampOf (n + n) (quartered n a b c d) t) (sym e) (of_ne x hb)
      | inr one ↦ elim one [
        | inl e ↦ subst (λ t. IsStampOf (n + n) (quartered n a b c d) t) (sym e) (of_sw y hc)
        | inr e ↦ subst (λ t. IsStampOf (n + n) (quartered n a b c d) t) (sym e) (of_se z hd)
      ]
    ]
  ]

min_is : (a b : ℕ) → (min a b ≡ a) ⊎ (min a b ≡ b)
min_is a b = elim (cases_lt a b) [
  | inl l ↦ inl (omega (arith, l))
  | inr l ↦ inr (omega (arith, l))
]

max_is : (a b : ℕ) → (max a b ≡ a) ⊎ (max a b ≡ b)
max_is a b = elim (cases_lt a b) [
  | inl l ↦ inr (omega (arith, l))
  | inr l ↦ inl (omega (arith, l))
]

least_is : (w x y z : ℕ) → (min (min (min w x) y) z ≡ w) ⊎ (min (min (min w x) y) z ≡ x) ⊎ (min (min (min w x) y) z ≡ y) ⊎ (min (min (min w x) y) z ≡ z)
least_is w x y z = elim (min_is (min (min w x) y) z) [
  | inr e ↦ inr (inr (inr e))
  | inl e ↦ elim (min_is (min w x) y) [
    | inr f ↦ inr (inr (inl (e ∙ f)))
    | inl f ↦ elim (min_is w x) [
      | inr g ↦ inr (inl (e ∙ f ∙ g))
      | inl g ↦ inl (e ∙ f ∙ g)
    ]
  ]
]

greatest_is : (w x y z : ℕ) → (max (max (max w x) y) z ≡ w) ⊎ (max (max (max w x) y) z ≡ x) ⊎ (max (max (max w x) y) z ≡ y) ⊎ (max (max (max w x) y) z ≡ z)
greatest_is w x y z = elim (max_is (max (max w x) y) z) [
  | inr e ↦ inr (inr (inr e))
  | inl e ↦ elim (max_is (max w x) y) [
    | inr f ↦ inr (inr (inl (e ∙ f)))
    | inl f ↦ elim (max_is w x) [
      | inr g ↦ inr (inl (e ∙ f ∙ g))
      | inl g ↦ inl (e ∙ f ∙ g)
    ]
  ]
]

pub bounds_four : (n : ℕ) (a b c d : Grid) (w x y z : StampBounds) → AreStampBounds n a w → AreStampBounds n b x → AreStampBounds n c y → AreStampBounds n d z
    → AreStampBounds (n + n) (quartered n a b c d) (record { least = min (min (min w.least x.least) y.least) z.least; greatest = max (max (max w.greatest x.greatest) y.greatest) z.greatest })
bounds_four n a b c d w x y z hw hx hy hz =
    let least = min (min (min w.least x.least) y.least) z.least in
    let greatest = max (max (max w.greatest x.greatest) y.greatest) z.greatest in
    record {
      above = each_quarter (λ r. least ≤ r.stamp) n a b c d
          (λ u v hu hv. (let h = hw.above u v hu hv in omega (arith, h)))
          (λ u v hu hv. (let h = hx.above u v hu hv in omega (arith, h)))
          (λ u v hu hv. (let h = hy.above u v hu hv in omega (arith, h)))
          (λ u v hu hv. (let h = hz.above u v hu hv in omega (arith, h)));
      below = each_quarter (λ r. r.stamp ≤ greatest) n a b c d
          (λ u v hu hv. (let h = hw.below u v hu hv in omega (arith, h)))
          (λ u v hu hv. (let h = hx.below u v hu hv in omega (arith, h)))
          (λ u v hu hv. (let h = hy.below u v hu hv in omega (arith, h)))
          (λ u v hu hv. (let h = hz.below u v hu hv in omega (arith, h)));
      least = one_of n a b c d least w.least x.least y.least z.least (least_is w.least x.least y.least z.least) hw.least hx.least hy.least hz.least;
      greatest = one_of n a b c d greatest w.greatest x.greatest y.greatest z.greatest (greatest_is w.greatest x.greatest y.greatest z.greatest) hw.greatest hx.greatest hy.greatest hz.greatest;
    }

-- those of a leaf
at_place : (l : PlaneLeaf) (i : ℕ) → i < 64 → (i % 8 < 8) × (i / 8 < 8) × (plane_grid l (i % 8) (i / 8) ≡ write_on_leaf l.leaf i)
at_place l i h = let e : 8 * (i / 8) + i % 8 ≡ i = omega arith in (omega arith, omega (arith, h), ap (write_on_leaf l.leaf) e)

pub bounds_leaf : (l : PlaneLeaf) (b : StampBounds) → IsLeastOfStamps l.leaf b.least → IsGreatestOfStamps l.leaf b.greatest → AreStampBounds 8 (plane_grid l) b
bounds_leaf l b hl hg =
    let p = at_place l hl.reached.0 hl.reached.1 in
    let q = at_place l hg.reached.0 hg.reached.1 in
    record {
      above = λ u v hu hv. hl.below (8 * v + u) (omega (arith, hu, hv));
      below = λ u v hu hv. hg.above (8 * v + u) (omega (arith, hu, hv));
      least = (hl.reached.0 % 8, (hl.reached.0 / 8, p.0, p.1, hl.reached.2 ∙ sym (ap (λ (w : Write). w.stamp) p.2)));
      greatest = (hg.reached.0 % 8, (hg.reached.0 / 8, q.0, q.1, hg.reached.2 ∙ sym (ap (λ (w : Write). w.stamp) q.2)));
    }

pub blank_leaf : (l : PlaneLeaf) (r : Option ℕ) → IfSome r (AreBlank l.leaf) → IfNone r ((t : ℕ) → ¬ AreBlank l.leaf t) → MatchOption r (IsSpeltWithin 8 (plane_grid l)) (IsBlankWithin 8 (plane_grid l))
blank_leaf l None some none = λ t blank. none t (λ i h. (let p = at_place l i h in sym p.2 ∙ blank (i % 8) (i / 8) p.0 p.1))
blank_leaf l (Some t) some none = λ u v hu hv. some (8 * v + u) (omega (arith, hu, hv))
