-- Copies of squares: a store of the same room is never full of them.
use Rattle.std.proofs.Common.{◌≡◌, ℕ, zero, suc, ◌+◌, ◌-◌, ◌<◌, ◌≤◌, Bool, true, false, List, [], ◌∷◌, length, inl, inr, refl, sym, ap, subst, ◌∙◌, arith}
use Rattle.std.specs.Prelude.{slice_index_or, Option, None, Some, is_some, cond, ◌||◌, if◌then◌else◌, eqb}
use Rattle.std.specs.List.{AllByRecursion, list_any}
use Rattle.std.specs.Map.{keys_of}
use Rattle.std.proofs.lemmas.Bool.{cases_lt}
use Rattle.std.proofs.lemmas.Map.Entries.{length-keys_of}
use Rattle.std.proofs.lemmas.Map.Keys.{IsDistinct-cons}
use Rattle.std.proofs.lemmas.Map.Made.{is_some-lookup}
use Rattle.std.proofs.lemmas.Map.Steps.{length-le_from_distinct_below}
use Rattle.square_store.specs.Grid.{Grid, quartered, AreSameWithin}
use Rattle.square_store.specs.Squares.{Held, side_at, IsAt, grid_at, four_grid, Draws}
use Rattle.square_store.specs.Store.{IsStore, IsGrown, IsAdded, Stood, Added, IsAbsent, IsFullFor}
use Rattle.square_store.specs.Seen.{IsBlankAt, IsLeafAt, IsFourAt}
use Rattle.square_store.proofs.Nodes.{nat_same}
use Rattle.square_store.proofs.Places.{at_within}
use Rattle.square_store.proofs.Quarters.{twice, quarter_nw, quarter_ne, quarter_sw, quarter_se}
use Rattle.stamped_tree.specs.declared.leaf_kind.PlaneLeaf.{PlaneLeaf}
use Rattle.stamped_tree.specs.LeafKind.{plane_grid, IsPlaneLeaf}
use Rattle.stamped_tree.proofs.Parts.{same_default}
use Rattle.stamped_tree.specs.Copy.{Copies, copy_of, IsCopy, AreCopies, AreAllCopies, IsNoted}

-- a key that is not looked up is none of the keys
missing : (a : ℕ) (keys : List ℕ) → list_any (eqb a) keys ≡ false → AllByRecursion (λ y. eqb a y ≡ false) keys
missing a [] h = tt
missing a (k ∷ keys) h = (left (eqb a k) (list_any (eqb a) keys) h, missing a keys (right (eqb a k) (list_any (eqb a) keys) h))
  where
    left : (x y : Bool) → (x || y) ≡ false → x ≡ false
    left true y h = h
    left false y h = refl

    right : (x y : Bool) → (x || y) ≡ false → y ≡ false
    right true y h = absurd (cc)
    right false y h = h

pub copy_later : (source old new : Held PlaneLeaf) (a b : ℕ) → IsGrown plane_grid 8 old new → IsCopy source old a b → IsCopy source new a b
copy_later source old new a b grown copy = record {
  held = copy.held;
  draws = λ k at. (let drawn = copy.draws k at in record {
    stands = grown.stands k b drawn.stands;
    same = λ u v hu hv. ap (λ (f : Grid). f u v) (grown.same k b drawn.stands) ∙ drawn.same u v hu hv;
  });
}

module _ (source target : Held PlaneLeaf) (copies : Copies) (are : AreCopies source target copies) where
  key_below : (q : ℕ) → list_any (eqb q) (keys_of copies) ≡ true → q < length source.squares
  key_below q h = go (copy_of copies q) refl
    where
      never : false ≡ true → ⊥
      never z = cc

      go : (x : Option ℕ) → copy_of copies q ≡ x → q < length source.squares
      go None e = absurd (never (sym (ap is_some e) ∙ is_some-lookup (eqb q) copies ∙ h))
      go (Some b) e = (are.each q b e).held

  -- there are as many copies at most as the one store holds squares, and so in the other
  pub no_more : length target.squares ≤ length source.squares
  no_more =
      let most = length-le_from_distinct_below (keys_of copies) (length source.squares) are.once key_below in
      let few = are.few in omega (arith, few, most, length-keys_of copies)

module _ (source target : Held PlaneLeaf) (copies : Copies) (is : IsStore plane_grid 8 IsPlaneLeaf source) (are : AreCopies source target copies) (k a : ℕ) (f : Grid) (at : IsAt source k a) (same : AreSameWithin (side_at 8 k) f (grid_at plane_grid 8 source k a)) where
  not_copied : IsAbsent plane_grid 8 target k f → copy_of copies a ≡ None
  not_copied absent = go (copy_of copies a) refl
    where
      go : (x : Option ℕ) → copy_of copies a ≡ x → copy_of copies a ≡ None
      go None e = e
      go (Some b) e = let drawn = (are.each a b e).draws k at in absurd (absent b (record { stands = drawn.stands; same = λ u v hu hv. drawn.same u v hu hv ∙ sym (same u v hu hv) }))

  -- with one that was not copied there are at most as many as the one store holds
  one_more : copy_of copies a ≡ None → suc (length copies) ≤ length source.squares
  one_more none =
      let absent : list_any (eqb a) (keys_of copies) ≡ false = sym (is_some-lookup (eqb a) copies) ∙ ap is_some none in
      let distinct = IsDistinct-cons eqb a (keys_of copies) (missing a (keys_of copies) absent) are.once in
      let most : suc (length (keys_of copies)) ≤ length source.squares = length-le_from_distinct_below (a ∷ keys_of copies) (length source.squares) distinct (λ q h. below q (eqb q a) refl h) in
      omega (arith, most, length-keys_of copies)
    where
      below : (q : ℕ) (x : Bool) → eqb q a ≡ x → (eqb q a || list_any (eqb q) (keys_of copies)) ≡ true → q < length source.squares
      below q true e h = subst (λ p. p < length source.squares) (sym (nat_same q a e)) (at_within source k a at)
      below q false e h = key_below source target copies are q (rw e at h)

  pub never_full : IsFullFor plane_grid 8 target k f → ⊥
  never_full full =
      let more = one_more (not_copied full.absent) in
      let few = are.few in let room = are.room in let all = full.full in let most = is.few_squares in
      omega (arith, more, few, room, all, most)

  module _ (new : Held PlaneLeaf) (noted : Copies) (b : ℕ) (grown : IsGrown plane_grid 8 target new) (copy : IsCopy source new a b) (note : IsNoted copies noted a b) where
    no_fewer : length copies ≤ length noted
    no_fewer = let e = note.count in omega (arith, e)

    still_few : IsAdded plane_grid 8 target new k f b → length new.squares ≤ length noted
    still_few (Stood e) = let few = are.few in let same = ap (λ s. length s.squares) e in omega (arith, few, same, no_fewer)
    still_few (Added absent place more) =
        let count : length noted ≡ length copies + 1 = note.count ∙ ap (λ (x : Option ℕ). length copies + (if is_some x then 0 else 1)) (not_copied absent) in
        let few = are.few in omega (arith, few, more, count)

    each_copy : (q c : ℕ) → copy_of noted q ≡ Some c → IsCopy source new q c
    each_copy q c e = go (eqb a q) refl
      where
        same_copy : {c : ℕ} → Some b ≡ Some c → b ≡ c
        same_copy z = cc

        go : (x : Bool) → eqb a q ≡ x → IsCopy source new q c
        go true t =
            let found : Some b ≡ Some c = sym (ap (λ x. cond x (Some b) (copy_of copies q)) t) ∙ sym (note.found q) ∙ e in
            subst (λ z. IsCopy source new z c) (nat_same a q t) (subst (λ z. IsCopy source new a z) (same_copy found) copy)
        go false t =
            let found : copy_of copies q ≡ Some c = sym (ap (λ x. cond x (Some b) (copy_of copies q)) t) ∙ sym (note.found q) ∙ e in
            copy_later source target new q c grown (are.each q c found)

    pub copies_noted : IsAdded plane_grid 8 target new k f b → AreCopies source new noted
    copies_noted added = record {
      room = grown.room ∙ are.room;
      few = still_few added;
      once = note.once;
      each = each_copy;
    }

-- ---- the three kinds of square

pub blank_copied : (source new : Held PlaneLeaf) (t a b : ℕ) → IsBlankAt plane_grid 8 source t a → IsBlankAt plane_grid 8 new t b → IsCopy source new a b
blank_copied source new t a b blank drawn = record {
  held = at_within source 0 a (blank 0).stands;
  draws = λ k at. record { stands = (drawn k).stands; same = λ u v hu hv. (drawn k).same u v hu hv ∙ sym ((blank k).same u v hu hv) };
}

pub leaf_copied : (source new : Held PlaneLeaf) (l : PlaneLeaf) (a b : ℕ) → IsLeafAt plane_grid 8 source l a → Draws plane_grid 8 new 0 (plane_grid l) b → IsCopy source new a b
leaf_copied source new l a b leaf drawn = record {
  held = at_within source 0 a leaf.draws.stands;
  draws = λ k at. subst (λ j. Draws plane_grid 8 new j (grid_at plane_grid 8 source j a) b) (sym (leaf.level k at)) (record {
    stands = drawn.stands;
    same = λ u v hu hv. drawn.same u v hu hv ∙ sym (leaf.draws.same u v hu hv);
  });
}

-- four squares with the same writes as four others make one with the same
quartered_same : (n : ℕ) (a b c d a' b' c' d' : Grid) → AreSameWithin n a a' → AreSameWithin n b b' → AreSameWithin n c c' → AreSameWithin n d d' → AreSameWithin (n + n) (quartered n a b c d) (quartered n a' b' c' d')
quartered_same n a b c d a' b' c' d' ha hb hc hd u v hu hv = elim (cases_lt v n) [
  | inl top ↦ elim (cases_lt u n) [
    | inl left ↦ quarter_nw n a b c d u v left top ∙ ha u v left top ∙ sym (quarter_nw n a' b' c' d' u v left top)
    | inr right ↦ (let e : n + (u - n) ≡ u = omega (arith, right) in
        subst (λ x. quartered n a b c d x v ≡ quartered n a' b' c' d' x v) e
        (quarter_ne n a b c d (u - n) v top ∙ hb (u - n) v (omega (arith, hu)) top ∙ sym (quarter_ne n a' b' c' d' (u - n) v top)))
  ]
  | inr bottom ↦ (let f : n + (v - n) ≡ v = omega (arith, bottom) in elim (cases_lt u n) [
    | inl left ↦ subst (λ y. quartered n a b c d u y ≡ quartered n a' b' c' d' u y) f
        (quarter_sw n a b c d u (v - n) left ∙ hc u (v - n) left (omega (arith, hv)) ∙ sym (quarter_sw n a' b' c' d' u (v - n) left))
    | inr right ↦ (let e : n + (u - n) ≡ u = omega (arith, right) in
        subst (λ x. quartered n a b c d x v ≡ quartered n a' b' c' d' x v) e (subst (λ y. quartered n a b c d (n + (u - n)) y ≡ quartered n a' b' c' d' (n + (u - n)) y) f
        (quarter_se n a b c d (u - n) (v - n) ∙ hd (u - n) (v - n) (omega (arith, hu)) (omega (arith, hv)) ∙ sym (quarter_se n a' b' c' d' (u - n) (v - n)))))
  ])
]

module _ (source target : Held PlaneLeaf) (k a : ℕ) (parts copied : List ℕ) (four : IsFourAt plane_grid 8 source k parts a) (all : AreAllCopies source target parts copied) where
  part_same : (i : ℕ) → i < 4 → AreSameWithin (side_at 8 (k - 1)) (grid_at plane_grid 8 target (k - 1) (slice_index_or copied i 0)) (grid_at plane_grid 8 source (k - 1) (slice_index_or parts i 0))
  part_same i h = ((all i h).draws (k - 1) (four.parts_stand i h)).same

  -- the four copies make a square with the writes of the one copied
  pub four_same : AreSameWithin (side_at 8 k) (four_grid plane_grid 8 target (k - 1) copied) (grid_at plane_grid 8 source k a)
  four_same u v hu hv =
      let wide : side_at 8 k ≡ side_at 8 (k - 1) + side_at 8 (k - 1) = (let e : suc (k - 1) ≡ k = (let h = four.positive in omega (arith, h)) in ap (side_at 8) (sym e) ∙ twice 8 (k - 1)) in
      quartered_same (side_at 8 (k - 1)) _ _ _ _ _ _ _ _ (part_same 0 (omega arith)) (part_same 1 (omega arith)) (part_same 2 (omega arith)) (part_same 3 (omega arith)) u v (omega (arith, hu, wide)) (omega (arith, hv, wide))
      ∙ sym (four.draws.same u v hu hv)

  pub four_copied : (new : Held PlaneLeaf) (b : ℕ) → Draws plane_grid 8 new k (four_grid plane_grid 8 target (k - 1) copied) b → IsCopy source new a b
  four_copied new b drawn = record {
    held = at_within source k a four.draws.stands;
    draws = λ j at. subst (λ i. Draws plane_grid 8 new i (grid_at plane_grid 8 source i a) b) (sym (four.level j at)) (record {
      stands = drawn.stands;
      same = λ u v hu hv. drawn.same u v hu hv ∙ four_same u v hu hv;
    });
  }

-- four copies, made one after another
module _ (source s1 s2 s3 s4 : Held PlaneLeaf) (parts : List ℕ) (long : length parts ≡ 4) (a b c d w x y z : ℕ)
    (grown_b : IsGrown plane_grid 8 s1 s2) (grown_c : IsGrown plane_grid 8 s2 s3) (grown_d : IsGrown plane_grid 8 s3 s4)
    (copy_a : IsCopy source s1 (slice_index_or parts 0 w) a) (copy_b : IsCopy source s2 (slice_index_or parts 1 x) b) (copy_c : IsCopy source s3 (slice_index_or parts 2 y) c) (copy_d : IsCopy source s4 (slice_index_or parts 3 z) d) where
  of_default : (s : Held PlaneLeaf) (i e r : ℕ) → i < 4 → IsCopy source s (slice_index_or parts i e) r → IsCopy source s (slice_index_or parts i 0) r
  of_default s i e r h copy = subst (λ q. IsCopy source s q r) (same_default parts i e 0 (omega (arith, h, long))) copy

  pub all_copied : AreAllCopies source s4 parts (a ∷ b ∷ c ∷ d ∷ [])
  all_copied zero h = copy_later source s3 s4 _ a grown_d (copy_later source s2 s3 _ a grown_c (copy_later source s1 s2 _ a grown_b (of_default s1 0 w a h copy_a)))
  all_copied (suc zero) h = copy_later source s3 s4 _ b grown_d (copy_later source s2 s3 _ b grown_c (of_default s2 1 x b h copy_b))
  all_copied (suc (suc zero)) h = copy_later source s3 s4 _ c grown_d (of_default s3 2 y c h copy_c)
  all_copied (suc (suc (suc zero))) h = of_default s4 3 z d h copy_d
  all_copied (suc (suc (suc (suc i)))) h = absurd (omega (arith, h))
