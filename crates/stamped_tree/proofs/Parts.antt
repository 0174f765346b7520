-- The parts of a square of four.
use Rattle.std.proofs.Common.{◌≡◌, ◌≢◌, ℕ, zero, suc, ◌+◌, ◌-◌, ◌*◌, ◌<◌, ◌≤◌, Fits, w32, List, [], ◌∷◌, length, refl, sym, subst, arith}
use Rattle.std.specs.Prelude.{slice_index_or}
use Rattle.square_store.specs.Squares.{Held, IsAt, side_at}
use Rattle.square_store.specs.Store.{IsHeld, IsGrown}
use Rattle.square_store.specs.Seen.{IsFourAt, AreQuartersAt}
use Rattle.square_store.proofs.Drawn.{twice_below}
use Rattle.square_store.proofs.Places.{at_within}
use Rattle.stamped_tree.specs.declared.leaf_kind.PlaneLeaf.{PlaneLeaf}
use Rattle.stamped_tree.specs.LeafKind.{plane_grid}

-- a list of four has them
pub four_listed : (xs : List ℕ) → length xs ≡ 4 → (p q r s : ℕ) → xs ≡ slice_index_or xs 0 p ∷ slice_index_or xs 1 q ∷ slice_index_or xs 2 r ∷ slice_index_or xs 3 s ∷ []
four_listed [] h p q r s = absurd (omega (arith, h))
four_listed (a ∷ []) h p q r s = absurd (omega (arith, h))
four_listed (a ∷ b ∷ []) h p q r s = absurd (omega (arith, h))
four_listed (a ∷ b ∷ c ∷ []) h p q r s = absurd (omega (arith, h))
four_listed (a ∷ b ∷ c ∷ d ∷ []) h p q r s = refl
four_listed (a ∷ b ∷ c ∷ d ∷ e ∷ rest) h p q r s = absurd (omega (arith, h))

pub same_default : {A : Type 0} (xs : List A) (i : ℕ) (d e : A) → i < length xs → slice_index_or xs i d ≡ slice_index_or xs i e
same_default [] i d e h = absurd (omega (arith, h))
same_default (x ∷ xs) zero d e h = refl
same_default (x ∷ xs) (suc i) d e h = same_default xs i d e (omega (arith, h))

-- squares stand at the parts
module _ (s : Held PlaneLeaf) (k p : ℕ) (parts : List ℕ) (four : IsFourAt plane_grid 8 s k parts p) where
  pub part_stands : (i d : ℕ) → i < 4 → IsAt s (k - 1) (slice_index_or parts i d)
  part_stands i d h = subst (λ q. IsAt s (k - 1) q) (sym (same_default parts i d 0 (let l = four.four in omega (arith, h, l)))) (four.parts_stand i h)

  pub part_held : (i d : ℕ) → i < 4 → IsHeld s (slice_index_or parts i d)
  part_held i d h = at_within s (k - 1) (slice_index_or parts i d) (part_stands i d h)

-- the four, by their parts
pub four_by_parts : (s : Held PlaneLeaf) (k p : ℕ) (parts : List ℕ) → IsFourAt plane_grid 8 s k parts p → (a b c d : ℕ)
    → IsFourAt plane_grid 8 s k (slice_index_or parts 0 a ∷ slice_index_or parts 1 b ∷ slice_index_or parts 2 c ∷ slice_index_or parts 3 d ∷ []) p
four_by_parts s k p parts four a b c d = subst (λ l. IsFourAt plane_grid 8 s k l p) (four_listed parts four.four a b c d) four

-- what stands at the level of a square of four
module _ (s : Held PlaneLeaf) (k j p : ℕ) (parts : List ℕ) (four : IsFourAt plane_grid 8 s j parts p) (at : IsAt s k p) where
  pub of_level : IsFourAt plane_grid 8 s k parts p
  of_level = subst (λ m. IsFourAt plane_grid 8 s m parts p) (sym (four.level k at)) four

  pub above_leaves : 1 ≤ k
  above_leaves = let some = of_level.positive in omega (arith, some)

  pub nw_stands : (d : ℕ) → IsAt s (k - 1) (slice_index_or parts 0 d)
  nw_stands d = part_stands s k p parts of_level 0 d (omega arith)

  pub ne_stands : (d : ℕ) → IsAt s (k - 1) (slice_index_or parts 1 d)
  ne_stands d = part_stands s k p parts of_level 1 d (omega arith)

  pub sw_stands : (d : ℕ) → IsAt s (k - 1) (slice_index_or parts 2 d)
  sw_stands d = part_stands s k p parts of_level 2 d (omega arith)

  pub se_stands : (d : ℕ) → IsAt s (k - 1) (slice_index_or parts 3 d)
  se_stands d = part_stands s k p parts of_level 3 d (omega arith)

-- quarters in a store that grew
module _ (s t : Held PlaneLeaf) (k p : ℕ) (parts : List ℕ) (cut : AreQuartersAt plane_grid 8 s k p parts) (grown : IsGrown plane_grid 8 s t) where
  quarter_later : (i d : ℕ) → i < 4 → IsAt t (k - 1) (slice_index_or parts i d)
  quarter_later i d h = grown.stands (k - 1) (slice_index_or parts i d) (subst (λ q. IsAt s (k - 1) q) (sym (same_default parts i d 0 (let l = cut.four in omega (arith, h, l)))) (cut.stand i h))

  pub nw_later : (d : ℕ) → IsAt t (k - 1) (slice_index_or parts 0 d)
  nw_later d = quarter_later 0 d (omega arith)

  pub ne_later : (d : ℕ) → IsAt t (k - 1) (slice_index_or parts 1 d)
  ne_later d = quarter_later 1 d (omega arith)

  pub sw_later : (d : ℕ) → IsAt t (k - 1) (slice_index_or parts 2 d)
  sw_later d = quarter_later 2 d (omega arith)

  pub se_later : (d : ℕ) → IsAt t (k - 1) (slice_index_or parts 3 d)
  se_later d = quarter_later 3 d (omega arith)

-- levels
pub some_level : (k : ℕ) → k ≢ 0 → 0 < k
some_level k h = omega (arith, h)

pub level_below : (k : ℕ) → k ≤ 28 → k - 1 ≤ 28
level_below k h = omega (arith, h)

pub part_falls : (k t : ℕ) → 1 ≤ k → k ≡ t → k - 1 < t
part_falls k t some is = omega (arith, some, is)

pub anew_falls : (k t : ℕ) → 2 * k + 1 ≡ t → 2 * k < t
anew_falls k t is = omega (arith, is)

pub quarter_falls : (k t : ℕ) → 0 < k → 2 * k ≡ t → 2 * (k - 1) + 1 < t
quarter_falls k t some is = omega (arith, some, is)

-- halves of a side that ends within the plane
near_within : (whole half start : ℕ) → whole ≡ half + half → start + whole ≤ 2147483648 → start + half ≤ 2147483648
near_within whole half start wide h = omega (arith, wide, h)

far_within : (whole half start : ℕ) → whole ≡ half + half → start + whole ≤ 2147483648 → start + half + half ≤ 2147483648
far_within whole half start wide h = omega (arith, wide, h)

half_fits : (whole half start : ℕ) → whole ≡ half + half → start + whole ≤ 2147483648 → Fits w32 (start + half)
half_fits whole half start wide h = omega (arith, wide, h)

pub near_half : (k start : ℕ) → 0 < k → start + side_at 8 k ≤ 2147483648 → start + side_at 8 (k - 1) ≤ 2147483648
near_half k start some h = near_within (side_at 8 k) (side_at 8 (k - 1)) start (twice_below 8 k some) h

pub far_half : (k start n : ℕ) → 0 < k → n ≡ side_at 8 (k - 1) → start + side_at 8 k ≤ 2147483648 → start + n + side_at 8 (k - 1) ≤ 2147483648
far_half k start n some is h = rw is (far_within (side_at 8 k) (side_at 8 (k - 1)) start (twice_below 8 k some) h)

pub far_start : (k start n : ℕ) → 0 < k → n ≡ side_at 8 (k - 1) → start + side_at 8 k ≤ 2147483648 → Fits w32 (start + n)
far_start k start n some is h = rw is (half_fits (side_at 8 k) (side_at 8 (k - 1)) start (twice_below 8 k some) h)
