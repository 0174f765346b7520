-- Equal writes stand at one place.
use Rattle.std.proofs.Common.{◌≡◌, ℕ, zero, suc, ◌-◌, ◌<◌, length, inl, inr, refl, sym, ap, ◌∙◌, arith, subst}
use Rattle.std.specs.Prelude.{slice_get, Option, None, Some}
use Rattle.std.proofs.lemmas.Option.{slice_get_cases, slice_get_within}
use Rattle.stamped_writes.specs.declared.write.Write.{Write}
use Rattle.square_store.specs.declared.node.Node.{Node}
use Rattle.square_store.specs.declared.node.Node.TheVariants.{Blank, Leaf, Four}
use Rattle.square_store.specs.Grid.{Grid, blank_grid, quartered, AreSameWithin, IsBlankWithin}
use Rattle.square_store.specs.Squares.{Held, side_at, HasLevel, IsAt, grid_at}
use Rattle.square_store.specs.Store.{HasParts, IsCanonical}
use Rattle.square_store.proofs.Quarters.{twice, quarters_of, same_quarters}

-- what stands at a place of a level
pub at_node : {L : Type 0} (s : Held L) (k p : ℕ) (x : Node) → slice_get s.squares p ≡ Some x → HasLevel k (Some x) → IsAt s k p
unfolding IsAt
at_node s k p x e h = rw e h

pub node_at : {L : Type 0} (s : Held L) (k p : ℕ) (x : Option Node) → slice_get s.squares p ≡ x → IsAt s k p → HasLevel k x
unfolding IsAt
node_at s k p x e h = subst (HasLevel k) e h

pub at_within : {L : Type 0} (s : Held L) (k p : ℕ) → IsAt s k p → p < length s.squares
unfolding IsAt
at_within s k p h = go (slice_get s.squares p) refl h
  where
    go : (x : Option Node) → slice_get s.squares p ≡ x → HasLevel k x → p < length s.squares
    go None e h = absurd h
    go (Some x) e h = slice_get_within s.squares p x e

module _ {L : Type 0} (writes : L → Grid) (side : ℕ) (s : Held L) where
  pub blank_at : (k p t : ℕ) → slice_get s.squares p ≡ Some (Blank t) → IsAt s k p
  blank_at k p t e = at_node s k p (Blank t) e tt

  pub blank_writes : (k p t : ℕ) → slice_get s.squares p ≡ Some (Blank t) → grid_at writes side s k p ≡ blank_grid t
  unfolding grid_at
  blank_writes zero p t e = rw e refl
  blank_writes (suc k) p t e = rw e refl

  pub leaf_writes : (p q : ℕ) (l : L) → slice_get s.squares p ≡ Some (Leaf q) → slice_get s.leaves q ≡ Some l → grid_at writes side s 0 p ≡ writes l
  unfolding grid_at
  leaf_writes p q l e at = rw (e, at) refl

  pub four_writes : (k p j a b c d : ℕ) → slice_get s.squares p ≡ Some (Four j a b c d) → grid_at writes side s (suc k) p ≡ quartered (side_at side k) (grid_at writes side s k a) (grid_at writes side s k b) (grid_at writes side s k c) (grid_at writes side s k d)
  unfolding grid_at
  four_writes k p j a b c d e = rw e refl

-- the parts of a square of level k + 1
pub parts_below : {L : Type 0} (s : Held L) (k j a b c d : ℕ) → HasParts s j a b c d → suc k ≡ j → IsAt s k a × IsAt s k b × IsAt s k c × IsAt s k d
parts_below s k j a b c d h e =
    let below : j - 1 ≡ k = omega arith in
    (subst (λ i. IsAt s i a) below h.nw, subst (λ i. IsAt s i b) below h.ne, subst (λ i. IsAt s i c) below h.sw, subst (λ i. IsAt s i d) below h.se)

module _ {L : Type 0} (writes : L → Grid) (side : ℕ) (IsLeaf : L → Type 0) (s : Held L) (can : IsCanonical writes side IsLeaf s) (some : 0 < side) where
  pub side_some : (k : ℕ) → 0 < side_at side k
  side_some zero = omega (arith, some)
  side_some (suc k) = omega (arith, twice side k, side_some k)

  -- the leaf of a square
  pub leaf_at : (p q : ℕ) → slice_get s.squares p ≡ Some (Leaf q) → (l : L) × (slice_get s.leaves q ≡ Some l)
  leaf_at p q e = elim ((slice_get_cases s.leaves q).1) [
    | inl c ↦ (c.0, c.2)
    | inr c ↦ (let h = can.leaf_within p q e in absurd (omega (arith, c.0)))
  ]

  IsBlankPlace : ℕ → ℕ → Type 0
  IsBlankPlace k t = (p : ℕ) → IsAt s k p → IsBlankWithin (side_at side k) (grid_at writes side s k p) t → slice_get s.squares p ≡ Some (Blank t)

  stamp_of_blank : (k p m t : ℕ) → slice_get s.squares p ≡ Some (Blank m) → IsBlankWithin (side_at side k) (grid_at writes side s k p) t → slice_get s.squares p ≡ Some (Blank t)
  stamp_of_blank k p m t e blank =
      let w : blank_grid m 0 0 ≡ blank_grid t 0 0 = sym (ap (λ (f : Grid). f 0 0) (blank_writes writes side s k p m e)) ∙ blank 0 0 (side_some k) (side_some k) in
      e ∙ ap (λ (w : Write). Some (Blank w.stamp)) w

  blank_small : (t p : ℕ) (x : Option Node) → slice_get s.squares p ≡ x → HasLevel 0 x → IsBlankWithin (side_at side 0) (grid_at writes side s 0 p) t → slice_get s.squares p ≡ Some (Blank t)
  blank_small t p None e h blank = absurd h
  blank_small t p (Some (Blank m)) e h blank = stamp_of_blank 0 p m t e blank
  blank_small t p (Some (Leaf q)) e h blank =
      let l = leaf_at p q e in
      let w = leaf_writes writes side s p q l.0 e l.1 in
      absurd (can.spelt q l.0 l.1 t (λ u v hu hv. sym (ap (λ (f : Grid). f u v) w) ∙ blank u v (omega (arith, hu)) (omega (arith, hv))))
  blank_small t p (Some (Four j a b c d)) e h blank = let parts = can.parts p j a b c d e in absurd (omega (arith, parts.level, h))

  blank_large : (t k p : ℕ) (x : Option Node) → slice_get s.squares p ≡ x → HasLevel (suc k) x → IsBlankPlace k t → IsBlankWithin (side_at side (suc k)) (grid_at writes side s (suc k) p) t → slice_get s.squares p ≡ Some (Blank t)
  unfolding IsBlankPlace
  blank_large t k p None e h below blank = absurd h
  blank_large t k p (Some (Blank m)) e h below blank = stamp_of_blank (suc k) p m t e blank
  blank_large t k p (Some (Leaf q)) e h below blank = absurd (omega (arith, h))
  blank_large t k p (Some (Four j a b c d)) e h below blank =
      let n = side_at side k in
      let at = λ (q : ℕ). grid_at writes side s k q in
      let parts = parts_below s k j a b c d (can.parts p j a b c d e) h in
      let w = four_writes writes side s k p j a b c d e in
      let each = quarters_of n (at a) (at b) (at c) (at d) (blank_grid t) (λ u v hu hv. sym (ap (λ (f : Grid). f u v) w) ∙ blank u v (omega (arith, twice side k, hu)) (omega (arith, twice side k, hv))) in
      let ea = below a parts.0 each.nw in
      let eb = below b parts.1 each.ne in
      let ec = below c parts.2 each.sw in
      let ed = below d parts.3 each.se in
      absurd (can.four p j a b c d t e ea (can.once b a (Blank t) eb ea) (can.once c a (Blank t) ec ea) (can.once d a (Blank t) ed ea))

  -- a square whose writes are those of a blank is that blank
  pub blank_place : (k t p : ℕ) → IsAt s k p → IsBlankWithin (side_at side k) (grid_at writes side s k p) t → slice_get s.squares p ≡ Some (Blank t)
  unfolding IsBlankPlace
  blank_place zero t p h blank = blank_small t p (slice_get s.squares p) refl (node_at s 0 p (slice_get s.squares p) refl h) blank
  blank_place (suc k) t p h blank = blank_large t k p (slice_get s.squares p) refl (node_at s (suc k) p (slice_get s.squares p) refl h) (blank_place k t) blank

  module _ (exact : (a b : L) → IsLeaf a → IsLeaf b → AreSameWithin side (writes a) (writes b) → a ≡ b) where
    abbrev pub AreSameAt : ℕ → ℕ → ℕ → Type 0
    AreSameAt k p q = AreSameWithin (side_at side k) (grid_at writes side s k p) (grid_at writes side s k q)

    IsOnePlace : ℕ → Type 0
    IsOnePlace k = (p q : ℕ) → IsAt s k p → IsAt s k q → AreSameAt k p q → p ≡ q

    -- a blank and a square with its writes
    blank_one : (k p q t : ℕ) → slice_get s.squares p ≡ Some (Blank t) → IsAt s k q → AreSameAt k p q → p ≡ q
    blank_one k p q t e h same =
        let w = blank_writes writes side s k p t e in
        can.once p q (Blank t) e (blank_place k t q h (λ u v hu hv. sym (same u v hu hv) ∙ ap (λ (f : Grid). f u v) w))

    same_small : (p q : ℕ) (x y : Option Node) → slice_get s.squares p ≡ x → slice_get s.squares q ≡ y → IsAt s 0 p → IsAt s 0 q → AreSameAt 0 p q → p ≡ q
    same_small p q None y e f hp hq same = absurd (node_at s 0 p None e hp)
    same_small p q (Some (Blank t)) y e f hp hq same = blank_one 0 p q t e hq same
    same_small p q (Some (Four j a b c d)) y e f hp hq same = let parts = can.parts p j a b c d e in let level = node_at s 0 p (Some (Four j a b c d)) e hp in absurd (omega (arith, parts.level, level))
    same_small p q (Some (Leaf m)) None e f hp hq same = absurd (node_at s 0 q None f hq)
    same_small p q (Some (Leaf m)) (Some (Blank t)) e f hp hq same = sym (blank_one 0 q p t f hp (λ u v hu hv. sym (same u v hu hv)))
    same_small p q (Some (Leaf m)) (Some (Four j a b c d)) e f hp hq same = let parts = can.parts q j a b c d f in let level = node_at s 0 q (Some (Four j a b c d)) f hq in absurd (omega (arith, parts.level, level))
    same_small p q (Some (Leaf m)) (Some (Leaf n)) e f hp hq same =
        let l = leaf_at p m e in
        let l' = leaf_at q n f in
        let w = leaf_writes writes side s p m l.0 e l.1 in
        let w' = leaf_writes writes side s q n l'.0 f l'.1 in
        let one : l.0 ≡ l'.0 = exact l.0 l'.0 (can.leaf m l.0 l.1) (can.leaf n l'.0 l'.1) (λ u v hu hv. sym (ap (λ (f : Grid). f u v) w) ∙ same u v (omega (arith, hu)) (omega (arith, hv)) ∙ ap (λ (f : Grid). f u v) w') in
        let here : m ≡ n = can.leaf_once m n l'.0 (l.1 ∙ ap (λ z. Some z) one) l'.1 in
        can.once p q (Leaf n) (e ∙ ap (λ z. Some (Leaf z)) here) f

    same_large : (k p q : ℕ) (x y : Option Node) → slice_get s.squares p ≡ x → slice_get s.squares q ≡ y → IsAt s (suc k) p → IsAt s (suc k) q → IsOnePlace k → AreSameAt (suc k) p q → p ≡ q
    unfolding IsOnePlace
    same_large k p q None y e f hp hq below same = absurd (node_at s (suc k) p None e hp)
    same_large k p q (Some (Blank t)) y e f hp hq below same = blank_one (suc k) p q t e hq same
    same_large k p q (Some (Leaf m)) y e f hp hq below same = let level = node_at s (suc k) p (Some (Leaf m)) e hp in absurd (omega (arith, level))
    same_large k p q (Some (Four j a b c d)) None e f hp hq below same = absurd (node_at s (suc k) q None f hq)
    same_large k p q (Some (Four j a b c d)) (Some (Blank t)) e f hp hq below same = sym (blank_one (suc k) q p t f hp (λ u v hu hv. sym (same u v hu hv)))
    same_large k p q (Some (Four j a b c d)) (Some (Leaf m)) e f hp hq below same = let level = node_at s (suc k) q (Some (Leaf m)) f hq in absurd (omega (arith, level))
    same_large k p q (Some (Four j a b c d)) (Some (Four j' a' b' c' d')) e f hp hq below same =
        let n = side_at side k in
        let at = λ (q : ℕ). grid_at writes side s k q in
        let level = node_at s (suc k) p (Some (Four j a b c d)) e hp in
        let level' = node_at s (suc k) q (Some (Four j' a' b' c' d')) f hq in
        let parts = parts_below s k j a b c d (can.parts p j a b c d e) level in
        let parts' = parts_below s k j' a' b' c' d' (can.parts q j' a' b' c' d' f) level' in
        let w = four_writes writes side s k p j a b c d e in
        let w' = four_writes writes side s k q j' a' b' c' d' f in
        let each = same_quarters n (at a) (at b) (at c) (at d) (at a') (at b') (at c') (at d')
        (λ u v hu hv. sym (ap (λ (f : Grid). f u v) w) ∙ same u v (omega (arith, twice side k, hu)) (omega (arith, twice side k, hv)) ∙ ap (λ (f : Grid). f u v) w') in
        let ej : j ≡ j' = sym level ∙ level' in
        let ea = below a a' parts.0 parts'.0 each.nw in
        let eb = below b b' parts.1 parts'.1 each.ne in
        let ec = below c c' parts.2 parts'.2 each.sw in
        let ed = below d d' parts.3 parts'.3 each.se in
        can.once p q (Four j' a' b' c' d') (rw (ej, ea, eb, ec, ed) at e) f

    -- one map, one place
    pub same_place : (k p q : ℕ) → IsAt s k p → IsAt s k q → AreSameAt k p q → p ≡ q
    unfolding IsOnePlace
    same_place zero p q hp hq same = same_small p q (slice_get s.squares p) (slice_get s.squares q) refl refl hp hq same
    same_place (suc k) p q hp hq same = same_large k p q (slice_get s.squares p) (slice_get s.squares q) refl refl hp hq (same_place k) same
