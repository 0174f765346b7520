-- What was added draws what it should, and was not there.
use Rattle.std.proofs.Common.{◌≡◌, ℕ, zero, suc, ◌+◌, ◌-◌, ◌<◌, inl, inr, [], ◌∷◌, ◌++◌, length, refl, sym, ap, ◌∙◌, arith, subst}
use Rattle.std.specs.Prelude.{slice_get, slice_index_or, Option, None, Some, Result, Err}
use Rattle.std.specs.Result.{IsErrAnd}
use Rattle.square_store.specs.declared.node.Node.{Node}
use Rattle.square_store.specs.declared.node.Node.TheVariants.{Blank, Leaf, Four}
use Rattle.square_store.specs.Grid.{Grid, blank_grid, quartered, AreSameWithin, IsBlankWithin, IsSpeltWithin}
use Rattle.square_store.specs.Squares.{Held, side_at, IsAt, grid_at, quarters_grid, Draws}
use Rattle.square_store.specs.Store.{HasParts, IsCanonical, IsStore, IsAbsent, IsGrown, IsAdded, IsNoneKept, Stood, Added, IsFullFor, IsRoomFor}
use Rattle.square_store.specs.Steps.{node_grid, IsBlankNode, IsOneBlank, IsAbsentNode, IsAbsentLeaf, IsPlaceOfLeaf, IsWanted, IsPushed, IsLeafPushed, IsLeafEntered, LeafStood, LeafAdded}
use Rattle.square_store.specs.Seen.{IsBlankAt, IsLeafAt, IsFourAt}
use Rattle.square_store.proofs.Lists.{got_last, got_more}
use Rattle.square_store.proofs.Quarters.{twice, quarters_of, same_quarters, blank_quarters}
use Rattle.square_store.proofs.Places.{at_node, node_at, blank_at, blank_writes, leaf_writes, four_writes, parts_below, leaf_at, blank_place, same_place}
use Rattle.square_store.proofs.Growth.{Extends, same_writes, with_node, with_leaf, extends_node, longer, grown_node, grown_leaf}

module _ {L : Type 0} (writes : L → Grid) (side : ℕ) where
  -- a blank
  pub blank_draws : (s : Held L) (p t : ℕ) → slice_get s.squares p ≡ Some (Blank t) → IsBlankAt writes side s t p
  blank_draws s p t e k = record {
    stands = blank_at writes side s k p t e;
    same = λ u v hu hv. ap (λ (f : Grid). f u v) (blank_writes writes side s k p t e);
  }

  -- four parts that are one blank
  pub four_blank : (s : Held L) (k a t : ℕ) → slice_get s.squares a ≡ Some (Blank t) → Draws writes side s k (quarters_grid writes side s (k - 1) a a a a) a
  four_blank s k a t e = record {
    stands = blank_at writes side s k a t e;
    same = λ u v hu hv. rw (blank_writes writes side s k a t e, blank_writes writes side s (k - 1) a t e) (sym (blank_quarters (side_at side (k - 1)) t u v));
  }

  pub leaf_draws : (s : Held L) (l : L) (p : ℕ) → IsPlaceOfLeaf s l p → Draws writes side s 0 (writes l) p
  leaf_draws s l p there = record {
    stands = at_node s 0 p (Leaf there.0) there.1 refl;
    same = λ u v hu hv. ap (λ (f : Grid). f u v) (leaf_writes writes side s p there.0 l there.1 there.2);
  }

module _ {L : Type 0} (writes : L → Grid) (side : ℕ) (IsLeaf : L → Type 0) (s : Held L) (can : IsCanonical writes side IsLeaf s) (some : 0 < side) where
  -- a blank that is not there
  pub blank_absent : (t k : ℕ) → IsAbsentNode s (Blank t) → IsAbsent writes side s k (blank_grid t)
  blank_absent t k absent p drawn = absent p (blank_place writes side IsLeaf s can some k t p drawn.stands drawn.same)

  -- a leaf is seen whole
  pub leaf_seen : (l : L) (p q : ℕ) → slice_get s.squares p ≡ Some (Leaf q) → slice_get s.leaves q ≡ Some l → IsLeafAt writes side s l p
  leaf_seen l p q e at = record {
    draws = leaf_draws writes side s l p (q, e, at);
    level = λ k h. node_at s k p (Some (Leaf q)) e h;
    spelt = can.spelt q l at;
  }

  module _ (exact : (a b : L) → IsLeaf a → IsLeaf b → AreSameWithin side (writes a) (writes b) → a ≡ b) where
    -- a leaf that is not there
    pub leaf_absent : (l : L) → IsLeaf l → IsSpeltWithin side (writes l) → IsAbsentLeaf s l → IsAbsent writes side s 0 (writes l)
    leaf_absent l leaf spelt absent p drawn = go (slice_get s.squares p) refl
      where
        go : (x : Option Node) → slice_get s.squares p ≡ x → ⊥
        go None e = node_at s 0 p None e drawn.stands
        go (Some (Blank t)) e = spelt t (λ u v hu hv. sym (drawn.same u v (omega (arith, hu)) (omega (arith, hv))) ∙ ap (λ (f : Grid). f u v) (blank_writes writes side s 0 p t e))
        go (Some (Four j a b c d)) e = let parts = can.parts p j a b c d e in let level = node_at s 0 p (Some (Four j a b c d)) e drawn.stands in omega (arith, parts.level, level)
        go (Some (Leaf q)) e =
            let m = leaf_at writes side IsLeaf s can some p q e in
            let one : m.0 ≡ l = exact m.0 l (can.leaf q m.0 m.1) leaf (λ u v hu hv. sym (ap (λ (f : Grid). f u v) (leaf_writes writes side s p q m.0 e m.1)) ∙ drawn.same u v (omega (arith, hu)) (omega (arith, hv))) in
            absent q (m.1 ∙ ap (λ z. Some z) one)

    side_twice : (k : ℕ) → 0 < k → side_at side k ≡ side_at side (k - 1) + side_at side (k - 1)
    side_twice k h = let e : suc (k - 1) ≡ k = omega (arith, h) in ap (side_at side) (sym e) ∙ twice side (k - 1)

    -- the parts of a square whose writes are those of four parts
    same_parts : (k p j a b c d a' b' c' d' : ℕ) → HasParts s k a b c d → slice_get s.squares p ≡ Some (Four j a' b' c' d') → k ≡ j → AreSameWithin (side_at side k) (grid_at writes side s k p) (quarters_grid writes side s (k - 1) a b c d)
        → slice_get s.squares p ≡ Some (Four k a b c d)
    same_parts k p j a b c d a' b' c' d' parts e level same =
        let n = side_at side (k - 1) in
        let at = λ (q : ℕ). grid_at writes side s (k - 1) q in
        let up : suc (k - 1) ≡ k = (let h = parts.level in omega (arith, h)) in
        let parts' = parts_below s (k - 1) j a' b' c' d' (can.parts p j a' b' c' d' e) (up ∙ level) in
        let w : grid_at writes side s k p ≡ quartered n (at a') (at b') (at c') (at d') = ap (λ i. grid_at writes side s i p) (sym up) ∙ four_writes writes side s (k - 1) p j a' b' c' d' e in
        let each = same_quarters n (at a') (at b') (at c') (at d') (at a) (at b) (at c) (at d)
        (λ u v hu hv. sym (ap (λ (f : Grid). f u v) w) ∙ same u v (omega (arith, side_twice k parts.level, hu)) (omega (arith, side_twice k parts.level, hv))) in
        let one = same_place writes side IsLeaf s can some exact (k - 1) in
        let ea = one a' a parts'.0 parts.nw each.nw in
        let eb = one b' b parts'.1 parts.ne each.ne in
        let ec = one c' c parts'.2 parts.sw each.sw in
        let ed = one d' d parts'.3 parts.se each.se in
        rw (ea, eb, ec, ed, ← level) at e

    -- four parts whose writes are those of a blank are that blank
    blank_parts : (k t a b c d : ℕ) → HasParts s k a b c d → IsBlankWithin (side_at side k) (quarters_grid writes side s (k - 1) a b c d) t → (slice_get s.squares a ≡ Some (Blank t)) × (b ≡ a) × (c ≡ a) × (d ≡ a)
    blank_parts k t a b c d parts blank =
        let n = side_at side (k - 1) in
        let at = λ (q : ℕ). grid_at writes side s (k - 1) q in
        let each = quarters_of n (at a) (at b) (at c) (at d) (blank_grid t) (λ u v hu hv. blank u v (omega (arith, side_twice k parts.level, hu)) (omega (arith, side_twice k parts.level, hv))) in
        let is = blank_place writes side IsLeaf s can some (k - 1) t in
        let ea = is a parts.nw each.nw in
        let eb = is b parts.ne each.ne in
        let ec = is c parts.sw each.sw in
        let ed = is d parts.se each.se in
        (ea, can.once b a (Blank t) eb ea, can.once c a (Blank t) ec ea, can.once d a (Blank t) ed ea)

    -- four parts that are no blank, and whose square is not there
    pub four_absent : (k a b c d : ℕ) → IsWanted s (Four k a b c d) → IsAbsentNode s (Four k a b c d) → IsAbsent writes side s k (quarters_grid writes side s (k - 1) a b c d)
    four_absent k a b c d wanted absent p drawn = go (slice_get s.squares p) refl
      where
        go : (x : Option Node) → slice_get s.squares p ≡ x → ⊥
        go None e = node_at s k p None e drawn.stands
        go (Some (Blank t)) e =
            let w = blank_writes writes side s k p t e in
            let one = blank_parts k t a b c d wanted.0 (λ u v hu hv. sym (drawn.same u v hu hv) ∙ ap (λ (f : Grid). f u v) w) in
            wanted.1 (record { blank = subst IsBlankNode (sym one.0) tt; ne = one.1; sw = one.2; se = one.3 })
        go (Some (Leaf q)) e = let level = node_at s k p (Some (Leaf q)) e drawn.stands in let h = wanted.0.level in omega (arith, level, h)
        go (Some (Four j a' b' c' d')) e = absent p (same_parts k p j a b c d a' b' c' d' wanted.0 e (node_at s k p (Some (Four j a' b' c' d')) e drawn.stands) drawn.same)

    -- a square of four parts, in a store that grew
    pub four_draws : (new : Held L) → Extends s new → (k p a b c d : ℕ) → HasParts s k a b c d → slice_get new.squares p ≡ Some (Four k a b c d) → Draws writes side new k (quarters_grid writes side s (k - 1) a b c d) p
    four_draws new ext k p a b c d parts e =
        let up : suc (k - 1) ≡ k = (let h = parts.level in omega (arith, h)) in
        let same = same_writes writes side IsLeaf s can new ext (k - 1) in
        let w : grid_at writes side new k p ≡ quarters_grid writes side s (k - 1) a b c d
        = ap (λ i. grid_at writes side new i p) (sym up) ∙ four_writes writes side new (k - 1) p k a b c d e ∙ rw (same a parts.nw, same b parts.ne, same c parts.sw, same d parts.se) refl in
        record {
          stands = at_node new k p (Four k a b c d) e refl;
          same = λ u v hu hv. ap (λ (f : Grid). f u v) w;
        }

    four_stand : (k a b c d i : ℕ) → HasParts s k a b c d → i < 4 → IsAt s (k - 1) (slice_index_or (a ∷ b ∷ c ∷ d ∷ []) i 0)
    four_stand k a b c d zero h l = h.nw
    four_stand k a b c d (suc zero) h l = h.ne
    four_stand k a b c d (suc (suc zero)) h l = h.sw
    four_stand k a b c d (suc (suc (suc zero))) h l = h.se
    four_stand k a b c d (suc (suc (suc (suc i)))) h l = absurd (omega (arith, l))

    -- a square of four is seen whole
    pub four_seen : (k p a b c d : ℕ) → slice_get s.squares p ≡ Some (Four k a b c d) → IsFourAt writes side s k (a ∷ b ∷ c ∷ d ∷ []) p
    four_seen k p a b c d e =
        let parts = can.parts p k a b c d e in
        let stands = at_node s k p (Four k a b c d) e refl in
        record {
          positive = parts.level;
          four = refl;
          parts_stand = λ i l. four_stand k a b c d i parts l;
          draws = four_draws s (record { leaves = λ q l at. at; squares = λ q x at. at }) k p a b c d parts e;
          level = λ j h. node_at s j p (Some (Four k a b c d)) e h;
          spelt = λ t blank. other (sym e ∙ blank_place writes side IsLeaf s can some k t p stands blank);
        }
      where
        other : {t : ℕ} → Some (Four k a b c d) ≡ Some (Blank t) → ⊥
        other z = cc

-- a grid in place of one with the same writes
module _ {L : Type 0} (writes : L → Grid) (side k : ℕ) (f g : Grid) (alike : AreSameWithin (side_at side k) f g) where
  pub drawn_as : (s : Held L) (p : ℕ) → Draws writes side s k g p → Draws writes side s k f p
  drawn_as s p drawn = record { stands = drawn.stands; same = λ u v hu hv. drawn.same u v hu hv ∙ sym (alike u v hu hv) }

  pub absent_as : (s : Held L) → IsAbsent writes side s k g → IsAbsent writes side s k f
  absent_as s absent p drawn = absent p (record { stands = drawn.stands; same = λ u v hu hv. drawn.same u v hu hv ∙ alike u v hu hv })

  pub full_as : (s : Held L) → IsFullFor writes side s k g → IsFullFor writes side s k f
  full_as s full = record { full = full.full; absent = absent_as s full.absent }

  pub room_as : (s : Held L) → IsRoomFor writes side s k g → IsRoomFor writes side s k f
  room_as s room = record { room = room.room; absent = absent_as s room.absent }

  pub added_as : (old new : Held L) (p : ℕ) → IsAdded writes side old new k g p → IsAdded writes side old new k f p
  added_as old new p (Stood e) = Stood e
  added_as old new p (Added absent place more) = Added (absent_as old absent) place more

-- a leaf that is a blank
pub blank_leaf : {L : Type 0} (writes : L → Grid) (side t : ℕ) (l : L) → IsBlankWithin side (writes l) t → AreSameWithin (side_at side 0) (writes l) (blank_grid t)
blank_leaf writes side t l blank u v hu hv = blank u v (omega (arith, hu)) (omega (arith, hv))

blank_node : (x : Option Node) → IsBlankNode x → (t : ℕ) × (x ≡ Some (Blank t))
blank_node None h = absurd h
blank_node (Some (Blank t)) h = (t, refl)
blank_node (Some (Leaf q)) h = absurd h
blank_node (Some (Four j a b c d)) h = absurd h

pub one_blank_draws : {L : Type 0} (writes : L → Grid) (side : ℕ) (s : Held L) (k a b c d : ℕ) → IsOneBlank s a b c d → Draws writes side s k (quarters_grid writes side s (k - 1) a b c d) a
one_blank_draws writes side s k a b c d one =
    let t = blank_node (slice_get s.squares a) one.blank in
    rw (one.ne, one.sw, one.se) (four_blank writes side s k a t.0 t.1)

-- the summary of four is that of their node
pub four_summed : {L S : Type 0} (writes : L → Grid) (side : ℕ) (IsSummary : ℕ → Grid → S → Type 0) (s : Held L) (k a b c d : ℕ) (x : S) → 0 < k
    → IsSummary (side_at side (k - 1) + side_at side (k - 1)) (quarters_grid writes side s (k - 1) a b c d) x
    → (j : ℕ) → j ≡ k → IsSummary (side_at side j) (node_grid writes side s j (Some (Four k a b c d))) x
four_summed writes side IsSummary s k a b c d x h summed j e =
    let up : suc (k - 1) ≡ j = omega (arith, h, e) in
    subst (λ i. IsSummary (side_at side i) (node_grid writes side s i (Some (Four k a b c d))) x) up
    (subst (λ n. IsSummary n (quarters_grid writes side s (k - 1) a b c d) x) (sym (twice side (k - 1))) summed)

-- of a square that went last no result is kept
none_last : {L : Type 0} (old new : Held L) → new.firsts ≡ old.firsts ++ None ∷ [] → IsNoneKept old new
none_last old new e p x at = elim (got_more old.firsts None p (Some x) (ap (λ l. slice_get l p) (sym e) ∙ at)) [
  | inl there ↦ there
  | inr last ↦ absurd (no_result last.1)
]
  where
    no_result : {A : Type 0} {y : A} → Some y ≡ None → ⊥
    no_result z = cc

-- a node that went last
module _ {L : Type 0} (writes : L → Grid) (side : ℕ) (old new : Held L) (x : Node) (p : ℕ) (pushed : IsPushed old new x p) where
  pub pushed_there : slice_get new.squares p ≡ Some x
  pushed_there = ap (λ s. slice_get s.squares p) pushed.whole ∙ ap (λ i. slice_get (with_node old x).squares i) pushed.place ∙ got_last old.squares x

  pub pushed_extends : Extends old new
  pushed_extends = subst (λ s. Extends old s) (sym pushed.whole) (extends_node old x)

  pub pushed_grown : (IsLeaf : L → Type 0) → IsStore writes side IsLeaf old → IsGrown writes side old new
  pushed_grown IsLeaf is = subst (λ s. IsGrown writes side old s) (sym pushed.whole) (grown_node writes side IsLeaf old is x)

  pub pushed_firsts : IsNoneKept old new
  pushed_firsts = none_last old new (ap (λ s. s.firsts) pushed.whole)

  pub pushed_added : (k : ℕ) (f : Grid) → IsAbsent writes side old k f → IsAdded writes side old new k f p
  pushed_added k f absent = Added absent pushed.place (ap (λ s. length s.squares) pushed.whole ∙ longer old.squares x)

-- a leaf that went last, and its square
module _ {L : Type 0} (writes : L → Grid) (side : ℕ) (old new : Held L) (l : L) (p : ℕ) (pushed : IsLeafPushed old new l p) where
  pub leaf_pushed_there : IsPlaceOfLeaf new l p
  leaf_pushed_there = (
    length old.leaves,
    ap (λ s. slice_get s.squares p) pushed.whole ∙ ap (λ i. slice_get (with_leaf old l).squares i) pushed.place ∙ got_last old.squares (Leaf (length old.leaves)),
    ap (λ s. slice_get s.leaves (length old.leaves)) pushed.whole ∙ got_last old.leaves l,
  )

  pub leaf_pushed_grown : (IsLeaf : L → Type 0) → IsStore writes side IsLeaf old → IsGrown writes side old new
  leaf_pushed_grown IsLeaf is = subst (λ s. IsGrown writes side old s) (sym pushed.whole) (grown_leaf writes side IsLeaf old is l)

  pub leaf_pushed_firsts : IsNoneKept old new
  leaf_pushed_firsts = none_last old new (ap (λ s. s.firsts) pushed.whole)

  pub leaf_pushed_added : (k : ℕ) (f : Grid) → IsAbsent writes side old k f → IsAdded writes side old new k f p
  leaf_pushed_added k f absent = Added absent pushed.place (ap (λ s. length s.squares) pushed.whole ∙ longer old.squares (Leaf (length old.leaves)))

-- a leaf that stood, or went last with its square
module _ {L : Type 0} (writes : L → Grid) (side : ℕ) (old new : Held L) (l : L) (p : ℕ) where
  pub entered_there : IsLeafEntered old new l p → IsPlaceOfLeaf new l p
  entered_there (LeafStood same there) = subst (λ s. IsPlaceOfLeaf s l p) (sym same) there
  entered_there (LeafAdded absent pushed) = leaf_pushed_there writes side old new l p pushed

  pub entered_firsts : IsLeafEntered old new l p → IsNoneKept old new
  entered_firsts (LeafStood same there) = subst (λ s. IsNoneKept old s) (sym same) (λ q x at. at)
  entered_firsts (LeafAdded absent pushed) = leaf_pushed_firsts writes side old new l p pushed

  pub entered_added : IsLeafEntered old new l p → (k : ℕ) (f : Grid) → (IsAbsentLeaf old l → IsAbsent writes side old k f) → IsAdded writes side old new k f p
  entered_added (LeafStood same there) k f absent_as = Stood same
  entered_added (LeafAdded absent pushed) k f absent_as = leaf_pushed_added writes side old new l p pushed k f (absent_as absent)

  pub entered_grown : IsLeafEntered old new l p → (IsLeaf : L → Type 0) → IsStore writes side IsLeaf old → IsGrown writes side old new
  entered_grown (LeafStood same there) IsLeaf is = subst (λ s. IsGrown writes side old s) (sym same) (record { room = refl; held = λ p h. h; stands = λ k p h. h; same = λ k p h. refl })
  entered_grown (LeafAdded absent pushed) IsLeaf is = leaf_pushed_grown writes side old new l p pushed IsLeaf is

-- what a fault that was passed on says
pub told : {A F : Type 0} (r : Result A F) (x y : F) → IsErrAnd r (λ e. e ≡ x) → r ≡ Err y → x ≡ y
told r x y h e = sym (subst (λ r. IsErrAnd r (λ e. e ≡ x)) e h)
