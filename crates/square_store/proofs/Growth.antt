-- A store with one more square.
use Rattle.std.proofs.Common.{◌≡◌, ℕ, zero, suc, ◌-◌, ◌<◌, ◌≤◌, List, [], ◌∷◌, ◌++◌, length, length-append, inl, inr, ◌⊎◌, refl, sym, ap, ◌∙◌, arith, subst}
use Rattle.std.specs.Prelude.{slice_get, Option, None, Some}
use Rattle.std.proofs.lemmas.Option.{slice_get_cases, slice_get_within}
use Rattle.std.proofs.lemmas.Bool.{cases_lt}
use Rattle.square_store.specs.declared.first_result.FirstResult.{FirstResult}
use Rattle.square_store.specs.declared.node.Node.{Node}
use Rattle.square_store.specs.declared.node.Node.TheVariants.{Blank, Leaf, Four}
use Rattle.square_store.specs.Grid.{Grid, quartered, IsSpeltWithin}
use Rattle.square_store.specs.Squares.{Held, side_at, HasLevel, IsAt, small_grid, large_grid, grid_at}
use Rattle.square_store.specs.Store.{HasParts, IsCanonical, IsStore, AreSummaries, IsGrown}
use Rattle.square_store.specs.Steps.{node_grid, IsBlankNode, IsAbsentNode, IsAbsentLeaf, IsWanted, IsSummed}
use Rattle.square_store.proofs.Lists.{got_append, got_last, got_more, got_back, once_more}
use Rattle.square_store.proofs.Places.{at_node, node_at, at_within, blank_writes, leaf_writes, four_writes, parts_below}

-- places keep what stands there
pub record Extends {L : Type 0} (old new : Held L) : Type 0 where
  pub leaves : (q : ℕ) (l : L) → slice_get old.leaves q ≡ Some l → slice_get new.leaves q ≡ Some l
  pub squares : (p : ℕ) (x : Node) → slice_get old.squares p ≡ Some x → slice_get new.squares p ≡ Some x

pub stays_at : {L : Type 0} (old new : Held L) → Extends old new → (k p : ℕ) → IsAt old k p → IsAt new k p
stays_at old new ext k p h = go (slice_get old.squares p) refl
  where
    go : (x : Option Node) → slice_get old.squares p ≡ x → IsAt new k p
    go None e = absurd (node_at old k p None e h)
    go (Some x) e = at_node new k p x (ext.squares p x e) (node_at old k p (Some x) e h)

pub parts_stay : {L : Type 0} (old new : Held L) → Extends old new → (k a b c d : ℕ) → HasParts old k a b c d → HasParts new k a b c d
parts_stay old new ext k a b c d h = record {
  level = h.level;
  nw = stays_at old new ext (k - 1) a h.nw;
  ne = stays_at old new ext (k - 1) b h.ne;
  sw = stays_at old new ext (k - 1) c h.sw;
  se = stays_at old new ext (k - 1) d h.se;
}

pub longer : {A : Type 0} (xs : List A) (x : A) → length (xs ++ x ∷ []) ≡ suc (length xs)
longer {A} xs x = omega (arith, length-append {A = A})

abbrev pub with_node : {L : Type 0} → Held L → Node → Held L
with_node s x = record { leaves = s.leaves; squares = s.squares ++ x ∷ []; firsts = s.firsts ++ None ∷ []; room = s.room }

abbrev pub with_leaf : {L : Type 0} → Held L → L → Held L
with_leaf s l = record { leaves = s.leaves ++ l ∷ []; squares = s.squares ++ Leaf (length s.leaves) ∷ []; firsts = s.firsts ++ None ∷ []; room = s.room }

pub extends_node : {L : Type 0} (s : Held L) (x : Node) → Extends s (with_node s x)
extends_node s x = record { leaves = λ q l at. at; squares = λ p y at. got_append s.squares (x ∷ []) p y at }

pub extends_leaf : {L : Type 0} (s : Held L) (l : L) → Extends s (with_leaf s l)
extends_leaf s l = record { leaves = λ q m at. got_append s.leaves (l ∷ []) q m at; squares = λ p y at. got_append s.squares (Leaf (length s.leaves) ∷ []) p y at }

module _ {L : Type 0} (writes : L → Grid) (side : ℕ) (IsLeaf : L → Type 0) (old : Held L) (can : IsCanonical writes side IsLeaf old) where
  -- the writes of what stood stay
  module _ (new : Held L) (ext : Extends old new) where
    leaf_same : (p q : ℕ) → slice_get old.squares p ≡ Some (Leaf q) → grid_at writes side new 0 p ≡ grid_at writes side old 0 p
    leaf_same p q e = elim ((slice_get_cases old.leaves q).1) [
      | inl c ↦ leaf_writes writes side new p q c.0 (ext.squares p (Leaf q) e) (ext.leaves q c.0 c.2) ∙ sym (leaf_writes writes side old p q c.0 e c.2)
      | inr c ↦ (let h = can.leaf_within p q e in absurd (omega (arith, c.0)))
    ]

    blank_same : (k p t : ℕ) → slice_get old.squares p ≡ Some (Blank t) → grid_at writes side new k p ≡ grid_at writes side old k p
    blank_same k p t e = blank_writes writes side new k p t (ext.squares p (Blank t) e) ∙ sym (blank_writes writes side old k p t e)

    same_small : (p : ℕ) (x : Option Node) → slice_get old.squares p ≡ x → HasLevel 0 x → grid_at writes side new 0 p ≡ grid_at writes side old 0 p
    same_small p None e h = absurd h
    same_small p (Some (Blank t)) e h = blank_same 0 p t e
    same_small p (Some (Leaf q)) e h = leaf_same p q e
    same_small p (Some (Four j a b c d)) e h = let parts = can.parts p j a b c d e in absurd (omega (arith, parts.level, h))

    four_same : (k a b c d : ℕ) → ((p : ℕ) → IsAt old k p → grid_at writes side new k p ≡ grid_at writes side old k p) → IsAt old k a × IsAt old k b × IsAt old k c × IsAt old k d
        → quartered (side_at side k) (grid_at writes side new k a) (grid_at writes side new k b) (grid_at writes side new k c) (grid_at writes side new k d)
        ≡ quartered (side_at side k) (grid_at writes side old k a) (grid_at writes side old k b) (grid_at writes side old k c) (grid_at writes side old k d)
    four_same k a b c d below parts = rw (below a parts.0, below b parts.1, below c parts.2, below d parts.3) refl

    same_large : (k p : ℕ) (x : Option Node) → slice_get old.squares p ≡ x → HasLevel (suc k) x → ((p : ℕ) → IsAt old k p → grid_at writes side new k p ≡ grid_at writes side old k p) → grid_at writes side new (suc k) p ≡ grid_at writes side old (suc k) p
    same_large k p None e h below = absurd h
    same_large k p (Some (Blank t)) e h below = blank_same (suc k) p t e
    same_large k p (Some (Leaf q)) e h below = absurd (omega (arith, h))
    same_large k p (Some (Four j a b c d)) e h below =
        four_writes writes side new k p j a b c d (ext.squares p (Four j a b c d) e)
        ∙ four_same k a b c d below (parts_below old k j a b c d (can.parts p j a b c d e) h)
        ∙ sym (four_writes writes side old k p j a b c d e)

    pub same_writes : (k p : ℕ) → IsAt old k p → grid_at writes side new k p ≡ grid_at writes side old k p
    same_writes zero p h = same_small p (slice_get old.squares p) refl (node_at old 0 p (slice_get old.squares p) refl h)
    same_writes (suc k) p h = same_large k p (slice_get old.squares p) refl (node_at old (suc k) p (slice_get old.squares p) refl h) (same_writes k)

  -- a square goes last
  module _ (x : Node) (absent : IsAbsentNode old x) (wanted : IsWanted old x) where
    wanted_as : (y : Node) → y ≡ x → IsWanted old y
    wanted_as y e = subst (λ (z : Node). IsWanted old z) (sym e) wanted

    node_parts : (p k a b c d : ℕ) → slice_get (old.squares ++ x ∷ []) p ≡ Some (Four k a b c d) → HasParts old k a b c d
    node_parts p k a b c d at = elim (got_more old.squares x p (Four k a b c d) at) [
      | inl there ↦ can.parts p k a b c d there
      | inr new ↦ (wanted_as (Four k a b c d) new.1).0
    ]

    node_four : (p k a b c d t : ℕ) → slice_get (old.squares ++ x ∷ []) p ≡ Some (Four k a b c d) → slice_get (old.squares ++ x ∷ []) a ≡ Some (Blank t) → b ≡ a → c ≡ a → d ≡ a → ⊥
    node_four p k a b c d t at blank eb ec ed =
        let parts = node_parts p k a b c d at in
        let there = got_back old.squares (x ∷ []) a (Blank t) (at_within old (k - 1) a parts.nw) blank in
        elim (got_more old.squares x p (Four k a b c d) at) [
          | inl stood ↦ can.four p k a b c d t stood there eb ec ed
          | inr new ↦ (wanted_as (Four k a b c d) new.1).1 (record { blank = subst IsBlankNode (sym there) tt; ne = eb; sw = ec; se = ed })
        ]

    pub canonical_node : IsCanonical writes side IsLeaf (with_node old x)
    canonical_node = record {
      once = once_more old.squares x can.once absent;
      leaf_once = can.leaf_once;
      leaf = can.leaf;
      spelt = can.spelt;
      named = λ q h. (let n = can.named q h in (n.0, got_append old.squares (x ∷ []) n.0 (Leaf q) n.1));
      leaf_within = λ p q at. elim (got_more old.squares x p (Leaf q) at) [
        | inl there ↦ can.leaf_within p q there
        | inr new ↦ absurd (wanted_as (Leaf q) new.1)
      ];
      parts = λ p k a b c d at. parts_stay old (with_node old x) (extends_node old x) k a b c d (node_parts p k a b c d at);
      four = node_four;
    }

    -- its writes are those of the node
    node_small : (y : Node) → IsWanted old y → HasLevel 0 (Some y) → small_grid writes (with_node old x).leaves (Some y) ≡ node_grid writes side old 0 (Some y)
    node_small y w h = refl

    node_large : (k : ℕ) (y : Node) → IsWanted old y → HasLevel (suc k) (Some y) → large_grid (side_at side k) (grid_at writes side (with_node old x) k) (Some y) ≡ node_grid writes side old (suc k) (Some y)
    node_large k (Blank t) w h = refl
    node_large k (Leaf q) w h = absurd w
    node_large k (Four j a b c d) w h = four_same (with_node old x) (extends_node old x) k a b c d (same_writes (with_node old x) (extends_node old x) k) (parts_below old k j a b c d w.0 h)

    pub node_writes : (k p : ℕ) → slice_get (with_node old x).squares p ≡ Some x → HasLevel k (Some x) → grid_at writes side (with_node old x) k p ≡ node_grid writes side old k (Some x)
    unfolding grid_at
    node_writes zero p e h = rw e (node_small x wanted h)
    node_writes (suc k) p e h = rw e (node_large k x wanted h)

  -- a leaf that is not there has no square yet
  pub absent_square : IsAbsentNode old (Leaf (length old.leaves))
  absent_square p at = let h = can.leaf_within p (length old.leaves) at in omega (arith, h)

  -- a leaf goes last, and its square
  module _ (l : L) (absent : IsAbsentLeaf old l) (leaf : IsLeaf l) (spelt : IsSpeltWithin side (writes l)) where
    old_or_leaf : (p : ℕ) (y : Node) → slice_get (with_leaf old l).squares p ≡ Some y → (slice_get old.squares p ≡ Some y) ⊎ ((p ≡ length old.squares) × (y ≡ Leaf (length old.leaves)))
    old_or_leaf p y at = got_more old.squares (Leaf (length old.leaves)) p y at

    leaf_parts : (p k a b c d : ℕ) → slice_get (with_leaf old l).squares p ≡ Some (Four k a b c d) → (slice_get old.squares p ≡ Some (Four k a b c d)) × HasParts old k a b c d
    leaf_parts p k a b c d at = elim (old_or_leaf p (Four k a b c d) at) [
      | inl there ↦ (there, can.parts p k a b c d there)
      | inr new ↦ absurd (other new.1)
    ]
      where
        other : Four k a b c d ≡ Leaf (length old.leaves) → ⊥
        other e = cc

    leaf_named : (q : ℕ) → q < length (with_leaf old l).leaves → (p : ℕ) × (slice_get (with_leaf old l).squares p ≡ Some (Leaf q))
    leaf_named q h = elim (cases_lt q (length old.leaves)) [
      | inl below ↦ (let n = can.named q below in (n.0, got_append old.squares (Leaf (length old.leaves) ∷ []) n.0 (Leaf q) n.1))
      | inr above ↦ (let e : length old.leaves ≡ q = omega (arith, longer old.leaves l) in (length old.squares, got_last old.squares (Leaf (length old.leaves)) ∙ ap (λ z. Some (Leaf z)) e))
    ]

    pub canonical_leaf : IsCanonical writes side IsLeaf (with_leaf old l)
    canonical_leaf = record {
      once = once_more old.squares (Leaf (length old.leaves)) can.once absent_square;
      leaf_once = once_more old.leaves l can.leaf_once absent;
      leaf = λ q m at. elim (got_more old.leaves l q m at) [
        | inl there ↦ can.leaf q m there
        | inr new ↦ subst (λ z. IsLeaf z) (sym new.1) leaf
      ];
      spelt = λ q m at. elim (got_more old.leaves l q m at) [
        | inl there ↦ can.spelt q m there
        | inr new ↦ subst (λ z. IsSpeltWithin side (writes z)) (sym new.1) spelt
      ];
      named = leaf_named;
      leaf_within = λ p q at. elim (old_or_leaf p (Leaf q) at) [
        | inl there ↦ (let h = can.leaf_within p q there in omega (arith, longer old.leaves l))
        | inr new ↦ (let e : q ≡ length old.leaves = same_leaf q new.1 in omega (arith, longer old.leaves l))
      ];
      parts = λ p k a b c d at. parts_stay old (with_leaf old l) (extends_leaf old l) k a b c d (leaf_parts p k a b c d at).1;
      four = λ p k a b c d t at blank. (let there = leaf_parts p k a b c d at in can.four p k a b c d t there.0 (got_back old.squares (Leaf (length old.leaves) ∷ []) a (Blank t) (at_within old (k - 1) a there.1.nw) blank));
    }
      where
        same_leaf : (q : ℕ) → Leaf q ≡ Leaf (length old.leaves) → q ≡ length old.leaves
        same_leaf q e = cc

-- a store that grew
module _ {L : Type 0} (writes : L → Grid) (side : ℕ) (IsLeaf : L → Type 0) (old : Held L) (is : IsStore writes side IsLeaf old) where
  pub grown : (new : Held L) → new.room ≡ old.room → length old.squares ≤ length new.squares → Extends old new → IsGrown writes side old new
  grown new room more ext = record {
    room = room;
    held = λ p h. omega (arith, h, more);
    stands = λ k p h. stays_at old new ext k p h;
    same = λ k p h. same_writes writes side IsLeaf old is.canonical new ext k p h;
  }

  pub grown_node : (x : Node) → IsGrown writes side old (with_node old x)
  grown_node x = grown (with_node old x) refl (omega (arith, longer old.squares x)) (extends_node old x)

  pub grown_leaf : (l : L) → IsGrown writes side old (with_leaf old l)
  grown_leaf l = grown (with_leaf old l) refl (omega (arith, longer old.squares (Leaf (length old.leaves)))) (extends_leaf old l)

  pub store_node : (x : Node) → IsAbsentNode old x → IsWanted old x → length old.squares < old.room → IsStore writes side IsLeaf (with_node old x)
  store_node x absent wanted room = record {
    canonical = canonical_node writes side IsLeaf old is.canonical x absent wanted;
    few_leaves = (let h = is.few_leaves in omega (arith, h, longer old.squares x));
    few_squares = omega (arith, room, longer old.squares x);
  }

  pub store_leaf : (l : L) → IsAbsentLeaf old l → IsLeaf l → IsSpeltWithin side (writes l) → length old.squares < old.room → IsStore writes side IsLeaf (with_leaf old l)
  store_leaf l absent leaf spelt room = record {
    canonical = canonical_leaf writes side IsLeaf old is.canonical l absent leaf spelt;
    few_leaves = (let h = is.few_leaves in omega (arith, h, longer old.leaves l, longer old.squares (Leaf (length old.leaves))));
    few_squares = omega (arith, room, longer old.squares (Leaf (length old.leaves)));
  }

  -- the summaries of what stood, and that of the new square
  module _ {S : Type 0} (IsSummary : ℕ → Grid → S → Type 0) (summaries : List S) (are : AreSummaries writes side IsSummary old summaries) where
    long : length summaries ≡ length old.squares
    long = are.as_many

    stood : (x : Node) (new : Held L) → new.squares ≡ old.squares ++ x ∷ [] → (k p : ℕ) → p < length old.squares → IsAt new k p → IsAt old k p
    stood x new e k p within h = go (slice_get new.squares p) refl
      where
        go : (y : Option Node) → slice_get new.squares p ≡ y → IsAt old k p
        go None f = absurd (node_at new k p None f h)
        go (Some y) f = at_node old k p y (got_back old.squares (x ∷ []) p y within (ap (λ l. slice_get l p) (sym e) ∙ f)) (node_at new k p (Some y) f h)

    summary_kept : (x : Node) (new : Held L) → Extends old new → new.squares ≡ old.squares ++ x ∷ [] → (k p : ℕ) (y : S) → IsAt new k p → slice_get summaries p ≡ Some y → IsSummary (side_at side k) (grid_at writes side new k p) y
    summary_kept x new ext e k p y h at =
        let within : p < length old.squares = (let w = slice_get_within summaries p y at in omega (arith, w, long)) in
        let there = stood x new e k p within h in
        subst (λ f. IsSummary (side_at side k) f y) (sym (same_writes writes side IsLeaf old is.canonical new ext k p there)) (are.each k p y there at)

    pub summaries_node : (x : Node) (summary : S) → IsAbsentNode old x → IsWanted old x → IsSummed writes side IsSummary old x summary → AreSummaries writes side IsSummary (with_node old x) (summaries ++ summary ∷ [])
    summaries_node x summary absent wanted summed = record {
      as_many = longer summaries summary ∙ ap suc long ∙ sym (longer old.squares x);
      each = λ k p y h at. elim (got_more summaries summary p y at) [
        | inl there ↦ summary_kept x (with_node old x) (extends_node old x) refl k p y h there
        | inr new ↦ (let e : p ≡ length old.squares = new.0 ∙ long in made k p y e new.1 h)
      ];
    }
      where
        made : (k p : ℕ) (y : S) → p ≡ length old.squares → y ≡ summary → IsAt (with_node old x) k p → IsSummary (side_at side k) (grid_at writes side (with_node old x) k p) y
        made k p y e f h =
            let there : slice_get (with_node old x).squares p ≡ Some x = ap (λ i. slice_get (old.squares ++ x ∷ []) i) e ∙ got_last old.squares x in
            let level = node_at (with_node old x) k p (Some x) there h in
            subst (λ z. IsSummary (side_at side k) (grid_at writes side (with_node old x) k p) z) (sym f)
            (subst (λ g. IsSummary (side_at side k) g summary) (sym (node_writes writes side IsLeaf old is.canonical x absent wanted k p there level)) (summed k level))

    pub summaries_leaf : (l : L) (summary : S) → IsSummary side (writes l) summary → AreSummaries writes side IsSummary (with_leaf old l) (summaries ++ summary ∷ [])
    summaries_leaf l summary summed = record {
      as_many = longer summaries summary ∙ ap suc long ∙ sym (longer old.squares (Leaf (length old.leaves)));
      each = λ k p y h at. elim (got_more summaries summary p y at) [
        | inl there ↦ summary_kept (Leaf (length old.leaves)) (with_leaf old l) (extends_leaf old l) refl k p y h there
        | inr new ↦ (let e : p ≡ length old.squares = new.0 ∙ long in made k p y e new.1 h)
      ];
    }
      where
        made : (k p : ℕ) (y : S) → p ≡ length old.squares → y ≡ summary → IsAt (with_leaf old l) k p → IsSummary (side_at side k) (grid_at writes side (with_leaf old l) k p) y
        made k p y e f h =
            let there : slice_get (with_leaf old l).squares p ≡ Some (Leaf (length old.leaves)) = ap (λ i. slice_get (with_leaf old l).squares i) e ∙ got_last old.squares (Leaf (length old.leaves)) in
            let level : k ≡ 0 = node_at (with_leaf old l) k p (Some (Leaf (length old.leaves))) there h in
            let whole : side_at side 0 ≡ side = omega arith in
            let w = leaf_writes writes side (with_leaf old l) p (length old.leaves) l there (got_last old.leaves l) in
            subst (λ z. IsSummary (side_at side k) (grid_at writes side (with_leaf old l) k p) z) (sym f)
            (subst (λ j. IsSummary (side_at side j) (grid_at writes side (with_leaf old l) j p) summary) (sym level)
            (subst (λ g. IsSummary (side_at side 0) g summary) (sym w) (subst (λ n. IsSummary n (writes l) summary) (sym whole) summed)))

-- the same store with other results
abbrev pub with_firsts : {L : Type 0} → Held L → List (Option FirstResult) → Held L
with_firsts s firsts = record { leaves = s.leaves; squares = s.squares; firsts = firsts; room = s.room }

module _ {L : Type 0} (writes : L → Grid) (side : ℕ) (IsLeaf : L → Type 0) (s : Held L) (is : IsStore writes side IsLeaf s) where
  extends_kept : (firsts : List (Option FirstResult)) → Extends s (with_firsts s firsts)
  extends_kept firsts = record { leaves = λ q l at. at; squares = λ p x at. at }

  pub kept_store : (firsts : List (Option FirstResult)) → IsStore writes side IsLeaf (with_firsts s firsts)
  kept_store firsts = record {
    canonical = record {
      once = is.canonical.once;
      leaf_once = is.canonical.leaf_once;
      leaf = is.canonical.leaf;
      spelt = is.canonical.spelt;
      named = is.canonical.named;
      leaf_within = is.canonical.leaf_within;
      parts = λ p k a b c d at. parts_stay s (with_firsts s firsts) (extends_kept firsts) k a b c d (is.canonical.parts p k a b c d at);
      four = is.canonical.four;
    };
    few_leaves = is.few_leaves;
    few_squares = is.few_squares;
  }

  pub kept_summaries : {S : Type 0} (IsSummary : ℕ → Grid → S → Type 0) (summaries : List S) → AreSummaries writes side IsSummary s summaries → (firsts : List (Option FirstResult)) → AreSummaries writes side IsSummary (with_firsts s firsts) summaries
  kept_summaries IsSummary summaries are firsts = record {
    as_many = are.as_many;
    each = λ k p x at there.
        (let stood = stays_at (with_firsts s firsts) s (record { leaves = λ q l at. at; squares = λ p x at. at }) k p at in
        subst (λ f. IsSummary (side_at side k) f x) (sym (same_writes writes side IsLeaf s is.canonical (with_firsts s firsts) (extends_kept firsts) k p stood)) (are.each k p x stood there));
  }

  pub kept_grown : (firsts : List (Option FirstResult)) → IsGrown writes side s (with_firsts s firsts)
  kept_grown firsts = grown writes side IsLeaf s is (with_firsts s firsts) refl (omega arith) (extends_kept firsts)
