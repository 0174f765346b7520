-- What a square is cut into, in a store that grows.
use Rattle.std.proofs.Common.{◌≡◌, ◌⊎◌, ℕ, List, zero, suc, ◌+◌, ◌-◌, ◌<◌, [], ◌∷◌, length, inl, inr, refl, sym, ap, subst, ◌∙◌, arith}
use Rattle.std.specs.Prelude.{slice_get, slice_index_or, Option, None, Some}
use Rattle.std.proofs.lemmas.Bool.{cases_lt}
use Rattle.square_store.specs.declared.node.Node.{Node}
use Rattle.square_store.specs.declared.node.Node.TheVariants.{Blank, Leaf, Four}
use Rattle.square_store.specs.Grid.{Grid, quartered, AreSameWithin}
use Rattle.square_store.specs.Squares.{Held, side_at, IsAt, grid_at, four_grid, Draws}
use Rattle.square_store.specs.Store.{IsStore, IsHeld, IsGrown, IsAdded, Stood, Added, IsAbsent, IsFullFor, IsOnePartEach}
use Rattle.square_store.specs.Pieces.{grid_from, IsQuarterCorner, IsPieceOfGrid, AddsPiecesOfGrid}
use Rattle.square_store.proofs.Quarters.{AreQuartersOf, quarters_of, twice, quarter_nw, quarter_ne, quarter_sw, quarter_se}
use Rattle.square_store.proofs.Places.{node_at, at_within, blank_at, blank_writes, four_writes, parts_below}
use Rattle.square_store.proofs.Drawn.{draws_later, draws_as, twice_below}

less : (k : ℕ) → suc k - 1 ≡ k
less k = omega arith

-- the corners of the four quarters
pub corner_nw : (n : ℕ) → IsQuarterCorner n 0 0
corner_nw n = record { left = inl refl; upper = inl refl }

pub corner_ne : (n : ℕ) → IsQuarterCorner n n 0
corner_ne n = record { left = inr refl; upper = inl refl }

pub corner_sw : (n : ℕ) → IsQuarterCorner n 0 n
corner_sw n = record { left = inl refl; upper = inr refl }

pub corner_se : (n : ℕ) → IsQuarterCorner n n n
corner_se n = record { left = inr refl; upper = inr refl }

-- one place of a grid
pub same_spot : (f : Grid) (x y z w : ℕ) → x ≡ z → y ≡ w → f x y ≡ f z w
same_spot f x y z w e g = ap (λ i. f i y) e ∙ ap (λ i. f z i) g

module _ {L : Type 0} (writes : L → Grid) (side : ℕ) where
  -- a column of a quarter is one of the whole
  within : (k x u : ℕ) → (x ≡ 0) ⊎ (x ≡ side_at side k) → u < side_at side k → x + u < side_at side (suc k)
  within k x u (inl e) h = omega (arith, e, h, twice side k)
  within k x u (inr e) h = omega (arith, e, h, twice side k)

  from_as : (k column row : ℕ) (f g : Grid) → IsQuarterCorner (side_at side k) column row → AreSameWithin (side_at side (suc k)) f g → AreSameWithin (side_at side k) (grid_from column row f) (grid_from column row g)
  from_as k column row f g corner same u v hu hv = same (column + u) (row + v) (within k column u corner.left hu) (within k row v corner.upper hv)

  -- ---- pieces

  pub piece_itself : (s : Held L) (k : ℕ) (f : Grid) (q : ℕ) → Draws writes side s k f q → IsPieceOfGrid writes side s k f q
  unfolding IsPieceOfGrid
  piece_itself s zero f q drawn = drawn
  piece_itself s (suc k) f q drawn = inl drawn

  -- a piece of a quarter is a piece of the whole
  pub piece_of_quarter : (s : Held L) (k column row : ℕ) (f : Grid) (q : ℕ) → 0 < k → IsQuarterCorner (side_at side (k - 1)) column row → IsPieceOfGrid writes side s (k - 1) (grid_from column row f) q → IsPieceOfGrid writes side s k f q
  unfolding IsPieceOfGrid
  piece_of_quarter s zero column row f q some corner piece = absurd (omega (arith, some))
  piece_of_quarter s (suc k) column row f q some corner piece = inr (column, (row, (subst (λ j. IsQuarterCorner (side_at side j) column row) (less k) corner, subst (λ j. IsPieceOfGrid writes side s j (grid_from column row f) q) (less k) piece)))

  -- a piece is one in a store that grew
  pub piece_later : (s t : Held L) → IsGrown writes side s t → (k : ℕ) (f : Grid) (q : ℕ) → IsPieceOfGrid writes side s k f q → IsPieceOfGrid writes side t k f q
  unfolding IsPieceOfGrid
  piece_later s t grown zero f q piece = draws_later writes side s t 0 f q grown piece
  piece_later s t grown (suc k) f q piece = elim piece [
    | inl drawn ↦ inl (draws_later writes side s t (suc k) f q grown drawn)
    | inr below ↦ inr (below.0, (below.1.0, (below.1.1.0, piece_later s t grown k (grid_from below.0 below.1.0 f) q below.1.1.1)))
  ]

  -- a piece is one of any square with the same writes
  pub piece_as : (s : Held L) (k : ℕ) (f g : Grid) (q : ℕ) → AreSameWithin (side_at side k) f g → IsPieceOfGrid writes side s k f q → IsPieceOfGrid writes side s k g q
  unfolding IsPieceOfGrid
  piece_as s zero f g q same piece = draws_as writes side s 0 f g q same piece
  piece_as s (suc k) f g q same piece = elim piece [
    | inl drawn ↦ inl (draws_as writes side s (suc k) f g q same drawn)
    | inr below ↦ inr (below.0, (below.1.0, (below.1.1.0, piece_as s k (grid_from below.0 below.1.0 f) (grid_from below.0 below.1.0 g) q (from_as k below.0 below.1.0 f g below.1.1.0 same) below.1.1.1)))
  ]

  -- ---- what is added

  pub adds_none : (s : Held L) (k : ℕ) (f : Grid) → AddsPiecesOfGrid writes side s s k f
  adds_none s k f q held = inl held

  pub adds_unchanged : (old new : Held L) → new ≡ old → (k : ℕ) (f : Grid) → AddsPiecesOfGrid writes side old new k f
  adds_unchanged old new e k f q held = inl (subst (λ s. IsHeld s q) e held)

  pub adds_as : (old new : Held L) (k : ℕ) (f g : Grid) → AreSameWithin (side_at side k) f g → AddsPiecesOfGrid writes side old new k f → AddsPiecesOfGrid writes side old new k g
  adds_as old new k f g same adds q held = elim (adds q held) [
    | inl there ↦ inl there
    | inr piece ↦ inr (piece_as new k f g q same piece)
  ]

  -- pieces that were added in two steps
  pub adds_more : (s t r : Held L) (k : ℕ) (f : Grid) → IsGrown writes side t r → AddsPiecesOfGrid writes side s t k f → AddsPiecesOfGrid writes side t r k f → AddsPiecesOfGrid writes side s r k f
  adds_more s t r k f grown first second q held = elim (second q held) [
    | inr piece ↦ inr piece
    | inl there ↦ elim (first q there) [
      | inl before ↦ inl before
      | inr piece ↦ inr (piece_later t r grown k f q piece)
    ]
  ]

  -- the square itself
  pub adds_itself : (old new : Held L) (k : ℕ) (f g : Grid) (p : ℕ) → Draws writes side new k g p → IsAdded writes side old new k f p → AddsPiecesOfGrid writes side old new k g
  adds_itself old new k f g p drawn (Stood e) q held = inl (subst (λ s. IsHeld s q) e held)
  adds_itself old new k f g p drawn (Added absent place more) q held = elim (cases_lt q (length old.squares)) [
    | inl below ↦ inl below
    | inr above ↦ (let e : p ≡ q = omega (arith, held, more, place, above) in inr (subst (λ i. IsPieceOfGrid writes side new k g i) e (piece_itself new k g p drawn)))
  ]

  -- pieces of a quarter
  pub adds_quarter : (old new : Held L) (k column row : ℕ) (a f : Grid) → 0 < k → IsQuarterCorner (side_at side (k - 1)) column row → AreSameWithin (side_at side (k - 1)) a (grid_from column row f) → AddsPiecesOfGrid writes side old new (k - 1) a → AddsPiecesOfGrid writes side old new k f
  adds_quarter old new k column row a f some corner same adds q held = elim (adds q held) [
    | inl there ↦ inl there
    | inr piece ↦ inr (piece_of_quarter new k column row f q some corner (piece_as new (k - 1) a (grid_from column row f) q same piece))
  ]

  -- ---- the whole, by its quarters

  pub four_as : (s : Held L) (k a b c d : ℕ) (g : Grid) → 0 < k → (n : ℕ) → n ≡ side_at side (k - 1)
      → AreSameWithin (side_at side (k - 1)) (grid_at writes side s (k - 1) a) (grid_from 0 0 g) → AreSameWithin (side_at side (k - 1)) (grid_at writes side s (k - 1) b) (grid_from n 0 g)
      → AreSameWithin (side_at side (k - 1)) (grid_at writes side s (k - 1) c) (grid_from 0 n g) → AreSameWithin (side_at side (k - 1)) (grid_at writes side s (k - 1) d) (grid_from n n g)
      → AreSameWithin (side_at side k) (four_grid writes side s (k - 1) (a ∷ b ∷ c ∷ d ∷ [])) g
  four_as s k a b c d g some n is ea eb ec ed u v hu hv =
      let below : (m : ℕ) → m < n → m < side_at side (k - 1) = λ m h. omega (arith, h, is) in
      let fa = grid_at writes side s (k - 1) a in
      let fb = grid_at writes side s (k - 1) b in
      let fc = grid_at writes side s (k - 1) c in
      let fd = grid_at writes side s (k - 1) d in
      let whole = quartered n fa fb fc fd in
      let wide = twice_below side k some in
      ap (λ m. quartered m fa fb fc fd u v) (sym is) ∙ elim (cases_lt v n) [
        | inl top ↦ elim (cases_lt u n) [
          | inl left ↦ quarter_nw n fa fb fc fd u v left top ∙ ea u v (below u left) (below v top) ∙ same_spot g (0 + u) (0 + v) u v (omega arith) (omega arith)
          | inr right ↦ (let e : n + (u - n) ≡ u = omega (arith, right) in
              same_spot whole u v (n + (u - n)) v (sym e) refl ∙ quarter_ne n fa fb fc fd (u - n) v top ∙ eb (u - n) v (omega (arith, hu, right, is, wide)) (below v top) ∙ same_spot g (n + (u - n)) (0 + v) u v e (omega arith))
        ]
        | inr bottom ↦ (let h : n + (v - n) ≡ v = omega (arith, bottom) in let low : v - n < side_at side (k - 1) = omega (arith, hv, bottom, is, wide) in elim (cases_lt u n) [
          | inl left ↦ same_spot whole u v u (n + (v - n)) refl (sym h) ∙ quarter_sw n fa fb fc fd u (v - n) left ∙ ec u (v - n) (below u left) low ∙ same_spot g (0 + u) (n + (v - n)) u v (omega arith) h
          | inr right ↦ (let e : n + (u - n) ≡ u = omega (arith, right) in
              same_spot whole u v (n + (u - n)) (n + (v - n)) (sym e) (sym h) ∙ quarter_se n fa fb fc fd (u - n) (v - n) ∙ ed (u - n) (v - n) (omega (arith, hu, right, is, wide)) low ∙ same_spot g (n + (u - n)) (n + (v - n)) u v e h)
        ])
      ]

  -- ---- the quarters, by the parts of a square of four

  module _ (s : Held L) (k : ℕ) (parts : List ℕ) (f : Grid) (some : 0 < k) (same : AreSameWithin (side_at side k) (four_grid writes side s (k - 1) parts) f) where
    part : ℕ → Grid
    part i = grid_at writes side s (k - 1) (slice_index_or parts i 0)

    cut : AreQuartersOf (side_at side (k - 1)) (part 0) (part 1) (part 2) (part 3) f
    unfolding part
    cut = quarters_of (side_at side (k - 1)) (part 0) (part 1) (part 2) (part 3) f (λ u v hu hv. same u v (omega (arith, hu, twice_below side k some)) (omega (arith, hv, twice_below side k some)))

    pub part_nw : AreSameWithin (side_at side (k - 1)) (grid_at writes side s (k - 1) (slice_index_or parts 0 0)) (grid_from 0 0 f)
    unfolding part
    part_nw u v hu hv = cut.nw u v hu hv ∙ same_spot f u v (0 + u) (0 + v) (omega arith) (omega arith)

    pub part_ne : AreSameWithin (side_at side (k - 1)) (grid_at writes side s (k - 1) (slice_index_or parts 1 0)) (grid_from (side_at side (k - 1)) 0 f)
    unfolding part
    part_ne u v hu hv = cut.ne u v hu hv ∙ same_spot f (side_at side (k - 1) + u) v (side_at side (k - 1) + u) (0 + v) refl (omega arith)

    pub part_sw : AreSameWithin (side_at side (k - 1)) (grid_at writes side s (k - 1) (slice_index_or parts 2 0)) (grid_from 0 (side_at side (k - 1)) f)
    unfolding part
    part_sw u v hu hv = cut.sw u v hu hv ∙ same_spot f u (side_at side (k - 1) + v) (0 + u) (side_at side (k - 1) + v) (omega arith) refl

    pub part_se : AreSameWithin (side_at side (k - 1)) (grid_at writes side s (k - 1) (slice_index_or parts 3 0)) (grid_from (side_at side (k - 1)) (side_at side (k - 1)) f)
    unfolding part
    part_se u v hu hv = cut.se u v hu hv

  -- ---- a square that stands, by its quarters

  -- the quarters of a square of four
  four_drawn : (s : Held L) (k p j a b c d column row : ℕ) (f : Grid) → slice_get s.squares p ≡ Some (Four j a b c d) → IsAt s k a × IsAt s k b × IsAt s k c × IsAt s k d
      → IsQuarterCorner (side_at side k) column row → Draws writes side s (suc k) f p → (q : ℕ) × Draws writes side s k (grid_from column row f) q
  four_drawn s k p j a b c d column row f e parts corner drawn = go corner.left corner.upper
    where
      read : (x y u v : ℕ) → x ≡ column + u → y ≡ row + v → u < side_at side k → v < side_at side k → quartered (side_at side k) (grid_at writes side s k a) (grid_at writes side s k b) (grid_at writes side s k c) (grid_at writes side s k d) x y ≡ f (column + u) (row + v)
      read x y u v ex ey hu hv =
          same_spot (quartered (side_at side k) (grid_at writes side s k a) (grid_at writes side s k b) (grid_at writes side s k c) (grid_at writes side s k d)) x y (column + u) (row + v) ex ey
          ∙ sym (ap (λ (g : Grid). g (column + u) (row + v)) (four_writes writes side s k p j a b c d e))
          ∙ drawn.same (column + u) (row + v) (within k column u corner.left hu) (within k row v corner.upper hv)

      go : (column ≡ 0) ⊎ (column ≡ side_at side k) → (row ≡ 0) ⊎ (row ≡ side_at side k) → (q : ℕ) × Draws writes side s k (grid_from column row f) q
      go (inl x) (inl y) = (
        a,
        record {
          stands = parts.0;
          same = λ u v hu hv. sym (quarter_nw (side_at side k) (grid_at writes side s k a) (grid_at writes side s k b) (grid_at writes side s k c) (grid_at writes side s k d) u v hu hv) ∙ read u v u v (omega (arith, x)) (omega (arith, y)) hu hv;
        },
      )
      go (inr x) (inl y) = (
        b,
        record {
          stands = parts.1;
          same = λ u v hu hv. sym (quarter_ne (side_at side k) (grid_at writes side s k a) (grid_at writes side s k b) (grid_at writes side s k c) (grid_at writes side s k d) u v hv) ∙ read (side_at side k + u) v u v (omega (arith, x)) (omega (arith, y)) hu hv;
        },
      )
      go (inl x) (inr y) = (
        c,
        record {
          stands = parts.2;
          same = λ u v hu hv. sym (quarter_sw (side_at side k) (grid_at writes side s k a) (grid_at writes side s k b) (grid_at writes side s k c) (grid_at writes side s k d) u v hu) ∙ read u (side_at side k + v) u v (omega (arith, x)) (omega (arith, y)) hu hv;
        },
      )
      go (inr x) (inr y) = (
        d,
        record {
          stands = parts.3;
          same = λ u v hu hv. sym (quarter_se (side_at side k) (grid_at writes side s k a) (grid_at writes side s k b) (grid_at writes side s k c) (grid_at writes side s k d) u v) ∙ read (side_at side k + u) (side_at side k + v) u v (omega (arith, x)) (omega (arith, y)) hu hv;
        },
      )

  module _ (IsLeaf : L → Type 0) (s : Held L) (is : IsStore writes side IsLeaf s) where
    -- where a square stands, so do its quarters
    quarter_drawn : (k column row : ℕ) (f : Grid) (p : ℕ) → IsQuarterCorner (side_at side k) column row → Draws writes side s (suc k) f p → (q : ℕ) × Draws writes side s k (grid_from column row f) q
    quarter_drawn k column row f p corner drawn = go (slice_get s.squares p) refl
      where
        go : (x : Option Node) → slice_get s.squares p ≡ x → (q : ℕ) × Draws writes side s k (grid_from column row f) q
        go None e = absurd (node_at s (suc k) p None e drawn.stands)
        go (Some (Leaf q)) e = let level = node_at s (suc k) p (Some (Leaf q)) e drawn.stands in absurd (omega (arith, level))
        go (Some (Blank t)) e = (
          p,
          record {
            stands = blank_at writes side s k p t e;
            same = λ u v hu hv. ap (λ (g : Grid). g u v) (blank_writes writes side s k p t e)
                ∙ sym (ap (λ (g : Grid). g (column + u) (row + v)) (blank_writes writes side s (suc k) p t e))
                ∙ drawn.same (column + u) (row + v) (within k column u corner.left hu) (within k row v corner.upper hv);
          },
        )
        go (Some (Four j a b c d)) e =
            let level : suc k ≡ j = node_at s (suc k) p (Some (Four j a b c d)) e drawn.stands in
            four_drawn s k p j a b c d column row f e (parts_below s k j a b c d (is.canonical.parts p j a b c d e) level) corner drawn

    -- where a quarter is absent, so is the whole
    pub absent_quarter : (k column row : ℕ) (a f : Grid) → 0 < k → IsQuarterCorner (side_at side (k - 1)) column row → AreSameWithin (side_at side (k - 1)) a (grid_from column row f) → IsAbsent writes side s (k - 1) a → IsAbsent writes side s k f
    absent_quarter zero column row a f some corner same absent p drawn = absurd (omega (arith, some))
    absent_quarter (suc k) column row a f some corner same absent p drawn =
        let quarter = quarter_drawn k column row f p (subst (λ j. IsQuarterCorner (side_at side j) column row) (less k) corner) drawn in
        let there = subst (λ j. Draws writes side s j (grid_from column row f) quarter.0) (sym (less k)) quarter.1 in
        absent quarter.0 (draws_as writes side s (suc k - 1) (grid_from column row f) a quarter.0 (λ u v hu hv. sym (same u v hu hv)) there)

    pub full_quarter : (k column row : ℕ) (a f : Grid) → 0 < k → IsQuarterCorner (side_at side (k - 1)) column row → AreSameWithin (side_at side (k - 1)) a (grid_from column row f) → IsFullFor writes side s (k - 1) a → IsFullFor writes side s k f
    full_quarter k column row a f some corner same full = record { full = full.full; absent = absent_quarter k column row a f some corner same full.absent }

    itself : (t : Held L) → IsGrown writes side s t → IsOnePartEach writes side t → (k : ℕ) (f : Grid) (p q : ℕ) → Draws writes side s k f p → Draws writes side t k f q → IsHeld s q
    itself t grown one k f p q drawn there =
        let later = draws_later writes side s t k f p grown drawn in
        subst (λ i. IsHeld s i) (one k p q later.stands there.stands (λ u v hu hv. later.same u v hu hv ∙ sym (there.same u v hu hv))) (at_within s k p drawn.stands)

    -- the pieces of a square that stands stand
    pub piece_stands : (t : Held L) → IsGrown writes side s t → IsOnePartEach writes side t → (k : ℕ) (f : Grid) (p q : ℕ) → Draws writes side s k f p → IsPieceOfGrid writes side t k f q → IsHeld s q
    unfolding IsPieceOfGrid
    piece_stands t grown one zero f p q drawn piece = itself t grown one 0 f p q drawn piece
    piece_stands t grown one (suc k) f p q drawn piece = elim piece [
      | inl whole ↦ itself t grown one (suc k) f p q drawn whole
      | inr below ↦ (let quarter = quarter_drawn k below.0 below.1.0 f p below.1.1.0 drawn in
          piece_stands t grown one k (grid_from below.0 below.1.0 f) quarter.0 q quarter.1 below.1.1.1)
    ]

    -- where the square that is wanted stands, nothing is added
    pub adds_nothing : (t : Held L) → IsGrown writes side s t → IsOnePartEach writes side t → (k : ℕ) (f : Grid) (p : ℕ) → Draws writes side s k f p → AddsPiecesOfGrid writes side s t k f → length t.squares ≡ length s.squares
    adds_nothing t grown one k f p drawn adds = elim (cases_lt (length s.squares) (length t.squares)) [
      | inl more ↦ (let there = before (length s.squares) more in absurd (omega (arith, there)))
      | inr few ↦ elim (cases_lt (length t.squares) (length s.squares)) [
        | inl fewer ↦ (let still = grown.held (length t.squares) fewer in absurd (omega (arith, still)))
        | inr same ↦ omega (arith, few, same)
      ]
    ]
      where
        before : (q : ℕ) → IsHeld t q → IsHeld s q
        before q held = elim (adds q held) [
          | inl there ↦ there
          | inr piece ↦ piece_stands t grown one k f p q drawn piece
        ]

  -- what is absent was absent before
  pub absent_before : (s t : Held L) (k : ℕ) (f : Grid) → IsGrown writes side s t → IsAbsent writes side t k f → IsAbsent writes side s k f
  absent_before s t k f grown absent p drawn = absent p (draws_later writes side s t k f p grown drawn)
