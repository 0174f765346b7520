-- Squares that stand in two stores, what a square is cut into, and how many squares a store then holds at least.
use Rattle.std.proofs.Common.{◌≡◌, ℕ, zero, suc, ◌+◌, ◌-◌, ◌<◌, ◌≤◌, ◌⊎◌, Bool, true, false, List, [], ◌∷◌, length, inl, inr, refl, sym, ap, subst, ◌∙◌, arith}
use Rattle.std.specs.Prelude.{slice_get, Option, None, Some, eqb, ◌||◌}
use Rattle.std.specs.List.{AllByRecursion, IsDistinct, list_any}
use Rattle.std.proofs.lemmas.Bool.{cases_lt}
use Rattle.std.proofs.lemmas.Map.Keys.{IsDistinct-cons}
use Rattle.std.proofs.lemmas.Map.Steps.{length-le_from_distinct_below}
use Rattle.square_store.specs.declared.node.Node.{Node}
use Rattle.square_store.specs.declared.node.Node.TheVariants.{Blank, Leaf, Four}
use Rattle.square_store.specs.Grid.{Grid, blank_grid, quartered, AreSameWithin}
use Rattle.square_store.specs.Squares.{Held, side_at, grid_at, Draws}
use Rattle.square_store.specs.Store.{IsHeld, IsCanonical, IsGrown, IsAbsent, IsAdded, Stood, Added, IsFullFor, IsOnePartEach}
use Rattle.square_store.specs.Pieces.{grid_from, IsQuarterCorner, IsPieceOfGrid, AddsPiecesOfGrid}
use Rattle.square_store.proofs.Nodes.{nat_same}
use Rattle.square_store.proofs.Places.{node_at, at_within, blank_writes, four_writes, parts_below, blank_place}
use Rattle.square_store.proofs.Quarters.{twice, quarters_of}
use Rattle.square_store.proofs.Made.{blank_draws}
use Rattle.square_store.proofs.Drawn.{draws_as, draws_later}

-- a square of some level stands at p in the one store, and the same at q in the other
pub record IsShared {L : Type 0} (writes : L → Grid) (side : ℕ) (s other : Held L) (p q : ℕ) : Type 0 where
  pub level : ℕ
  pub grid : Grid
  pub here : Draws writes side s level grid p
  pub there : Draws writes side other level grid q

-- each square of the one store stands in the other too
abbrev pub AreShared : {L : Type 0} → (L → Grid) → ℕ → (s other : Held L) → Type 0
AreShared writes side s other = (p : ℕ) → IsHeld s p → (q : ℕ) × IsShared writes side s other p q

-- ---- pieces

pub moved_grid : (f : Grid) (u v x y : ℕ) → u ≡ x → v ≡ y → f u v ≡ f x y
moved_grid f u v x y eu ev = ap (λ z. f z v) eu ∙ ap (λ z. f x z) ev

-- a quarter's column or row is one of the whole
pub in_whole : (side k column u : ℕ) → (column ≡ 0) ⊎ (column ≡ side_at side k) → u < side_at side k → column + u < side_at side (suc k)
in_whole side k column u corner h = elim corner [
  | inl e ↦ omega (arith, e, h, twice side k)
  | inr e ↦ omega (arith, e, h, twice side k)
]

pub quarter_same : (side k column row : ℕ) (f g : Grid) → IsQuarterCorner (side_at side k) column row → AreSameWithin (side_at side (suc k)) f g → AreSameWithin (side_at side k) (grid_from column row f) (grid_from column row g)
quarter_same side k column row f g corner same u v hu hv = same (column + u) (row + v) (in_whole side k column u corner.left hu) (in_whole side k row v corner.upper hv)

module _ {L : Type 0} (writes : L → Grid) (side : ℕ) where
  pub piece_itself : (s : Held L) (k : ℕ) (f : Grid) (q : ℕ) → Draws writes side s k f q → IsPieceOfGrid writes side s k f q
  unfolding IsPieceOfGrid
  piece_itself s zero f q drawn = drawn
  piece_itself s (suc k) f q drawn = inl drawn

  pub piece_below : (s : Held L) (k : ℕ) (f : Grid) (q column row : ℕ) → IsQuarterCorner (side_at side k) column row → IsPieceOfGrid writes side s k (grid_from column row f) q → IsPieceOfGrid writes side s (suc k) f q
  unfolding IsPieceOfGrid
  piece_below s k f q column row corner piece = inr (column, (row, (corner, piece)))

  pub piece_as : (s : Held L) (k : ℕ) (f g : Grid) (q : ℕ) → AreSameWithin (side_at side k) f g → IsPieceOfGrid writes side s k f q → IsPieceOfGrid writes side s k g q
  unfolding IsPieceOfGrid
  piece_as s zero f g q same piece = draws_as writes side s 0 f g q same piece
  piece_as s (suc k) f g q same piece = elim piece [
    | inl drawn ↦ inl (draws_as writes side s (suc k) f g q same drawn)
    | inr b ↦ inr (b.0, (b.1.0, (b.1.1.0, piece_as s k (grid_from b.0 b.1.0 f) (grid_from b.0 b.1.0 g) q (quarter_same side k b.0 b.1.0 f g b.1.1.0 same) b.1.1.1)))
  ]

  pub piece_later : (s t : Held L) (k : ℕ) (f : Grid) (q : ℕ) → IsGrown writes side s t → IsPieceOfGrid writes side s k f q → IsPieceOfGrid writes side t k f q
  unfolding IsPieceOfGrid
  piece_later s t zero f q grown piece = draws_later writes side s t 0 f q grown piece
  piece_later s t (suc k) f q grown piece = elim piece [
    | inl drawn ↦ inl (draws_later writes side s t (suc k) f q grown drawn)
    | inr b ↦ inr (b.0, (b.1.0, (b.1.1.0, piece_later s t k (grid_from b.0 b.1.0 f) q grown b.1.1.1)))
  ]

  -- ---- what a store holds more than before

  pub adds_nothing : (s t : Held L) (k : ℕ) (f : Grid) → t ≡ s → AddsPiecesOfGrid writes side s t k f
  adds_nothing s t k f e q held = inl (subst (λ (r : Held L). IsHeld r q) e held)

  pub adds_more : (s t r : Held L) (k : ℕ) (f : Grid) → IsGrown writes side t r → AddsPiecesOfGrid writes side s t k f → AddsPiecesOfGrid writes side t r k f → AddsPiecesOfGrid writes side s r k f
  adds_more s t r k f grown first then q held = elim (then q held) [
    | inl before ↦ elim (first q before) [
      | inl old ↦ inl old
      | inr piece ↦ inr (piece_later t r k f q grown piece)
    ]
    | inr piece ↦ inr piece
  ]

  pub adds_as : (s t : Held L) (k : ℕ) (f g : Grid) → AreSameWithin (side_at side k) f g → AddsPiecesOfGrid writes side s t k f → AddsPiecesOfGrid writes side s t k g
  adds_as s t k f g same adds q held = elim (adds q held) [
    | inl old ↦ inl old
    | inr piece ↦ inr (piece_as t k f g q same piece)
  ]

  pub adds_quarter : (s t : Held L) (k : ℕ) (f : Grid) (column row : ℕ) → IsQuarterCorner (side_at side k) column row → AddsPiecesOfGrid writes side s t k (grid_from column row f) → AddsPiecesOfGrid writes side s t (suc k) f
  adds_quarter s t k f column row corner adds q held = elim (adds q held) [
    | inl old ↦ inl old
    | inr piece ↦ inr (piece_below t k f q column row corner piece)
  ]

  -- the same of a level that is told by its number
  pub adds_quarter_of : (s t : Held L) (k : ℕ) (f : Grid) (column row : ℕ) → 0 < k → IsQuarterCorner (side_at side (k - 1)) column row → AddsPiecesOfGrid writes side s t (k - 1) (grid_from column row f) → AddsPiecesOfGrid writes side s t k f
  adds_quarter_of s t k f column row above corner adds =
      let e : suc (k - 1) ≡ k = omega (arith, above) in
      subst (λ j. AddsPiecesOfGrid writes side s t j f) e (adds_quarter s t (k - 1) f column row corner adds)

  -- what was added is the square itself
  pub adds_one : (s t : Held L) (j k : ℕ) (g f : Grid) (p : ℕ) → IsAdded writes side s t j g p → Draws writes side t k f p → AddsPiecesOfGrid writes side s t k f
  adds_one s t j k g f p (Stood e) drawn = adds_nothing s t k f e
  adds_one s t j k g f p (Added absent place more) drawn = λ q held. elim (cases_lt q (length s.squares)) [
    | inl old ↦ inl old
    | inr last ↦ (let e : p ≡ q = omega (arith, held, last, place, more) in inr (piece_itself t k f q (subst (λ r. Draws writes side t k f r) e drawn)))
  ]

  pub absent_as : (s : Held L) (k : ℕ) (f g : Grid) → AreSameWithin (side_at side k) f g → IsAbsent writes side s k f → IsAbsent writes side s k g
  absent_as s k f g same absent p drawn = absent p (draws_as writes side s k g f p (λ u v hu hv. sym (same u v hu hv)) drawn)

-- ---- a store that draws a square draws what it is cut into

module _ {L : Type 0} (writes : L → Grid) (side : ℕ) (IsLeaf : L → Type 0) (other : Held L) (can : IsCanonical writes side IsLeaf other) where
  pub quarter_drawn : (k p column row : ℕ) (f : Grid) → IsQuarterCorner (side_at side k) column row → Draws writes side other (suc k) f p → (q : ℕ) × Draws writes side other k (grid_from column row f) q
  quarter_drawn k p column row f corner drawn = go (slice_get other.squares p) refl
    where
      go : (x : Option Node) → slice_get other.squares p ≡ x → (q : ℕ) × Draws writes side other k (grid_from column row f) q
      go None e = absurd (node_at other (suc k) p None e drawn.stands)
      go (Some (Blank t)) e = (
        p,
        draws_as writes side other k (blank_grid t) (grid_from column row f) p
            (λ u v hu hv. sym (ap (λ (g : Grid). g (column + u) (row + v)) (blank_writes writes side other (suc k) p t e)) ∙ drawn.same (column + u) (row + v) (in_whole side k column u corner.left hu) (in_whole side k row v corner.upper hv))
            (blank_draws writes side other p t e k),
      )
      go (Some (Leaf m)) e = let level = node_at other (suc k) p (Some (Leaf m)) e drawn.stands in absurd (omega (arith, level))
      go (Some (Four j a b c d)) e =
          let n = side_at side k in
          let parts = parts_below other k j a b c d (can.parts p j a b c d e) (node_at other (suc k) p (Some (Four j a b c d)) e drawn.stands) in
          let w = four_writes writes side other k p j a b c d e in
          let at = λ (q : ℕ). grid_at writes side other k q in
          let each = quarters_of n (at a) (at b) (at c) (at d) f (λ u v hu hv. sym (ap (λ (g : Grid). g u v) w) ∙ drawn.same u v (omega (arith, twice side k, hu)) (omega (arith, twice side k, hv))) in
          elim corner.left [
            | inl left ↦ elim corner.upper [
              | inl top ↦ (a, record { stands = parts.0; same = λ u v hu hv. each.nw u v hu hv ∙ moved_grid f u v (column + u) (row + v) (omega (arith, left)) (omega (arith, top)) })
              | inr bottom ↦ (c, record { stands = parts.2; same = λ u v hu hv. each.sw u v hu hv ∙ moved_grid f u (n + v) (column + u) (row + v) (omega (arith, left)) (omega (arith, bottom)) })
            ]
            | inr right ↦ elim corner.upper [
              | inl top ↦ (b, record { stands = parts.1; same = λ u v hu hv. each.ne u v hu hv ∙ moved_grid f (n + u) v (column + u) (row + v) (omega (arith, right)) (omega (arith, top)) })
              | inr bottom ↦ (d, record { stands = parts.3; same = λ u v hu hv. each.se u v hu hv ∙ moved_grid f (n + u) (n + v) (column + u) (row + v) (omega (arith, right)) (omega (arith, bottom)) })
            ]
          ]

  -- a store without a quarter is without the whole
  pub absent_quarter : (k column row : ℕ) (f : Grid) → IsQuarterCorner (side_at side k) column row → IsAbsent writes side other k (grid_from column row f) → IsAbsent writes side other (suc k) f
  absent_quarter k column row f corner absent p drawn = let quarter = quarter_drawn k p column row f corner drawn in absent quarter.0 quarter.1

  pub absent_quarter_of : (k column row : ℕ) (f : Grid) → 0 < k → IsQuarterCorner (side_at side (k - 1)) column row → IsAbsent writes side other (k - 1) (grid_from column row f) → IsAbsent writes side other k f
  absent_quarter_of k column row f above corner absent =
      let e : suc (k - 1) ≡ k = omega (arith, above) in
      subst (λ j. IsAbsent writes side other j f) e (absent_quarter (k - 1) column row f corner absent)

  -- a piece of what another store draws stands there
  pub shared_piece : (s : Held L) (k q : ℕ) (f : Grid) (p : ℕ) → IsPieceOfGrid writes side s k f q → Draws writes side other k f p → (r : ℕ) × IsShared writes side s other q r
  unfolding IsPieceOfGrid
  shared_piece s zero q f p piece drawn = (p, record { level = 0; grid = f; here = piece; there = drawn })
  shared_piece s (suc k) q f p piece drawn = elim piece [
    | inl here ↦ (p, record { level = suc k; grid = f; here = here; there = drawn })
    | inr b ↦ (let quarter = quarter_drawn k p b.0 b.1.0 f b.1.1.0 drawn in shared_piece s k q (grid_from b.0 b.1.0 f) quarter.0 b.1.1.1 quarter.1)
  ]

-- ---- four quarters

-- four squares of side n are the quarters of one: NW, NE, SW and SE
pub record AreItsQuarters (n : ℕ) (f a b c d : Grid) : Type 0 where
  pub nw : AreSameWithin n a (grid_from 0 0 f)
  pub ne : AreSameWithin n b (grid_from n 0 f)
  pub sw : AreSameWithin n c (grid_from 0 n f)
  pub se : AreSameWithin n d (grid_from n n f)

pub cut_quarters : (n : ℕ) (f a b c d : Grid) → AreSameWithin (n + n) (quartered n a b c d) f → AreItsQuarters n f a b c d
cut_quarters n f a b c d same =
    let each = quarters_of n a b c d f same in
    record {
      nw = λ u v hu hv. each.nw u v hu hv ∙ moved_grid f u v (0 + u) (0 + v) (omega arith) (omega arith);
      ne = λ u v hu hv. each.ne u v hu hv ∙ moved_grid f (n + u) v (n + u) (0 + v) refl (omega arith);
      sw = λ u v hu hv. each.sw u v hu hv ∙ moved_grid f u (n + v) (0 + u) (n + v) (omega arith) refl;
      se = λ u v hu hv. each.se u v hu hv;
    }

module _ {L : Type 0} (writes : L → Grid) (side k : ℕ) (f a b c d : Grid) (above : 0 < k) (are : AreItsQuarters (side_at side (k - 1)) f a b c d) where
  -- what is added of a quarter is added of the whole
  pub adds_nw : (s t : Held L) → AddsPiecesOfGrid writes side s t (k - 1) a → AddsPiecesOfGrid writes side s t k f
  adds_nw s t adds = adds_quarter_of writes side s t k f 0 0 above (record { left = inl refl; upper = inl refl }) (adds_as writes side s t (k - 1) a (grid_from 0 0 f) are.nw adds)

  pub adds_ne : (s t : Held L) → AddsPiecesOfGrid writes side s t (k - 1) b → AddsPiecesOfGrid writes side s t k f
  adds_ne s t adds = adds_quarter_of writes side s t k f (side_at side (k - 1)) 0 above (record { left = inr refl; upper = inl refl }) (adds_as writes side s t (k - 1) b (grid_from (side_at side (k - 1)) 0 f) are.ne adds)

  pub adds_sw : (s t : Held L) → AddsPiecesOfGrid writes side s t (k - 1) c → AddsPiecesOfGrid writes side s t k f
  adds_sw s t adds = adds_quarter_of writes side s t k f 0 (side_at side (k - 1)) above (record { left = inl refl; upper = inr refl }) (adds_as writes side s t (k - 1) c (grid_from 0 (side_at side (k - 1)) f) are.sw adds)

  pub adds_se : (s t : Held L) → AddsPiecesOfGrid writes side s t (k - 1) d → AddsPiecesOfGrid writes side s t k f
  adds_se s t adds = adds_quarter_of writes side s t k f (side_at side (k - 1)) (side_at side (k - 1)) above (record { left = inr refl; upper = inr refl }) (adds_as writes side s t (k - 1) d (grid_from (side_at side (k - 1)) (side_at side (k - 1)) f) are.se adds)

  pub adds_two : (s0 s1 s2 : Held L) → IsGrown writes side s1 s2 → AddsPiecesOfGrid writes side s0 s1 (k - 1) a → AddsPiecesOfGrid writes side s1 s2 (k - 1) b → AddsPiecesOfGrid writes side s0 s2 k f
  adds_two s0 s1 s2 g first second = adds_more writes side s0 s1 s2 k f g (adds_nw s0 s1 first) (adds_ne s1 s2 second)

  pub adds_three : (s0 s1 s2 s3 : Held L) → IsGrown writes side s1 s2 → IsGrown writes side s2 s3 → AddsPiecesOfGrid writes side s0 s1 (k - 1) a → AddsPiecesOfGrid writes side s1 s2 (k - 1) b → AddsPiecesOfGrid writes side s2 s3 (k - 1) c
      → AddsPiecesOfGrid writes side s0 s3 k f
  adds_three s0 s1 s2 s3 g h first second third = adds_more writes side s0 s2 s3 k f h (adds_two s0 s1 s2 g first second) (adds_sw s2 s3 third)

  pub adds_all : (s0 s1 s2 s3 s4 : Held L) → IsGrown writes side s1 s2 → IsGrown writes side s2 s3 → IsGrown writes side s3 s4 → AddsPiecesOfGrid writes side s0 s1 (k - 1) a → AddsPiecesOfGrid writes side s1 s2 (k - 1) b → AddsPiecesOfGrid writes side s2 s3 (k - 1) c
      → AddsPiecesOfGrid writes side s3 s4 (k - 1) d → AddsPiecesOfGrid writes side s0 s4 k f
  adds_all s0 s1 s2 s3 s4 g h i first second third fourth = adds_more writes side s0 s3 s4 k f i (adds_three s0 s1 s2 s3 g h first second third) (adds_se s3 s4 fourth)

  -- what lacks a quarter lacks the whole
  module _ (IsLeaf : L → Type 0) (s : Held L) (can : IsCanonical writes side IsLeaf s) where
    pub lacks_nw : IsAbsent writes side s (k - 1) a → IsAbsent writes side s k f
    lacks_nw absent = absent_quarter_of writes side IsLeaf s can k 0 0 f above (record { left = inl refl; upper = inl refl }) (absent_as writes side s (k - 1) a (grid_from 0 0 f) are.nw absent)

    pub lacks_ne : IsAbsent writes side s (k - 1) b → IsAbsent writes side s k f
    lacks_ne absent = absent_quarter_of writes side IsLeaf s can k (side_at side (k - 1)) 0 f above (record { left = inr refl; upper = inl refl }) (absent_as writes side s (k - 1) b (grid_from (side_at side (k - 1)) 0 f) are.ne absent)

    pub lacks_sw : IsAbsent writes side s (k - 1) c → IsAbsent writes side s k f
    lacks_sw absent = absent_quarter_of writes side IsLeaf s can k 0 (side_at side (k - 1)) f above (record { left = inl refl; upper = inr refl }) (absent_as writes side s (k - 1) c (grid_from 0 (side_at side (k - 1)) f) are.sw absent)

    pub lacks_se : IsAbsent writes side s (k - 1) d → IsAbsent writes side s k f
    lacks_se absent = absent_quarter_of writes side IsLeaf s can k (side_at side (k - 1)) (side_at side (k - 1)) f above (record { left = inr refl; upper = inr refl }) (absent_as writes side s (k - 1) d (grid_from (side_at side (k - 1)) (side_at side (k - 1)) f) are.se absent)

-- ---- counting

apart : (a b : ℕ) → (a ≡ b → ⊥) → eqb a b ≡ false
apart a b differ = go (eqb a b) refl
  where
    go : (x : Bool) → eqb a b ≡ x → eqb a b ≡ false
    go true e = absurd (differ (nat_same a b e))
    go false e = e

-- a number of a list is its first, or one of the rest
one_or_other : (q a m : ℕ) (rest : Bool) → a < m → (rest ≡ true → q < m) → (x : Bool) → eqb q a ≡ x → (x || rest) ≡ true → q < m
one_or_other q a m rest first later true e found = subst (λ p. p < m) (sym (nat_same q a e)) first
one_or_other q a m rest first later false e found = later found

one_less : (n m : ℕ) → suc n ≤ m → n ≤ m
one_less n m h = omega (arith, h)

last_below : (n m : ℕ) → suc n ≤ m → n < m
last_below n m h = omega (arith, h)

up_to : (n : ℕ) → n ≤ n
up_to n = omega arith

module _ {L : Type 0} (writes : L → Grid) (side : ℕ) (IsLeaf : L → Type 0) (s other : Held L) (can : IsCanonical writes side IsLeaf s) (some : 0 < side) where
  -- what the other store draws where a square of this one stands, this one draws
  drawn_here : (p q k : ℕ) (f : Grid) → IsShared writes side s other p q → Draws writes side other k f q → Draws writes side s k f p
  drawn_here p q k f shared drawn = go (slice_get other.squares q) refl
    where
      one_level : k ≡ shared.level → Draws writes side s k f p
      one_level e =
          let here = subst (λ j. Draws writes side s j shared.grid p) (sym e) shared.here in
          let there = subst (λ j. Draws writes side other j shared.grid q) (sym e) shared.there in
          draws_as writes side s k shared.grid f p (λ u v hu hv. sym (there.same u v hu hv) ∙ drawn.same u v hu hv) here

      go : (x : Option Node) → slice_get other.squares q ≡ x → Draws writes side s k f p
      go None e = absurd (node_at other k q None e drawn.stands)
      go (Some (Blank t)) e =
          let blank = λ (j : ℕ). blank_writes writes side other j q t e in
          let here = blank_place writes side IsLeaf s can some shared.level t p shared.here.stands
          (λ u v hu hv. shared.here.same u v hu hv ∙ sym (shared.there.same u v hu hv) ∙ ap (λ (g : Grid). g u v) (blank shared.level)) in
          draws_as writes side s k (blank_grid t) f p (λ u v hu hv. sym (ap (λ (g : Grid). g u v) (blank k)) ∙ drawn.same u v hu hv) (blank_draws writes side s p t here k)
      go (Some (Leaf m)) e =
          let mine = node_at other k q (Some (Leaf m)) e drawn.stands in
          let its = node_at other shared.level q (Some (Leaf m)) e shared.there.stands in
          one_level (mine ∙ sym its)
      go (Some (Four j a b c d)) e =
          let mine = node_at other k q (Some (Four j a b c d)) e drawn.stands in
          let its = node_at other shared.level q (Some (Four j a b c d)) e shared.there.stands in
          one_level (mine ∙ sym its)

  module _ (one : IsOnePartEach writes side s) (shared : AreShared writes side s other) where
    place : (p : ℕ) → IsHeld s p → ℕ
    place p held = (shared p held).0

    one_place : (p q : ℕ) (hp : IsHeld s p) (hq : IsHeld s q) → place p hp ≡ place q hq → p ≡ q
    unfolding place
    one_place p q hp hq e =
        let its = (shared q hq).1 in
        let here = drawn_here p (shared p hp).0 its.level its.grid (shared p hp).1 (subst (λ r. Draws writes side other its.level its.grid r) (sym e) its.there) in
        one its.level p q here.stands its.here.stands (λ u v hu hv. here.same u v hu hv ∙ sym (its.here.same u v hu hv))

    -- where the first n squares stand in the other store
    places : (n : ℕ) → n ≤ length s.squares → List ℕ
    places zero h = []
    places (suc n) h = place n (last_below n (length s.squares) h) ∷ places n (one_less n (length s.squares) h)

    so_many : (n : ℕ) (h : n ≤ length s.squares) → length (places n h) ≡ n
    unfolding places
    so_many zero h = refl
    so_many (suc n) h = ap suc (so_many n (one_less n (length s.squares) h))

    -- a place where none of them stands
    missed : (a n : ℕ) (h : n ≤ length s.squares) → ((p : ℕ) → p < n → (held : IsHeld s p) → place p held ≡ a → ⊥) → AllByRecursion (λ y. eqb a y ≡ false) (places n h)
    unfolding places
    missed a zero h none = tt
    missed a (suc n) h none =
        let held = last_below n (length s.squares) h in
        (apart a (place n held) (λ e. none n (omega arith) held (sym e)), missed a n (one_less n (length s.squares) h) (λ p below. none p (omega (arith, below))))

    each_once : (n : ℕ) (h : n ≤ length s.squares) → IsDistinct eqb (places n h)
    unfolding places IsDistinct
    each_once zero h = tt
    each_once (suc n) h =
        let last = last_below n (length s.squares) h in
        let less = one_less n (length s.squares) h in
        IsDistinct-cons eqb (place n last) (places n less)
        (missed (place n last) n less (λ p below held e. (let same = one_place p n held last e in omega (arith, same, below))))
        (each_once n less)

    all_within : (n : ℕ) (h : n ≤ length s.squares) (q : ℕ) → list_any (eqb q) (places n h) ≡ true → q < length other.squares
    unfolding places place
    all_within zero h q found = absurd (cc)
    all_within (suc n) h q found =
        let last = last_below n (length s.squares) h in
        let less = one_less n (length s.squares) h in
        let its = (shared n last).1 in
        one_or_other q (place n last) (length other.squares) (list_any (eqb q) (places n less)) (at_within other its.level (place n last) its.there.stands) (all_within n less q) (eqb q (place n last)) refl found

    -- with a square that this store lacks the other holds more
    pub one_more : (k a : ℕ) (f : Grid) → IsAbsent writes side s k f → Draws writes side other k f a → suc (length s.squares) ≤ length other.squares
    unfolding place
    one_more k a f absent drawn =
        let n = length s.squares in
        let all = up_to n in
        let new = missed a n all (λ p below held e. absent p (drawn_here p (shared p held).0 k f (shared p held).1 (subst (λ r. Draws writes side other k f r) (sym e) drawn))) in
        let most : suc (length (places n all)) ≤ length other.squares = length-le_from_distinct_below (a ∷ places n all) (length other.squares) (IsDistinct-cons eqb a (places n all) new (each_once n all))
        (λ q found. one_or_other q a (length other.squares) (list_any (eqb q) (places n all)) (at_within other k a drawn.stands) (all_within n all q) (eqb q a) refl found) in
        omega (arith, most, so_many n all)

    -- a store that is full and lacks a square has no more room than the other needs
    pub no_room : (k a : ℕ) (f : Grid) → IsFullFor writes side s k f → length other.squares ≤ other.room → other.room ≡ s.room → Draws writes side other k f a → ⊥
    no_room k a f full few same drawn =
        let more = one_more k a f full.absent drawn in
        let all = full.full in
        omega (arith, more, all, few, same)
