-- Rows of tiles and windows that are written one by one.
use Rattle.std.proofs.Common.{◌≡◌, ℕ, ◌+◌, ◌<◌, List, length, length-set, get_or, get_or-set_same, get_or-set_other, inl, inr, sym, ◌∙◌, ap, subst, arith}
use Rattle.std.specs.Prelude.{slice_set}
use Rattle.std.specs.Int.{bit_at}
use Rattle.std.proofs.lemmas.Bool.Decides.{eqb_tells}
use Rattle.bitplane_kernel.specs.Planes.{bit}
use Rattle.bitplane_kernel.proofs.ReadLemmas.{bit_is}
use Rattle.tile_steps.specs.declared.tile.TilePlane.{TilePlane}
use Rattle.tile_steps.specs.declared.window.WindowPlane.{WindowPlane}
use Rattle.tile_steps.specs.Steps.{window_plane}
use Rattle.tile_steps.specs.Tiles.{tile_plane}
use Rattle.tile_steps.specs.Windows.{IsJoinedPlane, IsMiddlePlane}
use Rattle.tile_steps.proofs.PlaneLists.{each_more, window_set_same, window_set_other, tile_set_same, tile_set_other}

pub bit_set_same : (rows : List ℕ) (n m x : ℕ) → n < length rows → bit (slice_set rows n m) x n ≡ bit_at m x
bit_set_same rows n m x h = bit_is (slice_set rows n m) x n ∙ ap (λ k. bit_at k x) (get_or-set_same rows n m 0 h)

pub bit_set_other : (rows : List ℕ) (n m x y : ℕ) → (y ≡ n → ⊥) → bit (slice_set rows n m) x y ≡ bit rows x y
bit_set_other rows n m x y other = bit_is (slice_set rows n m) x y ∙ ap (λ k. bit_at k x) (get_or-set_other rows n y m 0 other) ∙ sym (bit_is rows x y)

-- ---- the middle

-- the first n rows of the middle are there
pub record MiddleBelow (rows middle : List ℕ) (n : ℕ) : Type 0 where
  pub len : length middle ≡ 32
  pub same : (x y : ℕ) → x < 32 → y < n → bit middle x y ≡ bit rows (x + 16) (y + 16)

pub middle_none : (rows middle : List ℕ) → length middle ≡ 32 → MiddleBelow rows middle 0
middle_none rows middle len = record {
  len = len;
  same = λ x y hx hy. absurd (omega arith);
}

pub middle_more : (rows middle : List ℕ) (n m : ℕ) → n < 32 → MiddleBelow rows middle n → ((x : ℕ) → x < 32 → bit_at m x ≡ bit_at (get_or rows (n + 16) 0) (x + 16))
    → MiddleBelow rows (slice_set middle n m) (n + 1)
middle_more rows middle n m within so_far own = record {
  len = length-set middle n m ∙ so_far.len;
  same = λ x y hx hy. elim (eqb_tells y n) [
    | inl is ↦
        subst (λ k. bit (slice_set middle n m) x k ≡ bit rows (x + 16) (k + 16)) (sym is.1)
        (bit_set_same middle n m x (omega (arith, so_far.len)) ∙ own x hx ∙ sym (bit_is rows (x + 16) (n + 16)))
    | inr other ↦ bit_set_other middle n m x y other.1 ∙ so_far.same x y hx (omega (arith, other.1))
  ];
}

pub middle_all : (rows middle : List ℕ) (n : ℕ) → n ≡ 32 → MiddleBelow rows middle n → IsMiddlePlane rows middle
middle_all rows middle n is so_far = record { same = λ x y hx hy. so_far.same x y hx (omega arith) }

-- ---- four tiles

-- the first n rows of each quarter are there
pub record JoinedBelow (nw ne sw se rows : List ℕ) (n : ℕ) : Type 0 where
  pub len : length rows ≡ 64
  pub north_west : (x y : ℕ) → x < 32 → y < n → bit rows x y ≡ bit nw x y
  pub north_east : (x y : ℕ) → x < 32 → y < n → bit rows (x + 32) y ≡ bit ne x y
  pub south_west : (x y : ℕ) → x < 32 → y < n → bit rows x (y + 32) ≡ bit sw x y
  pub south_east : (x y : ℕ) → x < 32 → y < n → bit rows (x + 32) (y + 32) ≡ bit se x y

pub joined_none : (nw ne sw se rows : List ℕ) → length rows ≡ 64 → JoinedBelow nw ne sw se rows 0
joined_none nw ne sw se rows len = record {
  len = len;
  north_west = λ x y hx hy. absurd (omega arith);
  north_east = λ x y hx hy. absurd (omega arith);
  south_west = λ x y hx hy. absurd (omega arith);
  south_east = λ x y hx hy. absurd (omega arith);
}

-- a row of two halves
pub record IsSideBySide (west east row : ℕ) : Type 0 where
  pub west_half : (x : ℕ) → x < 32 → bit_at row x ≡ bit_at west x
  pub east_half : (x : ℕ) → x < 32 → bit_at row (x + 32) ≡ bit_at east x

module _ (rows : List ℕ) (n a b : ℕ) (within : n < 32) (len : length rows ≡ 64) where
  abbrev pub both : List ℕ
  both = slice_set (slice_set rows n a) (n + 32) b

  north_own : (x : ℕ) → bit both x n ≡ bit_at a x
  north_own x = bit_set_other (slice_set rows n a) (n + 32) b x n (λ e. omega (arith, e)) ∙ bit_set_same rows n a x (omega arith)

  south_own : (x : ℕ) → bit both x (n + 32) ≡ bit_at b x
  south_own x = bit_set_same (slice_set rows n a) (n + 32) b x (omega (arith, length-set rows n a))

  north_other : (x y : ℕ) → y < n → bit both x y ≡ bit rows x y
  north_other x y h = bit_set_other (slice_set rows n a) (n + 32) b x y (λ e. omega (arith, e)) ∙ bit_set_other rows n a x y (λ e. omega (arith, e))

  south_other : (x y : ℕ) → y < n → bit both x (y + 32) ≡ bit rows x (y + 32)
  south_other x y h = bit_set_other (slice_set rows n a) (n + 32) b x (y + 32) (λ e. omega (arith, e)) ∙ bit_set_other rows n a x (y + 32) (λ e. omega (arith, e))

  -- a law of the first n rows and of the next one
  north_law : (from : ℕ → ℕ) (q : List ℕ) → ((x y : ℕ) → x < 32 → y < n → bit rows (from x) y ≡ bit q x y) → ((x : ℕ) → x < 32 → bit_at a (from x) ≡ bit_at (get_or q n 0) x)
      → (x y : ℕ) → x < 32 → y < n + 1 → bit both (from x) y ≡ bit q x y
  north_law from q so_far own x y hx hy = elim (eqb_tells y n) [
    | inl is ↦ subst (λ k. bit both (from x) k ≡ bit q x k) (sym is.1) (north_own (from x) ∙ own x hx ∙ sym (bit_is q x n))
    | inr other ↦ let low : y < n = omega (arith, other.1) in north_other (from x) y low ∙ so_far x y hx low
  ]

  south_law : (from : ℕ → ℕ) (q : List ℕ) → ((x y : ℕ) → x < 32 → y < n → bit rows (from x) (y + 32) ≡ bit q x y) → ((x : ℕ) → x < 32 → bit_at b (from x) ≡ bit_at (get_or q n 0) x)
      → (x y : ℕ) → x < 32 → y < n + 1 → bit both (from x) (y + 32) ≡ bit q x y
  south_law from q so_far own x y hx hy = elim (eqb_tells y n) [
    | inl is ↦ subst (λ k. bit both (from x) (k + 32) ≡ bit q x k) (sym is.1) (south_own (from x) ∙ own x hx ∙ sym (bit_is q x n))
    | inr other ↦ let low : y < n = omega (arith, other.1) in south_other (from x) y low ∙ so_far x y hx low
  ]

  pub joined_more : (nw ne sw se : List ℕ) → JoinedBelow nw ne sw se rows n → IsSideBySide (get_or nw n 0) (get_or ne n 0) a → IsSideBySide (get_or sw n 0) (get_or se n 0) b
      → JoinedBelow nw ne sw se both (n + 1)
  joined_more nw ne sw se so_far north south = record {
    len = length-set (slice_set rows n a) (n + 32) b ∙ length-set rows n a ∙ so_far.len;
    north_west = north_law (λ x. x) nw so_far.north_west north.west_half;
    north_east = north_law (λ x. x + 32) ne so_far.north_east north.east_half;
    south_west = south_law (λ x. x) sw so_far.south_west south.west_half;
    south_east = south_law (λ x. x + 32) se so_far.south_east south.east_half;
  }

pub joined_all : (nw ne sw se rows : List ℕ) (n : ℕ) → n ≡ 32 → JoinedBelow nw ne sw se rows n → IsJoinedPlane nw ne sw se rows
joined_all nw ne sw se rows n is so_far = record {
  north_west = λ x y hx hy. so_far.north_west x y hx (omega arith);
  north_east = λ x y hx hy. so_far.north_east x y hx (omega arith);
  south_west = λ x y hx hy. so_far.south_west x y hx (omega arith);
  south_east = λ x y hx hy. so_far.south_east x y hx (omega arith);
}

-- ---- in all planes

-- the planes below n of a window are those of four tiles
pub record LoadedBelow (nw ne sw se : List TilePlane) (count : ℕ) (window : List WindowPlane) (n : ℕ) : Type 0 where
  pub len : length window ≡ count
  pub each : (q : ℕ) → q < n → IsJoinedPlane (tile_plane nw q) (tile_plane ne q) (tile_plane sw q) (tile_plane se q) (window_plane window q)

pub loaded_none : (nw ne sw se : List TilePlane) (count : ℕ) (window : List WindowPlane) → length window ≡ count → LoadedBelow nw ne sw se count window 0
loaded_none nw ne sw se count window len = record {
  len = len;
  each = λ q h. absurd (omega arith);
}

pub loaded_more : (nw ne sw se : List TilePlane) (count n : ℕ) (window : List WindowPlane) (v : List ℕ) → n < count → LoadedBelow nw ne sw se count window n
    → IsJoinedPlane (tile_plane nw n) (tile_plane ne n) (tile_plane sw n) (tile_plane se n) v → LoadedBelow nw ne sw se count (slice_set window n (record { rows = v })) (n + 1)
loaded_more nw ne sw se count n window v within so_far own = record {
  len = length-set window n (record { rows = v }) ∙ so_far.len;
  each = each_more n (λ q u. IsJoinedPlane (tile_plane nw q) (tile_plane ne q) (tile_plane sw q) (tile_plane se q) u) (window_plane window) (window_plane (slice_set window n (record { rows = v }))) v
      so_far.each own (window_set_same window n v (omega (arith, so_far.len))) (λ q other. window_set_other window n q v other);
}

-- the planes below n of a tile are those of the middle of a window
pub record MiddlesBelow (window : List WindowPlane) (count : ℕ) (tile : List TilePlane) (n : ℕ) : Type 0 where
  pub len : length tile ≡ count
  pub each : (q : ℕ) → q < n → IsMiddlePlane (window_plane window q) (tile_plane tile q)

pub middles_none : (window : List WindowPlane) (count : ℕ) (tile : List TilePlane) → length tile ≡ count → MiddlesBelow window count tile 0
middles_none window count tile len = record {
  len = len;
  each = λ q h. absurd (omega arith);
}

pub middles_more : (window : List WindowPlane) (count n : ℕ) (tile : List TilePlane) (v : List ℕ) → n < count → MiddlesBelow window count tile n
    → IsMiddlePlane (window_plane window n) v → MiddlesBelow window count (slice_set tile n (record { rows = v })) (n + 1)
middles_more window count n tile v within so_far own = record {
  len = length-set tile n (record { rows = v }) ∙ so_far.len;
  each = each_more n (λ q u. IsMiddlePlane (window_plane window q) u) (tile_plane tile) (tile_plane (slice_set tile n (record { rows = v }))) v
      so_far.each own (tile_set_same tile n v (omega (arith, so_far.len))) (λ q other. tile_set_other tile n q v other);
}
