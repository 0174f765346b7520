-- One cell of a tile, read and given a state.
use Rattle.std.proofs.Common.{◌≡◌, ℕ, ◌+◌, ◌-◌, ◌*◌, ◌^◌, ◌%◌, ◌<◌, ◌≤◌, List, length, length-set, get_or, refl, inl, inr, sym, ◌∙◌, ap, subst, arith, lit<, add-one}
use Rattle.std.specs.Prelude.{min, bit_or, bit_and, ◌==◌, ◌&&◌, if◌then◌else◌, slice_set}
use Rattle.std.specs.Int.{bit_at, w32}
use Rattle.std.proofs.Math.Nat.{pow-suc, pow-le-pow_right, mod-eq_of_lt}
use Rattle.std.proofs.lemmas.Bool.{cases_Bool}
use Rattle.std.proofs.lemmas.Bool.Decides.{eqb_tells}
use Rattle.std.proofs.lemmas.Nat.Bits.{bit_at_and, bit_at_or, bit_at_not, bit_at-lt, bit_at-pow_same, bit_at-pow_other, bit_at-zero}
use Rattle.bitplane_kernel.specs.Planes.{bit}
use Rattle.bitplane_kernel.specs.Digits.{number_lt, number_of_digits, number_same}
use Rattle.bitplane_kernel.proofs.ReadLemmas.{bit_is}
use Rattle.tile_steps.specs.declared.tile.TilePlane.{TilePlane}
use Rattle.tile_steps.specs.Tiles.{planes_state, tile_plane}
use Rattle.tile_steps.specs.Windows.{IsDigitSet}
use Rattle.tile_steps.proofs.PlaneLists.{each_more, number_zero, tile_set_same, tile_set_other}
use Rattle.tile_steps.proofs.TileLists.{bit_set_same, bit_set_other}

some : (k : ℕ) → 0 < 2 ^ k
some k = omega (arith, number_lt k (λ _. 0) (λ p h. lit< tt))

small : (k : ℕ) → k < 32 → 2 ^ k < 4294967296
small k h =
    let most : 2 ^ (k + 1) ≤ 2 ^ 32 = pow-le-pow_right (lit< tt) (let e : k + 1 ≤ 32 = omega arith in e) in
    let twice : 2 ^ (k + 1) ≡ 2 ^ k * 2 = ap (λ j. 2 ^ j) (add-one k) ∙ pow-suc 2 k in
    omega (arith, some k)

worth : (k : ℕ) → k < 32 → 1 * 2 ^ k % 4294967296 ≡ 2 ^ k
worth k h = ap (λ j. j % 4294967296) (let e : 1 * 2 ^ k ≡ 2 ^ k = omega arith in e) ∙ mod-eq_of_lt (small k h)

-- a digit that is made 1, and one that is made 0
pub digit_on : (cells k x : ℕ) → k < 32 → bit_at (bit_or cells (1 * 2 ^ k % 4294967296)) x ≡ (if x == k then 1 else bit_at cells x)
digit_on cells k x h = rw (worth k h) (bit_at_or cells (2 ^ k) x ∙ elim (eqb_tells x k) [
  | inl same ↦
      let own : bit_at (2 ^ k) x ≡ 1 = ap (bit_at (2 ^ k)) same.1 ∙ bit_at-pow_same k in
      rw (own, same.0) (let low = bit_at-lt cells x in omega arith)
  | inr other ↦ rw (bit_at-pow_other k x other.1, other.0) (omega arith)
])

pub digit_off : (cells k x : ℕ) → k < 32 → x < 32 → bit_at (bit_and cells (4294967295 - 1 * 2 ^ k % 4294967296)) x ≡ (if x == k then 0 else bit_at cells x)
digit_off cells k x h hx = rw (worth k h) (bit_at_and cells (4294967295 - 2 ^ k) x ∙ ap (min (bit_at cells x)) (bit_at_not w32 (2 ^ k) x (small k h) hx) ∙ elim (eqb_tells x k) [
  | inl same ↦
      let own : bit_at (2 ^ k) x ≡ 1 = ap (bit_at (2 ^ k)) same.1 ∙ bit_at-pow_same k in
      rw (own, same.0) (omega arith)
  | inr other ↦ rw (bit_at-pow_other k x other.1, other.0) (let low = bit_at-lt cells x in omega arith)
])

-- a row that was written with another digit in a column
pub digit_put : (column row d v : ℕ) (rows : List ℕ) → row < length rows → ((x : ℕ) → x < 32 → bit_at v x ≡ (if x == column then d else bit_at (get_or rows row 0) x))
    → IsDigitSet column row d rows (slice_set rows row v)
digit_put column row d v rows within own = record {
  set = λ x y hx hy. elim (eqb_tells y row) [
    | inl sy ↦
        let here : bit (slice_set rows row v) x y ≡ (if x == column then d else bit_at (get_or rows row 0) x) =
        ap (bit (slice_set rows row v) x) sy.1 ∙ bit_set_same rows row v x within ∙ own x hx in
        elim (eqb_tells x column) [
          | inl sx ↦ rw (sx.0, sy.0) (here ∙ rw sx.0 refl)
          | inr ox ↦ rw ox.0 (here ∙ rw ox.0 (sym (bit_is rows x row) ∙ ap (bit rows x) (sym sy.1)))
        ]
    | inr oy ↦ elim (eqb_tells x column) [
      | inl sx ↦ rw (sx.0, oy.0) (bit_set_other rows row v x y oy.1)
      | inr ox ↦ rw ox.0 (bit_set_other rows row v x y oy.1)
    ]
  ];
}

-- the digit was set in the planes below n, and the others are as they were
pub record SetBelow (column row state : ℕ) (old new : List TilePlane) (n : ℕ) : Type 0 where
  pub len : length new ≡ length old
  pub each : (q : ℕ) → q < n → IsDigitSet column row (bit_at state q) (tile_plane old q) (tile_plane new q)
  pub rest : (q : ℕ) → (q < n → ⊥) → tile_plane new q ≡ tile_plane old q

pub set_none : (column row state : ℕ) (planes : List TilePlane) → SetBelow column row state planes planes 0
set_none column row state planes = record {
  len = refl;
  each = λ q h. absurd (omega arith);
  rest = λ q h. refl;
}

pub set_more : (column row state n d : ℕ) (old new : List TilePlane) (v : List ℕ) → n < length old → d ≡ bit_at state n
    → SetBelow column row state old new n → IsDigitSet column row d (tile_plane new n) v → SetBelow column row state old (slice_set new n (record { rows = v })) (n + 1)
set_more column row state n d old new v within is so_far own =
    let now : List TilePlane = slice_set new n (record { rows = v }) in
    let room : n < length new = omega (arith, so_far.len) in
    let was : tile_plane new n ≡ tile_plane old n = so_far.rest n (λ h. omega (arith, h)) in
    record {
      len = length-set new n (record { rows = v }) ∙ so_far.len;
      each = each_more n (λ q u. IsDigitSet column row (bit_at state q) (tile_plane old q) u) (tile_plane new) (tile_plane now) v so_far.each
          (subst (λ u. IsDigitSet column row (bit_at state n) u v) was (subst (λ k. IsDigitSet column row k (tile_plane new n) v) is own)) (tile_set_same new n v room) (λ q other. tile_set_other new n q v other);
      rest = λ q h. tile_set_other new n q v (λ e. h (omega (arith, e))) ∙ so_far.rest q (λ k. h (omega (arith, k)));
    }

pub set_all : (n m column row state : ℕ) (old new : List TilePlane) → m ≡ n → state < 2 ^ n → SetBelow column row state old new m
    → (x y : ℕ) → x < 32 → y < 32 → planes_state n new x y ≡ (if x == column && y == row then state else planes_state n old x y)
set_all n m column row state old new is fits done x y hx hy =
    let each : (q : ℕ) → q < n → bit (tile_plane new q) x y ≡ (if x == column && y == row then bit_at state q else bit (tile_plane old q) x y) =
    λ q h. (done.each q (omega (arith, is, h))).set x y hx hy in
    elim (cases_Bool (x == column && y == row)) [
      | inl here ↦ number_same n (λ p. bit (tile_plane new p) x y) (bit_at state) (λ p h. each p h ∙ rw here refl) ∙ number_of_digits n state ∙ mod-eq_of_lt fits ∙ rw here refl
      | inr there ↦ number_same n (λ p. bit (tile_plane new p) x y) (λ p. bit (tile_plane old p) x y) (λ p h. each p h ∙ rw there refl) ∙ rw there refl
    ]

-- ---- reading

pub row_is_dead : (n row : ℕ) (planes : List TilePlane) → ((q : ℕ) → q < n → get_or (tile_plane planes q) row 0 ≡ 0) → (x : ℕ) → planes_state n planes x row ≡ 0
row_is_dead n row planes none x =
    number_same n (λ p. bit (tile_plane planes p) x row) (λ _. 0) (λ p h. bit_is (tile_plane planes p) x row ∙ ap (λ k. bit_at k x) (none p h) ∙ bit_at-zero x) ∙ number_zero n
