-- Lists of planes that are written one by one.
use Rattle.std.proofs.Common.{◌≡◌, ℕ, zero, suc, ◌+◌, ◌<◌, List, [], length, length-set, refl, get_or-set_same, get_or-set_other, inl, inr, sym, ◌∙◌, ap, subst, arith, add-one}
use Rattle.std.specs.Prelude.{slice_set, replicate}
use Rattle.std.specs.Int.{bit_at}
use Rattle.std.proofs.lemmas.Bool.Decides.{eqb_tells}
use Rattle.std.proofs.lemmas.List.{get_or-replicate}
use Rattle.std.proofs.lemmas.Nat.Bits.{bit_at-zero}
use Rattle.bitplane_kernel.specs.Planes.{number, bit}
use Rattle.bitplane_kernel.specs.Digits.{number_more, number_none, number_same}
use Rattle.bitplane_kernel.proofs.ReadLemmas.{bit_is}
use Rattle.tile_steps.specs.declared.planes.RowPlane.{RowPlane}
use Rattle.tile_steps.specs.declared.tile.TilePlane.{TilePlane}
use Rattle.tile_steps.specs.declared.window.WindowPlane.{WindowPlane}
use Rattle.tile_steps.specs.Rows.{plane_at}
use Rattle.tile_steps.specs.Steps.{AreRowsFrom, window_plane}
use Rattle.tile_steps.specs.Tiles.{tile_plane}
use Rattle.tile_steps.specs.Windows.{IsTakenFrom, IsPutAt, ArePutAt}

pub number_zero : (n : ℕ) → number n (λ _. 0) ≡ 0
number_zero zero = number_none (λ _. 0)
number_zero (suc n) = let low : number n (λ _. 0) ≡ 0 = number_zero n in ap (λ k. number k (λ _. 0)) (sym (add-one n)) ∙ number_more n (λ _. 0) ∙ omega arith

-- what holds of each plane below n, and of plane n once that is written, holds below n + 1
pub each_more : (n : ℕ) (P : ℕ → List ℕ → Type 0) (f g : ℕ → List ℕ) (v : List ℕ)
    → ((q : ℕ) → q < n → P q (f q)) → P n v → g n ≡ v → ((q : ℕ) → (q ≡ n → ⊥) → g q ≡ f q) → (q : ℕ) → q < n + 1 → P q (g q)
each_more n P f g v so_far own same other q h = elim (eqb_tells q n) [
  | inl is ↦ subst (λ k. P k (g k)) (sym is.1) (subst (P n) (sym same) own)
  | inr apart ↦ subst (P q) (sym (other q apart.1)) (so_far q (omega (arith, apart.1)))
]

pub window_set_same : (planes : List WindowPlane) (p : ℕ) (v : List ℕ) → p < length planes → window_plane (slice_set planes p (record { rows = v })) p ≡ v
window_set_same planes p v h = ap (λ plane. plane.rows) (get_or-set_same planes p (record { rows = v }) (record { rows = [] }) h)

pub window_set_other : (planes : List WindowPlane) (p q : ℕ) (v : List ℕ) → (q ≡ p → ⊥) → window_plane (slice_set planes p (record { rows = v })) q ≡ window_plane planes q
window_set_other planes p q v other = ap (λ plane. plane.rows) (get_or-set_other planes p q (record { rows = v }) (record { rows = [] }) other)

pub tile_set_same : (planes : List TilePlane) (p : ℕ) (v : List ℕ) → p < length planes → tile_plane (slice_set planes p (record { rows = v })) p ≡ v
tile_set_same planes p v h = ap (λ plane. plane.rows) (get_or-set_same planes p (record { rows = v }) (record { rows = [] }) h)

pub tile_set_other : (planes : List TilePlane) (p q : ℕ) (v : List ℕ) → (q ≡ p → ⊥) → tile_plane (slice_set planes p (record { rows = v })) q ≡ tile_plane planes q
tile_set_other planes p q v other = ap (λ plane. plane.rows) (get_or-set_other planes p q (record { rows = v }) (record { rows = [] }) other)

pub row_set_same : (planes : List RowPlane) (p : ℕ) (v : List ℕ) → p < length planes → plane_at (slice_set planes p (record { rows = v })) p ≡ v
row_set_same planes p v h = ap (λ plane. plane.rows) (get_or-set_same planes p (record { rows = v }) (record { rows = [] }) h)

pub row_set_other : (planes : List RowPlane) (p q : ℕ) (v : List ℕ) → (q ≡ p → ⊥) → plane_at (slice_set planes p (record { rows = v })) q ≡ plane_at planes q
row_set_other planes p q v other = ap (λ plane. plane.rows) (get_or-set_other planes p q (record { rows = v }) (record { rows = [] }) other)

-- ---- dead planes

pub none_bit : (x y : ℕ) → y < 32 → bit (replicate 32 0) x y ≡ 0
none_bit x y h = bit_is (replicate 32 0) x y ∙ ap (λ n. bit_at n x) (get_or-replicate 32 y 0 0 h) ∙ bit_at-zero x

pub dead_planes : (n : ℕ) (planes : List TilePlane) → ((q : ℕ) → q < n → tile_plane planes q ≡ replicate 32 0)
    → (x y : ℕ) → x < 32 → y < 32 → number n (λ p. bit (tile_plane planes p) x y) ≡ 0
dead_planes n planes none x y hx hy =
    number_same n (λ p. bit (tile_plane planes p) x y) (λ _. 0) (λ p h. ap (λ v. bit v x y) (none p h) ∙ none_bit x y hy) ∙ number_zero n

pub dead_tile : (n : ℕ) (q : ℕ) → q < n → tile_plane (replicate n (record { rows = replicate 32 0 })) q ≡ replicate 32 0
dead_tile n q h = ap (λ (plane : TilePlane). plane.rows) (get_or-replicate n q (record { rows = replicate 32 0 }) (record { rows = [] }) h)

-- ---- rows of all planes

pub rows_of_planes : (n first : ℕ) (planes : List WindowPlane) (rows : List RowPlane)
    → ((q : ℕ) → q < n → IsTakenFrom first (window_plane planes q) (plane_at rows q)) → AreRowsFrom n first planes rows
rows_of_planes n first planes rows each = record {
  same = λ x y hx hy. number_same n (λ p. bit (plane_at rows p) x y) (λ p. bit (window_plane planes p) x (first + y)) (λ p h. (each p h).same x y hx hy);
}

pub put_in_planes : (n first : ℕ) (rows : List RowPlane) (old new : List WindowPlane)
    → ((q : ℕ) → q < n → IsPutAt first (plane_at rows q) (window_plane old q) (window_plane new q)) → ArePutAt n first rows old new
put_in_planes n first rows old new each = record {
  here = λ x y hx hy. number_same n (λ p. bit (window_plane new p) x (first + y)) (λ p. bit (plane_at rows p) x y) (λ p h. (each p h).here x y hx hy);
  below = λ x y h. number_same n (λ p. bit (window_plane new p) x y) (λ p. bit (window_plane old p) x y) (λ p k. (each p k).below x y h);
  above = λ x y h. number_same n (λ p. bit (window_plane new p) x y) (λ p. bit (window_plane old p) x y) (λ p k. (each p k).above x y h);
}

-- the planes from p on are as they were
pub record PutBelow (first : ℕ) (rows : List RowPlane) (old new : List WindowPlane) (n : ℕ) : Type 0 where
  pub len : length new ≡ length old
  pub each : (q : ℕ) → q < n → IsPutAt first (plane_at rows q) (window_plane old q) (window_plane new q)
  pub rest : (q : ℕ) → (q < n → ⊥) → window_plane new q ≡ window_plane old q

pub put_none : (first : ℕ) (rows : List RowPlane) (planes : List WindowPlane) → PutBelow first rows planes planes 0
put_none first rows planes = record {
  len = refl;
  each = λ q h. absurd (omega arith);
  rest = λ q h. refl;
}

pub put_more : (first n : ℕ) (rows : List RowPlane) (old new : List WindowPlane) (v : List ℕ) → n < length old
    → PutBelow first rows old new n → IsPutAt first (plane_at rows n) (window_plane new n) v → PutBelow first rows old (slice_set new n (record { rows = v })) (n + 1)
put_more first n rows old new v within so_far own =
    let now : List WindowPlane = slice_set new n (record { rows = v }) in
    let room : n < length new = omega (arith, so_far.len) in
    let was : window_plane new n ≡ window_plane old n = so_far.rest n (λ h. omega (arith, h)) in
    record {
      len = length-set new n (record { rows = v }) ∙ so_far.len;
      each = each_more n (λ q u. IsPutAt first (plane_at rows q) (window_plane old q) u) (window_plane new) (window_plane now) v so_far.each
          (subst (λ u. IsPutAt first (plane_at rows n) u v) was own) (window_set_same new n v room) (λ q other. window_set_other new n q v other);
      rest = λ q h. window_set_other new n q v (λ e. h (omega (arith, e))) ∙ so_far.rest q (λ k. h (omega (arith, k)));
    }

-- the rows of the planes below p were taken
pub record TakenBelow (first count : ℕ) (planes : List WindowPlane) (rows : List RowPlane) (n : ℕ) : Type 0 where
  pub len : length rows ≡ count
  pub each : (q : ℕ) → q < n → IsTakenFrom first (window_plane planes q) (plane_at rows q)

pub taken_none : (first count : ℕ) (planes : List WindowPlane) (rows : List RowPlane) → length rows ≡ count → TakenBelow first count planes rows 0
taken_none first count planes rows len = record {
  len = len;
  each = λ q h. absurd (omega arith);
}

pub taken_more : (first count n : ℕ) (planes : List WindowPlane) (rows : List RowPlane) (v : List ℕ) → n < count
    → TakenBelow first count planes rows n → IsTakenFrom first (window_plane planes n) v → TakenBelow first count planes (slice_set rows n (record { rows = v })) (n + 1)
taken_more first count n planes rows v within so_far own = record {
  len = length-set rows n (record { rows = v }) ∙ so_far.len;
  each = each_more n (λ q u. IsTakenFrom first (window_plane planes q) u) (plane_at rows) (plane_at (slice_set rows n (record { rows = v }))) v so_far.each
      own (row_set_same rows n v (omega (arith, so_far.len))) (λ q other. row_set_other rows n q v other);
}
