-- Leaves: planes from states, and states from planes.
use Rattle.std.proofs.Common.{◌≡◌, ℕ, ◌+◌, ◌-◌, ◌*◌, ◌^◌, ◌%◌, ◌<◌, List, length, get_or, map, arith, inl, inr, sym, ◌∙◌, ap, lit<, w8}
use Rattle.std.specs.Prelude.{replicate, bit_and, eqb, cond, false, slice_set}
use Rattle.std.specs.Int.{bit_at}
use Rattle.std.specs.Simd.Lanes.{zip2, mask_l, top}
use Rattle.std.proofs.Math.Nat.{mod-eq_of_lt}
use Rattle.std.proofs.lemmas.Simd.{get_or-zip2, length-zip2, get_or-replicate, bitmask_splat, bit_mask_l}
use Rattle.std.proofs.lemmas.Nat.Bits.{bit_at-lt, and_pow, bit_at_cat_high, bit_at_lowest}
use Rattle.std.proofs.lemmas.List.{get_or-map, ext_get_or, get_or-set_same, get_or-set_other, length-set}
use Rattle.std.proofs.lemmas.Bool.Decides.{eqb_tells}
use Rattle.std.proofs.lemmas.Bool.{eq-eqb, ne_eqb}
use Rattle.bitplane_kernel.specs.declared.planes.BitPlane.{BitPlane}
use Rattle.bitplane_kernel.specs.Planes.{bit, number, plane_at, leaf_states, block_states, IsJoinedPlane}
use Rattle.bitplane_kernel.specs.Square.{state_at, IsJoined, IsCentre}
use Rattle.bitplane_kernel.specs.Digits.{by_digit, digit_of_number, number_lt, number_same, number_of_digits, leaf_read, leaf_length}
use Rattle.bitplane_kernel.proofs.ReadLemmas.{worth}
use Rattle.bitplane_kernel.proofs.PlaneLemmas.{plane_set_same, plane_set_other}
use Rattle.bitplane_kernel.proofs.SquareLemmas.{block_read}

-- a byte by its eight digits
pub byte_of_digits : (s : ℕ) (f : ℕ → ℕ) → s < 256 → ((p : ℕ) → p < 8 → f p ≡ bit_at s p) → number 8 f ≡ s
byte_of_digits s f h same = number_same 8 f (bit_at s) same ∙ number_of_digits 8 s ∙ mod-eq_of_lt h

pub leaf_digit : (planes : List ℕ) (p i : ℕ) → p < 8 → i < 64 → bit_at (get_or planes p 0) i ≡ bit_at (get_or (leaf_states planes) i 0) p
leaf_digit planes p i hp hi =
    sym (ap (λ s. bit_at s p) (leaf_read planes i hi) ∙ digit_of_number 8 p (λ q. bit_at (get_or planes q 0) i) hp (λ q k. bit_at-lt _ _))

pub leaf_below : (planes : List ℕ) (i : ℕ) → i < 64 → get_or (leaf_states planes) i 0 < 256
leaf_below planes i h = rw (leaf_read planes i h) (number_lt 8 (λ q. bit_at (get_or planes q 0) i) (λ q k. bit_at-lt _ _))

-- ---- the digits of 64 states

one_digit : (s p : ℕ) → cond (eqb (bit_and s (2 ^ p)) (2 ^ p)) 1 0 ≡ bit_at s p
one_digit s p =
    rw (and_pow s p) (by_digit (λ d. cond (eqb (d * 2 ^ p) (2 ^ p)) 1 0 ≡ d) (bit_at s p) (bit_at-lt s p)
    (ap (λ b. cond b 1 0) (ne_eqb (0 * 2 ^ p) (2 ^ p) (λ e. omega (arith, e, number_lt p (λ _. 0) (λ q k. lit< tt)))))
    (ap (λ b. cond b 1 0) (eq-eqb (1 * 2 ^ p) (2 ^ p) (omega arith))))

pub digits_of : (states : List ℕ) (p i : ℕ) → length states ≡ 64 → p < 8 → i < 64
    → bit_at (mask_l (map (top 7) (zip2 (λ a b. cond (eqb a b) (2 ^ 8 - 1) 0) (zip2 bit_and states (replicate 64 (1 * 2 ^ p % 256))) (replicate 64 (1 * 2 ^ p % 256)))) % 2 ^ 64) i
    ≡ bit_at (get_or states i 0) p
digits_of states p i wide hp hi =
    let w : ℕ = 1 * 2 ^ p % 256 in
    let parts : List ℕ = zip2 bit_and states (replicate 64 w) in
    let long : length parts ≡ 64 = length-zip2 bit_and states (replicate 64 w) wide ∙ wide in
    ap (λ n. bit_at n i) (bitmask_splat w8 eqb parts 64 w long (omega arith))
    ∙ bit_mask_l (map (λ x. eqb x w) parts) i
    ∙ ap (λ b. cond b 1 0) (get_or-map (λ x. eqb x w) parts i 0 false (omega arith))
    ∙ ap (λ x. cond (eqb x w) 1 0) (get_or-zip2 bit_and states (replicate 64 w) i 0 0 0 (omega arith) hi ∙ ap (bit_and (get_or states i 0)) (get_or-replicate 64 i w 0 hi))
    ∙ rw (worth p hp) (one_digit (get_or states i 0) p)

-- the planes below n have the digits of these states
pub record HasDigits (n : ℕ) (states planes : List ℕ) : Type 0 where
  pub len : length planes ≡ 8
  pub digits : (p i : ℕ) → p < n → i < 64 → bit_at (get_or planes p 0) i ≡ bit_at (get_or states i 0) p

pub digits_none : (states planes : List ℕ) → length planes ≡ 8 → HasDigits 0 states planes
digits_none states planes len = record { len = len; digits = λ p i h k. absurd (omega arith) }

pub digits_more : (n : ℕ) (states planes : List ℕ) (plane : ℕ) → n < 8 → HasDigits n states planes → ((i : ℕ) → i < 64 → bit_at plane i ≡ bit_at (get_or states i 0) n)
    → HasDigits (n + 1) states (slice_set planes n plane)
digits_more n states planes plane h so_far own =
    let room : n < length planes = omega (arith, so_far.len) in
    record {
      len = length-set planes n plane ∙ so_far.len;
      digits = λ p i small k. elim (eqb_tells p n) [
        | inl same ↦ ap (λ q. bit_at (get_or (slice_set planes n plane) q 0) i) same.1 ∙ ap (λ v. bit_at v i) (get_or-set_same planes n plane 0 room) ∙ own i k ∙ ap (bit_at (get_or states i 0)) (sym same.1)
        | inr other ↦ ap (λ v. bit_at v i) (get_or-set_other planes n p plane 0 other.1) ∙ so_far.digits p i (omega (arith, other.1)) k
      ];
    }

pub states_back : (n : ℕ) (states planes : List ℕ) → n ≡ 8 → length states ≡ 64 → ((i : ℕ) → i < 64 → get_or states i 0 < 256) → HasDigits n states planes → leaf_states planes ≡ states
states_back n states planes is wide small has =
    ext_get_or 0 (leaf_states planes) states (leaf_length planes ∙ sym wide)
    (λ i h. let within : i < 64 = omega (arith, leaf_length planes) in
    leaf_read planes i within ∙ byte_of_digits (get_or states i 0) (λ p. bit_at (get_or planes p 0) i) (small i within) (λ p k. has.digits p i (omega arith) within))

-- ---- quarters and the middle

-- each state of a leaf is a byte
pub record AreBytes (states : List ℕ) : Type 0 where
  pub below : (i : ℕ) → i < 64 → get_or states i 0 < 256

-- the planes below n have the digits of four leaves
pub record JoinedBelow (n : ℕ) (nw ne sw se : List ℕ) (planes : List BitPlane) : Type 0 where
  pub len : length planes ≡ 8
  pub small : 0 < n → AreBytes nw × AreBytes ne × AreBytes sw × AreBytes se
  pub north_west : (p x y : ℕ) → p < n → x < 8 → y < 8 → bit (plane_at planes p) x y ≡ bit_at (state_at 8 nw x y) p
  pub north_east : (p x y : ℕ) → p < n → x < 8 → y < 8 → bit (plane_at planes p) (x + 8) y ≡ bit_at (state_at 8 ne x y) p
  pub south_west : (p x y : ℕ) → p < n → x < 8 → y < 8 → bit (plane_at planes p) x (y + 8) ≡ bit_at (state_at 8 sw x y) p
  pub south_east : (p x y : ℕ) → p < n → x < 8 → y < 8 → bit (plane_at planes p) (x + 8) (y + 8) ≡ bit_at (state_at 8 se x y) p

pub joined_none : (nw ne sw se : List ℕ) (planes : List BitPlane) → length planes ≡ 8 → JoinedBelow 0 nw ne sw se planes
joined_none nw ne sw se planes len = record {
  len = len;
  small = λ h. absurd (omega arith);
  north_west = λ p x y h hx hy. absurd (omega arith);
  north_east = λ p x y h hx hy. absurd (omega arith);
  south_west = λ p x y h hx hy. absurd (omega arith);
  south_east = λ p x y h hx hy. absurd (omega arith);
}

-- the digits of one more plane, at a place of the block and the place of a leaf that it comes from
one_more : (n : ℕ) (planes : List BitPlane) (v leaf : List ℕ) (u w i : ℕ) → n < length planes
    → ((p : ℕ) → p < n → bit (plane_at planes p) u w ≡ bit_at (get_or leaf i 0) p) → bit v u w ≡ bit_at (get_or leaf i 0) n
    → (p : ℕ) → p < n + 1 → bit (plane_at (slice_set planes n (record { rows = v })) p) u w ≡ bit_at (get_or leaf i 0) p
one_more n planes v leaf u w i room so_far own p h = elim (eqb_tells p n) [
  | inl same ↦
      ap (λ q. bit (plane_at (slice_set planes n (record { rows = v })) q) u w) same.1 ∙ ap (λ r. bit r u w) (plane_set_same planes n v room)
      ∙ own ∙ ap (bit_at (get_or leaf i 0)) (sym same.1)
  | inr other ↦ ap (λ r. bit r u w) (plane_set_other planes n p v other.1) ∙ so_far p (omega (arith, other.1))
]

-- what a leaf tells of its plane n
pub record HasPlane (n : ℕ) (states : List ℕ) (plane : ℕ) : Type 0 where
  pub digits : (i : ℕ) → i < 64 → bit_at plane i ≡ bit_at (get_or states i 0) n
  pub below : (i : ℕ) → i < 64 → get_or states i 0 < 256

pub joined_more : (n : ℕ) (nw ne sw se : List ℕ) (planes : List BitPlane) (a b d e : ℕ) (v : List ℕ) → n < 8 → JoinedBelow n nw ne sw se planes
    → HasPlane n nw a → HasPlane n ne b → HasPlane n sw d → HasPlane n se e → IsJoinedPlane a b d e v
    → JoinedBelow (n + 1) nw ne sw se (slice_set planes n (record { rows = v }))
joined_more n nw ne sw se planes a b d e v h so_far ha hb hd he joined =
    let room : n < length planes = omega (arith, so_far.len) in
    record {
      len = length-set planes n (record { rows = v }) ∙ so_far.len;
      small = λ some. (record { below = ha.below }, record { below = hb.below }, record { below = hd.below }, record { below = he.below });
      north_west = λ p x y k hx hy. one_more n planes v nw x y (8 * y + x) room (λ q l. so_far.north_west q x y l hx hy)
          (joined.north_west x y hx hy ∙ ha.digits (8 * y + x) (omega arith)) p k;
      north_east = λ p x y k hx hy. one_more n planes v ne (x + 8) y (8 * y + x) room (λ q l. so_far.north_east q x y l hx hy)
          (joined.north_east x y hx hy ∙ hb.digits (8 * y + x) (omega arith)) p k;
      south_west = λ p x y k hx hy. one_more n planes v sw x (y + 8) (8 * y + x) room (λ q l. so_far.south_west q x y l hx hy)
          (joined.south_west x y hx hy ∙ hd.digits (8 * y + x) (omega arith)) p k;
      south_east = λ p x y k hx hy. one_more n planes v se (x + 8) (y + 8) (8 * y + x) room (λ q l. so_far.south_east q x y l hx hy)
          (joined.south_east x y hx hy ∙ he.digits (8 * y + x) (omega arith)) p k;
    }

pub joined_all : (n : ℕ) (nw ne sw se : List ℕ) (planes : List BitPlane) → n ≡ 8 → JoinedBelow n nw ne sw se planes → IsJoined nw ne sw se (block_states planes)
joined_all n nw ne sw se planes is joined =
    let small = joined.small (omega arith) in
    record {
      north_west = λ x y hx hy. block_read planes x y (omega arith) (omega arith)
          ∙ byte_of_digits (state_at 8 nw x y) (λ p. bit (plane_at planes p) x y) (small.0.below (8 * y + x) (omega arith)) (λ p k. joined.north_west p x y (omega arith) hx hy);
      north_east = λ x y hx hy. block_read planes (x + 8) y (omega arith) (omega arith)
          ∙ byte_of_digits (state_at 8 ne x y) (λ p. bit (plane_at planes p) (x + 8) y) (small.1.below (8 * y + x) (omega arith)) (λ p k. joined.north_east p x y (omega arith) hx hy);
      south_west = λ x y hx hy. block_read planes x (y + 8) (omega arith) (omega arith)
          ∙ byte_of_digits (state_at 8 sw x y) (λ p. bit (plane_at planes p) x (y + 8)) (small.2.below (8 * y + x) (omega arith)) (λ p k. joined.south_west p x y (omega arith) hx hy);
      south_east = λ x y hx hy. block_read planes (x + 8) (y + 8) (omega arith) (omega arith)
          ∙ byte_of_digits (state_at 8 se x y) (λ p. bit (plane_at planes p) (x + 8) (y + 8)) (small.3.below (8 * y + x) (omega arith)) (λ p k. joined.south_east p x y (omega arith) hx hy);
    }

-- the planes of a leaf below n are the middles of a block's
pub record MiddleBelow (n : ℕ) (planes : List BitPlane) (leaf : List ℕ) : Type 0 where
  pub len : length leaf ≡ 8
  pub middle : (p x y : ℕ) → p < n → x < 8 → y < 8 → bit_at (get_or leaf p 0) (8 * y + x) ≡ bit (plane_at planes p) (x + 4) (y + 4)

pub middle_none : (planes : List BitPlane) (leaf : List ℕ) → length leaf ≡ 8 → MiddleBelow 0 planes leaf
middle_none planes leaf len = record { len = len; middle = λ p x y h hx hy. absurd (omega arith) }

pub middle_more : (n : ℕ) (planes : List BitPlane) (leaf : List ℕ) (plane : ℕ) → n < 8 → MiddleBelow n planes leaf
    → ((x y : ℕ) → x < 8 → y < 8 → bit_at plane (8 * y + x) ≡ bit (plane_at planes n) (x + 4) (y + 4)) → MiddleBelow (n + 1) planes (slice_set leaf n plane)
middle_more n planes leaf plane h so_far own =
    let room : n < length leaf = omega (arith, so_far.len) in
    record {
      len = length-set leaf n plane ∙ so_far.len;
      middle = λ p x y small hx hy. elim (eqb_tells p n) [
        | inl same ↦
            ap (λ q. bit_at (get_or (slice_set leaf n plane) q 0) (8 * y + x)) same.1 ∙ ap (λ v. bit_at v (8 * y + x)) (get_or-set_same leaf n plane 0 room)
            ∙ own x y hx hy ∙ ap (λ q. bit (plane_at planes q) (x + 4) (y + 4)) (sym same.1)
        | inr other ↦ ap (λ v. bit_at v (8 * y + x)) (get_or-set_other leaf n p plane 0 other.1) ∙ so_far.middle p x y (omega (arith, other.1)) hx hy
      ];
    }

pub middle_all : (n : ℕ) (planes : List BitPlane) (leaf : List ℕ) → n ≡ 8 → MiddleBelow n planes leaf → IsCentre (block_states planes) (leaf_states leaf)
middle_all n planes leaf is has = record {
  middle = λ x y hx hy.
      leaf_read leaf (8 * y + x) (omega arith)
      ∙ number_same 8 (λ p. bit_at (get_or leaf p 0) (8 * y + x)) (λ p. bit (plane_at planes p) (x + 4) (y + 4)) (λ p h. has.middle p x y (omega arith) hx hy)
      ∙ sym (block_read planes (x + 4) (y + 4) (omega arith) (omega arith));
}
