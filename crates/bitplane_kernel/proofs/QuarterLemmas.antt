-- Planes of a block and of its quarters, row by row.
use Rattle.std.proofs.Common.{◌≡◌, ℕ, zero, suc, ◌+◌, ◌-◌, ◌*◌, ◌^◌, ◌/◌, ◌%◌, ◌<◌, List, [], ◌∷◌, ◌++◌, length, get_or, map, arith, refl, sym, ◌∙◌, ap, add-zero, zero-add, add_comm}
use Rattle.std.specs.Prelude.{max, replicate, bit_and}
use Rattle.std.specs.Int.{bit_at, w8}
use Rattle.std.specs.List.{range_with_len}
use Rattle.std.specs.Simd.Lanes.{zip2, pick_l, number_l, digits_l, Each1}
use Rattle.std.proofs.lemmas.Simd.{get_or-zip2, length-zip2, get_or-replicate, get_or_narrower}
use Rattle.std.proofs.lemmas.Nat.{and_mask, pow-add}
use Rattle.std.proofs.lemmas.Nat.Bits.{bit_at_cat_low, bit_at_cat_high, bit_at-zero, bit_at_above}
use Rattle.std.proofs.lemmas.List.{get_or-map}
use Rattle.std.proofs.lemmas.List.FromFn.{get_or-range_with_len}
use mir.Val.{Fits}
use Rattle.std.proofs.Math.Nat.{pow-suc, div-add-mod', div-div-eq-div-mul}
use Rattle.bitplane_kernel.specs.Planes.{bit, HasRows, HasBits, IsJoinedPlane}
use Rattle.bitplane_kernel.proofs.BitLemmas.{picked}

-- the bits below k stay where a number is cut down to k bits
pub cut_bits : (n k i : ℕ) → i < k → bit_at (n % 2 ^ k) i ≡ bit_at n i
cut_bits n k i h =
    let whole = div-add-mod' n (2 ^ k) in
    sym (ap (λ m. bit_at m i) (sym whole) ∙ bit_at_cat_low (n / 2 ^ k) k (n % 2 ^ k) i h)

pub shifted_bits : (n k i : ℕ) → bit_at (n / 2 ^ k) i ≡ bit_at n (i + k)
shifted_bits n k i =
    ap (λ m. m % 2) (div-div-eq-div-mul n (2 ^ k) (2 ^ i) ∙ ap (λ m. n / m) (sym (pow-add 2 k i) ∙ ap (λ j. 2 ^ j) (add_comm k i)))

pow_256 : (y : ℕ) → 256 ^ y ≡ 2 ^ (8 * y)
pow_256 zero = refl
pow_256 (suc y) =
    let more : 8 * suc y ≡ 8 * y + 8 = omega arith in
    pow-suc 256 y ∙ ap (λ k. k * 256) (pow_256 y) ∙ sym (ap (λ k. 2 ^ k) more ∙ pow-add 2 (8 * y) 8)

-- byte y of a number has its bits from 8 * y on
byte_bits : (n x y : ℕ) → x < 8 → bit_at (n / 256 ^ y % 256) x ≡ bit_at n (8 * y + x)
byte_bits n x y h =
    cut_bits (n / 256 ^ y) 8 x h ∙ ap (λ k. bit_at (n / k) x) (pow_256 y) ∙ shifted_bits n (8 * y) x ∙ ap (bit_at n) (add_comm x (8 * y))

-- ---- casts and rows

pub same_row : (rows : List ℕ) (y : ℕ) → y < length rows → get_or (map (λ n. n) rows) y 0 ≡ get_or rows y 0
same_row rows y h = get_or-map (λ n. n) rows y 0 0 h

pub middle_row : (rows : List ℕ) (y : ℕ) → length rows ≡ 16 → y < 8 → get_or (pick_l 0 (rows ++ rows) (range_with_len 4 8)) y 0 ≡ get_or rows (y + 4) 0
middle_row rows y wide h = picked rows (range_with_len 4 8) y (y + 4) (omega arith) (get_or-range_with_len 4 8 y 0 h ∙ add_comm 4 y) (omega arith)

pub middle_byte : (rows : List ℕ) (y : ℕ) → length rows ≡ 8 → y < 8 → get_or (zip2 bit_and (zip2 (λ a b. a / 2 ^ b) rows (replicate 8 4)) (replicate 8 255)) y 0 ≡ get_or rows y 0 / 16 % 256
middle_byte rows y wide h =
    let shifted : List ℕ = zip2 (λ a b. a / 2 ^ b) rows (replicate 8 4) in
    let long : length shifted ≡ length rows = length-zip2 (λ a b. a / 2 ^ b) rows (replicate 8 4) wide in
    get_or-zip2 bit_and shifted (replicate 8 255) y 0 0 0 (omega arith) h
    ∙ ap (λ m. bit_and (get_or shifted y 0) m) (get_or-replicate 8 y 255 0 h) ∙ and_mask (get_or shifted y 0) 8
    ∙ ap (λ n. n % 256) (get_or-zip2 (λ a b. a / 2 ^ b) rows (replicate 8 4) y 0 0 0 (omega arith) h ∙ ap (λ b. get_or rows y 0 / 2 ^ b) (get_or-replicate 8 y 4 0 h))

-- a number made of bytes
number_row : (rows : List ℕ) (x y : ℕ) → x < 8 → y < length rows → Each1 (Fits w8) rows → bit_at (number_l 256 rows) (8 * y + x) ≡ bit_at (get_or rows y 0) x
number_row [] x y hx hy fits = absurd (omega arith)
number_row (row ∷ rows) x zero hx hy fits =
    let first : 8 * zero + x ≡ x = omega arith in
    let order : row + 256 * number_l 256 rows ≡ number_l 256 rows * 2 ^ 8 + row = omega arith in
    ap (λ n. bit_at n (8 * zero + x)) order ∙ ap (bit_at (number_l 256 rows * 2 ^ 8 + row)) first ∙ bit_at_cat_low (number_l 256 rows) 8 row x hx
number_row (row ∷ rows) x (suc y) hx hy fits =
    let order : row + 256 * number_l 256 rows ≡ number_l 256 rows * 2 ^ 8 + row = omega arith in
    let rest : 8 * suc y + x - 8 ≡ 8 * y + x = omega arith in
    ap (λ n. bit_at n (8 * suc y + x)) order
    ∙ bit_at_cat_high (number_l 256 rows) 8 row (8 * suc y + x) fits.0.fits (omega arith)
    ∙ ap (bit_at (number_l 256 rows)) rest
    ∙ number_row rows x y hx (omega arith) fits.1

pub bits_of_rows : (rows : List ℕ) (x y : ℕ) → length rows ≡ 8 → x < 8 → y < 8 → Each1 (Fits w8) rows → bit_at (number_l 256 rows % 2 ^ 64) (8 * y + x) ≡ bit_at (get_or rows y 0) x
bits_of_rows rows x y wide hx hy fits = cut_bits (number_l 256 rows) 64 (8 * y + x) (omega arith) ∙ number_row rows x y hx (omega arith) fits

pub north_byte : (north south y : ℕ) → north < 2 ^ 64 → south < 2 ^ 64 → y < 8 → get_or (digits_l 256 16 (number_l (2 ^ 64) (north ∷ south ∷ []))) y 0 ≡ north / 256 ^ y % 256
north_byte north south y hn hs h =
    ap (λ k. get_or (digits_l 256 16 (number_l (2 ^ 64) (north ∷ south ∷ []))) k 0) (sym (zero-add y))
    ∙ get_or_narrower (2 ^ 64) 8 256 16 (north ∷ south ∷ []) 0 y refl (hn, (hs, tt)) h (omega arith)

pub south_byte : (north south y : ℕ) → north < 2 ^ 64 → south < 2 ^ 64 → y < 8 → get_or (digits_l 256 16 (number_l (2 ^ 64) (north ∷ south ∷ []))) (y + 8) 0 ≡ south / 256 ^ y % 256
south_byte north south y hn hs h =
    ap (λ k. get_or (digits_l 256 16 (number_l (2 ^ 64) (north ∷ south ∷ []))) k 0) (add_comm y 8)
    ∙ get_or_narrower (2 ^ 64) 8 256 16 (north ∷ south ∷ []) 1 y refl (hn, (hs, tt)) h (omega arith)

-- ---- bits

eight_up_low : (a x : ℕ) → x < 8 → bit_at (a * 2 ^ 8 % 2 ^ 16) x ≡ 0
eight_up_low a x h =
    cut_bits (a * 2 ^ 8) 16 x (omega arith) ∙ ap (λ n. bit_at n x) (sym (add-zero (a * 2 ^ 8))) ∙ bit_at_cat_low a 8 0 x h ∙ bit_at-zero x

eight_up_high : (a x : ℕ) → x < 8 → bit_at (a * 2 ^ 8 % 2 ^ 16) (x + 8) ≡ bit_at a x
eight_up_high a x h =
    cut_bits (a * 2 ^ 8) 16 (x + 8) (omega arith) ∙ ap (λ n. bit_at n (x + 8)) (sym (add-zero (a * 2 ^ 8)))
    ∙ bit_at_cat_high a 8 0 (x + 8) (omega arith) (omega arith) ∙ ap (bit_at a) (let back : x + 8 - 8 ≡ x = omega arith in back)

eight_row : (xs : List ℕ) (y : ℕ) → length xs ≡ 16 → y < 16 → get_or (zip2 (λ a b. a * 2 ^ b % 2 ^ 16) xs (replicate 16 8)) y 0 ≡ get_or xs y 0 * 2 ^ 8 % 2 ^ 16
eight_row xs y wide h =
    get_or-zip2 (λ a b. a * 2 ^ b % 2 ^ 16) xs (replicate 16 8) y 0 0 0 (omega arith) h ∙ ap (λ b. get_or xs y 0 * 2 ^ b % 2 ^ 16) (get_or-replicate 16 y 8 0 h)

pub eight_columns_low : (xs : List ℕ) (x y : ℕ) → length xs ≡ 16 → x < 8 → y < 16 → bit (zip2 (λ a b. a * 2 ^ b % 2 ^ 16) xs (replicate 16 8)) x y ≡ 0
unfolding bit
eight_columns_low xs x y wide h k = ap (λ n. bit_at n x) (eight_row xs y wide k) ∙ eight_up_low (get_or xs y 0) x h

pub eight_columns_high : (xs : List ℕ) (x y : ℕ) → length xs ≡ 16 → x < 8 → y < 16 → bit (zip2 (λ a b. a * 2 ^ b % 2 ^ 16) xs (replicate 16 8)) (x + 8) y ≡ bit xs x y
unfolding bit
eight_columns_high xs x y wide h k = ap (λ n. bit_at n (x + 8)) (eight_row xs y wide k) ∙ eight_up_high (get_or xs y 0) x h

pub has_rows : (north south : ℕ) (bytes rows : List ℕ)
    → ((y : ℕ) → y < 8 → get_or bytes y 0 ≡ north / 256 ^ y % 256) → ((y : ℕ) → y < 8 → get_or bytes (y + 8) 0 ≡ south / 256 ^ y % 256)
    → ((y : ℕ) → y < 16 → get_or rows y 0 ≡ get_or bytes y 0) → ((y : ℕ) → y < 16 → get_or rows y 0 < 256) → HasRows north south rows
unfolding bit
has_rows north south bytes rows n s same small = record {
  upper = λ x y hx hy. ap (λ k. bit_at k x) (same y (omega arith) ∙ n y hy) ∙ byte_bits north x y hx;
  lower = λ x y hx hy. ap (λ k. bit_at k x) (same (y + 8) (omega arith) ∙ s y hy) ∙ byte_bits south x y hx;
  east = λ x y hx hy. bit_at_above (get_or rows y 0) 8 (x + 8) (small y hy) (omega arith);
}

pub joined_plane : (nw ne sw se : ℕ) (west east moved whole : List ℕ) → HasRows nw sw west → HasRows ne se east
    → ((x y : ℕ) → x < 8 → y < 16 → bit moved x y ≡ 0) → ((x y : ℕ) → x < 8 → y < 16 → bit moved (x + 8) y ≡ bit east x y)
    → HasBits whole (λ x y. max (bit west x y) (bit moved x y)) → IsJoinedPlane nw ne sw se whole
joined_plane nw ne sw se west east moved whole w e none there both = record {
  north_west = λ x y hx hy. both.bits x y (omega arith) (omega arith) ∙ rw (none x y hx (omega arith), w.upper x y hx hy) (let h : max (bit_at nw (8 * y + x)) 0 ≡ bit_at nw (8 * y + x) = omega arith in h);
  north_east = λ x y hx hy. both.bits (x + 8) y (omega arith) (omega arith) ∙ rw (there x y hx (omega arith), w.east x y hx (omega arith), e.upper x y hx hy) (let h : max 0 (bit_at ne (8 * y + x)) ≡ bit_at ne (8 * y + x) = omega arith in h);
  south_west = λ x y hx hy. both.bits x (y + 8) (omega arith) (omega arith) ∙ rw (none x (y + 8) hx (omega arith), w.lower x y hx hy) (let h : max (bit_at sw (8 * y + x)) 0 ≡ bit_at sw (8 * y + x) = omega arith in h);
  south_east = λ x y hx hy. both.bits (x + 8) (y + 8) (omega arith) (omega arith) ∙ rw (there x (y + 8) hx (omega arith), w.east x (y + 8) hx (omega arith), e.lower x y hx hy) (let h : max 0 (bit_at se (8 * y + x)) ≡ bit_at se (8 * y + x) = omega arith in h);
}

pub middle_bits : (plane rows columns bytes : List ℕ) (n : ℕ) → ((y : ℕ) → y < 8 → get_or rows y 0 ≡ get_or plane (y + 4) 0) → ((y : ℕ) → y < 8 → get_or columns y 0 ≡ get_or rows y 0 / 16 % 256)
    → ((y : ℕ) → y < 8 → get_or bytes y 0 ≡ get_or columns y 0) → ((x y : ℕ) → x < 8 → y < 8 → bit_at n (8 * y + x) ≡ bit_at (get_or bytes y 0) x)
    → (x y : ℕ) → x < 8 → y < 8 → bit_at n (8 * y + x) ≡ bit plane (x + 4) (y + 4)
unfolding bit
middle_bits plane rows columns bytes n r co by nu x y hx hy =
    nu x y hx hy ∙ ap (λ k. bit_at k x) (by y hy ∙ co y hy ∙ ap (λ k. k / 16 % 256) (r y hy))
    ∙ cut_bits (get_or plane (y + 4) 0 / 16) 8 x hx ∙ shifted_bits (get_or plane (y + 4) 0) 4 x
