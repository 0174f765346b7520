-- Rows that are taken from others and put in their place.
use Rattle.std.proofs.Common.{◌≡◌, ℕ, ◌+◌, ◌-◌, ◌*◌, ◌/◌, ◌%◌, ◌^◌, ◌<◌, ◌≤◌, List, ◌++◌, length, get_or, take, drop, sym, ◌∙◌, ap, arith, zero-add}
use Rattle.std.specs.Int.{bit_at}
use Rattle.std.proofs.lemmas.List.{get_or-take, get_or-drop, get_or_append_left, get_or-append-add, length-take-le, length-drop}
use Rattle.std.proofs.lemmas.Simd.{get_or-chunk, put_chunk_whole}
use Rattle.std.proofs.lemmas.Nat.Bits.{bit_at_cat_high, bit_at_cat_low}
use Rattle.std.proofs.lemmas.Nat.{shr-shr}
use Rattle.bitplane_kernel.proofs.ReadLemmas.{bit_is}
use borrow.Rule.Slice.PartMut.{mid_of, put_mid, post_of}
use lib.Lanes.{chunk, put_chunk}
use Rattle.tile_steps.specs.Windows.{IsTakenFrom, IsPutAt}

mid_at : (a k : ℕ) (xs : List ℕ) (y : ℕ) → y < k → get_or (mid_of a k xs) y 0 ≡ get_or xs (a + y) 0
mid_at a k xs y h = get_or-take k (drop a xs) y 0 h ∙ get_or-drop a xs y 0

mid_length : (a k : ℕ) (xs : List ℕ) → a + k ≤ length xs → length (mid_of a k xs) ≡ k
mid_length a k xs h = length-take-le k (drop a xs) (omega (arith, length-drop a xs))

pub taken_rows : (first : ℕ) (rows : List ℕ) → IsTakenFrom first rows (chunk 0 4 (mid_of first (first + 4 - first) rows))
taken_rows first rows = record {
  same = λ x y hx hy.
      let four : y < first + 4 - first = omega arith in
      bit_is (chunk 0 4 (mid_of first (first + 4 - first) rows)) x y
      ∙ ap (λ n. bit_at n x) (get_or-chunk 0 4 (mid_of first (first + 4 - first) rows) y 0 hy ∙ ap (λ j. get_or (mid_of first (first + 4 - first) rows) j 0) (zero-add y) ∙ mid_at first (first + 4 - first) rows y four)
      ∙ sym (bit_is rows x (first + y));
}

module _ (a k : ℕ) (xs ys : List ℕ) (room : a + k ≤ length xs) (long : length ys ≡ k) where
  abbrev pub whole : List ℕ
  whole = take a xs ++ (ys ++ post_of a k xs)

  first_part : length (take a xs) ≡ a
  first_part = length-take-le a xs (omega arith)

  pub put_below : (y : ℕ) → y < a → get_or whole y 0 ≡ get_or xs y 0
  put_below y h = get_or_append_left (take a xs) (ys ++ post_of a k xs) 0 y (omega (arith, first_part)) ∙ get_or-take a xs y 0 h

  pub put_here : (y : ℕ) → y < k → get_or whole (a + y) 0 ≡ get_or ys y 0
  put_here y h =
      ap (λ n. get_or (take a xs ++ (ys ++ post_of a k xs)) (n + y) 0) (sym first_part)
      ∙ get_or-append-add (take a xs) (ys ++ post_of a k xs) y 0 ∙ get_or_append_left ys (post_of a k xs) 0 y (omega arith)

  pub put_above : (z : ℕ) → get_or whole (a + (k + z)) 0 ≡ get_or xs (a + (k + z)) 0
  put_above z =
      ap (λ n. get_or (take a xs ++ (ys ++ post_of a k xs)) (n + (k + z)) 0) (sym first_part)
      ∙ get_or-append-add (take a xs) (ys ++ post_of a k xs) (k + z) 0
      ∙ ap (λ n. get_or (ys ++ post_of a k xs) (n + z) 0) (sym long) ∙ get_or-append-add ys (post_of a k xs) z 0
      ∙ get_or-drop k (drop a xs) z 0 ∙ get_or-drop a xs (k + z) 0

pub put_four : (first : ℕ) (rows four : List ℕ) → first + 4 ≤ length rows → length four ≡ 4
    → IsPutAt first four rows (put_mid first (first + 4 - first) rows (put_chunk 0 (mid_of first (first + 4 - first) rows) four))
put_four first rows four room long =
    let k : ℕ = first + 4 - first in
    let is : k ≡ 4 = omega arith in
    let fits : first + k ≤ length rows = omega arith in
    let all : length four ≡ k = omega arith in
    let own : put_chunk 0 (mid_of first k rows) four ≡ four = put_chunk_whole (mid_of first k rows) four (mid_length first k rows fits ∙ sym all) in
    let new : List ℕ = put_mid first k rows four in
    let result : IsPutAt first four rows new = record {
      here = λ x y hx hy. bit_is new x (first + y) ∙ ap (λ n. bit_at n x) (put_here first k rows four fits all y (omega arith)) ∙ sym (bit_is four x y);
      below = λ x y h. bit_is new x y ∙ ap (λ n. bit_at n x) (put_below first k rows four fits all y h) ∙ sym (bit_is rows x y);
      above = λ x y h.
          let at : first + (k + (y - (first + 4))) ≡ y = omega arith in
          bit_is new x y ∙ ap (λ n. bit_at n x) (ap (λ j. get_or new j 0) (sym at) ∙ put_above first k rows four fits all (y - (first + 4)) ∙ ap (λ j. get_or rows j 0) at) ∙ sym (bit_is rows x y);
    } in
    rw own result

-- two numbers of 32 bits as one
pub west_bit : (east west x : ℕ) → x < 32 → bit_at (east * 4294967296 + west) x ≡ bit_at west x
west_bit east west x h = bit_at_cat_low east 32 west x h

pub east_bit : (east west x : ℕ) → west < 2 ^ 32 → bit_at (east * 4294967296 + west) (x + 32) ≡ bit_at east x
east_bit east west x small =
    bit_at_cat_high east 32 west (x + 32) small (omega arith) ∙ ap (bit_at east) (let back : x + 32 - 32 ≡ x = omega arith in back)

-- sixteen columns from the right, and 32 of these
pub middle_bit : (row x : ℕ) → x < 32 → bit_at (row / 65536 % 4294967296) x ≡ bit_at row (x + 16)
middle_bit row x h =
    let m : ℕ = row / 2 ^ 16 in
    let whole : m / 2 ^ 32 * 2 ^ 32 + m % 2 ^ 32 ≡ m = omega arith in
    sym (bit_at_cat_low (m / 2 ^ 32) 32 (m % 2 ^ 32) x h) ∙ ap (λ n. bit_at n x) whole
    ∙ ap (λ n. n % 2) (shr-shr row 16 x) ∙ ap (bit_at row) (let swap : 16 + x ≡ x + 16 = omega arith in swap)
