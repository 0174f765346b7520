-- Morton codes, and cells in the order of their codes.
use Rattle.std.proofs.Common.{◌≡◌, ℕ, zero, suc, ◌+◌, ◌-◌, ◌*◌, ◌/◌, ◌%◌, ◌^◌, ◌<◌, ◌≤◌, ◌==◌, Bool, true, false, List, [], ◌∷◌, length, take, drop, inl, inr, refl, sym, ap, ◌∙◌, subst, arith, bit_and, bit_or}
use Rattle.std.specs.Prelude.{◌&&◌, not, nat_le, nat_lt, filter, slice_index_or}
use Rattle.std.specs.Int.{bit_at}
use Rattle.std.specs.List.Sorted.{IsNonDecreasingBy, IsPartitionPoint, IsStableByKey, ties}
use Rattle.std.specs.Ordering.{nat_cmp, is_lt}
use Rattle.std.proofs.lemmas.Bool.{cases_Bool, and_parts}
use Rattle.std.proofs.lemmas.Bool.Decides.{nat_tests}
use Rattle.std.proofs.lemmas.List.Elements.{All-filter, filter_agree, filter_passes}
use Rattle.std.proofs.lemmas.List.Kept.{IsNonDecreasingBy-filter}
use Rattle.std.proofs.lemmas.Nat.{pow-add, pow_pos, shr-shr, shr_split, le-div, mod-pow-add, shr_below, mod_below}
use Rattle.std.proofs.Math.Nat.{mul_assoc}
use Rattle.std.proofs.lemmas.Nat.Bits.{bit_at-suc, bit_at-lt}
use Rattle.square_store.specs.Squares.{side_at}
use Rattle.stamped_tree.specs.declared.cells.ListedCell.{ListedCell}
use Rattle.stamped_tree.specs.Drawing.{state_listed, is_on_side, is_cell_in, moved_cell, cells_in}
use Rattle.stamped_tree.specs.Morton.{interleaved, code_of, digit_at, IsMortonRun, in_square, listed_in}

-- ---- codes

-- the bits of the column, and those of the row
pub apart : (w u v : ℕ) → interleaved w u v ≡ interleaved w u 0 + 2 * interleaved w v 0
unfolding interleaved
apart zero u v = refl
apart (suc w) u v = let e = apart w (u / 2) (v / 2) in omega (arith, e)

-- the low k bits, and the others
pub pieces : (k w u : ℕ) → interleaved (k + w) u 0 ≡ interleaved k (u % 2 ^ k) 0 + 2 ^ (2 * k) * interleaved w (u / 2 ^ k) 0
unfolding interleaved
pieces zero w u = let e : u / 1 ≡ u = omega arith in let none : 0 + w ≡ w = omega arith in rw (none, e) (omega arith)
pieces (suc k) w u =
    let same : suc k + w ≡ suc (k + w) = omega arith in
    let e = pieces k w (u / 2) in
    let wide : 2 ^ (2 * suc k) ≡ 4 * 2 ^ (2 * k) = (let d : 2 * suc k ≡ 2 * k + 2 = omega arith in rw (d, pow-add 2 (2 * k) 2) (omega arith)) in
    let up : suc k ≡ k + 1 = omega arith in
    let low : u % 2 ^ suc k ≡ 2 * (u / 2 % 2 ^ k) + u % 2 = (let m = mod-pow-add u k 1 in rw up (omega (arith, m))) in
    let high : u / 2 ^ suc k ≡ u / 2 / 2 ^ k = (let d : suc k ≡ 1 + k = omega arith in rw d (sym (shr-shr u 1 k))) in
    let first : (2 * (u / 2 % 2 ^ k) + u % 2) % 2 ≡ u % 2 = omega arith in
    let rest : (2 * (u / 2 % 2 ^ k) + u % 2) / 2 ≡ u / 2 % 2 ^ k = omega arith in
    let product = mul_assoc 4 (2 ^ (2 * k)) (interleaved w (u / 2 / 2 ^ k) 0) in
    rw (same, low, high, first, rest, wide, e, product) (omega arith)

pub digit_is : (i w u v : ℕ) → i < w → interleaved w u v / 2 ^ (2 * i) % 4 ≡ 2 * bit_at v i + bit_at u i
unfolding interleaved
digit_is i zero u v h = absurd (omega (arith, h))
digit_is zero (suc w) u v h = omega arith
digit_is (suc i) (suc w) u v h =
    let x = interleaved w (u / 2) (v / 2) in
    let n = u % 2 + 2 * (v % 2) + 4 * x in
    let low : n / 2 ^ 2 ≡ x = omega arith in
    let e : n / 2 ^ (2 * suc i) ≡ x / 2 ^ (2 * i) = (let d : 2 * suc i ≡ 2 + 2 * i = omega arith in rw d (sym (shr-shr n 2 (2 * i)) ∙ ap (λ m. m / 2 ^ (2 * i)) low)) in
    rw (e, bit_at-suc u i, bit_at-suc v i) (digit_is i w (u / 2) (v / 2) (omega (arith, h)))

pub code_below : (w u v : ℕ) → interleaved w u v < 2 ^ (2 * w)
unfolding interleaved
code_below zero u v = omega arith
code_below (suc w) u v =
    let wide : 2 ^ (2 * suc w) ≡ 4 * 2 ^ (2 * w) = (let d : 2 * suc w ≡ 2 * w + 2 = omega arith in rw (d, pow-add 2 (2 * w) 2) (omega arith)) in
    let h = code_below w (u / 2) (v / 2) in
    omega (arith, h, wide)

-- ---- bytes

abbrev all_below : ℕ → (ℕ → Bool) → Bool
all_below zero p = true
all_below (suc n) p = p n && all_below n p

each_below : (n : ℕ) (p : ℕ → Bool) → all_below n p ≡ true → (k : ℕ) → k < n → p k ≡ true
each_below zero p h k l = absurd (omega (arith, l))
each_below (suc n) p h k l = elim (cases_Bool (k == n)) [
  | inl e ↦ (let same : k ≡ n = grind (arith, nat_tests, e) in subst (λ z. p z ≡ true) (sym same) (and_parts _ _ h).0)
  | inr e ↦ each_below n p (and_parts _ _ h).1 k (grind (arith, nat_tests, e, l))
]

abbrev pub masked : ℕ → ℕ
masked b =
    let nibbles = bit_and (bit_or b (b * 2 ^ 4 % 2 ^ 32)) 3855 in
    let pairs = bit_and (bit_or nibbles (nibbles * 2 ^ 2 % 2 ^ 32)) 13107 in
    bit_and (bit_or pairs (pairs * 2 ^ 1 % 2 ^ 32)) 21845

all_bytes : all_below 256 (λ b. masked b == interleaved 8 b 0) ≡ true
unfolding interleaved
all_bytes = refl

pub byte_spread : (b : ℕ) → b < 256 → masked b ≡ interleaved 8 b 0
byte_spread b h = (let e = each_below 256 (λ b. masked b == interleaved 8 b 0) all_bytes b h in grind (arith, nat_tests, e))

-- ---- runs

split_code : (n bit : ℕ) → (n / 2 ^ (2 * (bit + 1)) ≡ n / 2 ^ (2 * bit) / 4)
split_code n bit = let d : 2 * (bit + 1) ≡ 2 * bit + 2 = omega arith in rw d (sym (shr-shr n (2 * bit) 2))

-- all cells of the plane are of one square
pub whole_run : (cells : List ListedCell) → IsNonDecreasingBy code_of cells → IsMortonRun 31 cells
whole_run cells order = record {
  order = order;
  square = 0;
  within = λ k d h. (let c = slice_index_or cells k d in let l = shr_below (code_of c) 0 62 (code_below 31 c.column c.row) in omega (arith, l));
}

-- the digits of a square's cells rise
pub digits_rise : (bit : ℕ) (cells : List ListedCell) → bit < 31 → IsMortonRun (bit + 1) cells → IsNonDecreasingBy (digit_at bit) cells
digits_rise bit cells l run i j d h k =
    let a = slice_index_or cells i d in
    let b = slice_index_or cells j d in
    let m = code_of a / 2 ^ (2 * bit) in
    let n = code_of b / 2 ^ (2 * bit) in
    let da : m % 4 ≡ digit_at bit a = digit_is bit 31 a.column a.row l in
    let db : n % 4 ≡ digit_at bit b = digit_is bit 31 b.column b.row l in
    let high : m / 4 ≡ n / 4 = sym (split_code (code_of a) bit) ∙ run.within i d (omega (arith, h, k)) ∙ sym (run.within j d k) ∙ split_code (code_of b) bit in
    let up : m ≤ n = (let rise = run.order i j d h k in let low = shr_split (code_of a) (2 * bit) in le-div m (code_of b) (2 ^ (2 * bit)) (pow_pos (2 * bit)) (omega (arith, rise, low))) in
    omega (arith, da, db, high, up)

-- the cells of a quarter are of one square
pub quarter_run : (bit q : ℕ) (cells : List ListedCell) → bit < 31 → IsMortonRun (bit + 1) cells → IsMortonRun bit (filter (λ c. digit_at bit c == q) cells)
quarter_run bit q cells l run = record {
  order = IsNonDecreasingBy-filter code_of (λ c. digit_at bit c == q) cells run.order;
  square = 4 * run.square + q;
  within = λ k d h. (
      let c = slice_index_or (filter (λ c. digit_at bit c == q) cells) k d in
      let m = code_of c / 2 ^ (2 * bit) in
      let high : m / 4 ≡ run.square = sym (split_code (code_of c) bit) ∙ All-filter (λ c. digit_at bit c == q) (λ c. code_of c / 2 ^ (2 * (bit + 1)) ≡ run.square) cells run.within k d h in
      let is : (digit_at bit c == q) ≡ true = filter_passes (λ c. digit_at bit c == q) cells k d h in
      let digit : digit_at bit c ≡ q = grind (arith, nat_tests, is) in
      let low : m % 4 ≡ digit_at bit c = digit_is bit 31 c.column c.row l in
      omega (arith, high, digit, low));
}

-- ---- cuts

none_passes : {X : Type 0} (p : X → Bool) (xs : List X) → ((k : ℕ) (d : X) → k < length xs → p (slice_index_or xs k d) ≡ false) → ([] ≡ filter p xs) × (xs ≡ filter (λ x. not (p x)) xs)
none_passes p [] none = (refl, refl)
none_passes p (x ∷ xs) none =
    let first : p x ≡ false = none 0 x (omega arith) in
    let rest = none_passes p xs (λ k d h. none (suc k) d (omega (arith, h))) in
    rw first (rest.0, ap (λ l. x ∷ l) rest.1)

-- a list of which the first i pass a test, and no others
pub cut_is : {X : Type 0} (p : X → Bool) (xs : List X) (i : ℕ) → i ≤ length xs → IsPartitionPoint (λ y. p y ≡ true) (λ y. p y ≡ false) xs i → (take i xs ≡ filter p xs) × (drop i xs ≡ filter (λ x. not (p x)) xs)
cut_is p xs zero long point = none_passes p xs (λ k d h. point.1 k d (omega arith) h)
cut_is p [] (suc i) long point = absurd (omega (arith, long))
cut_is p (x ∷ xs) (suc i) long point =
    let first : p x ≡ true = point.0 0 x (omega arith) (omega arith) in
    let rest = cut_is p xs i (omega (arith, long)) (λ k d l h. point.0 (suc k) d (omega arith) (omega (arith, h)), λ k d l h. point.1 (suc k) d (omega (arith, l)) (omega (arith, h))) in
    rw first (ap (λ l. x ∷ l) rest.0, rest.1)

pub filter_filter : {X : Type 0} (p r : X → Bool) (xs : List X) → filter p (filter r xs) ≡ filter (λ x. r x && p x) xs
filter_filter p r [] = refl
filter_filter p r (x ∷ xs) =
    let rest = filter_filter p r xs in
    elim (cases_Bool (r x)) [
      | inl t ↦ elim (cases_Bool (p x)) [
        | inl s ↦ rw (t, s) (ap (λ l. x ∷ l) rest)
        | inr s ↦ rw (t, s) rest
      ]
      | inr t ↦ rw t rest
    ]

-- ---- a quarter's cells

-- a coordinate on the halves of a side
on_half : (h r b i : ℕ) → r < h → b < 2 → i < 2 → is_on_side (i * h) h (b * h + r) ≡ (b == i)
on_half h r zero zero l lb li = grind (arith, nat_tests, l)
on_half h r (suc zero) zero l lb li = grind (arith, nat_tests, l)
on_half h r zero (suc zero) l lb li = grind (arith, nat_tests, l)
on_half h r (suc zero) (suc zero) l lb li = grind (arith, nat_tests, l)
on_half h r (suc (suc b)) i l lb li = absurd (omega (arith, lb))
on_half h r b (suc (suc i)) l lb li = absurd (omega (arith, li))

-- a coordinate by its bit and what is below
by_bit : (n bit : ℕ) → n % 2 ^ (1 + bit) ≡ bit_at n bit * 2 ^ bit + n % 2 ^ bit
by_bit n bit = mod-pow-add n 1 bit

pub in_quarter : (bit i j : ℕ) (c : ListedCell) → i < 2 → j < 2 → is_cell_in (i * 2 ^ bit) (j * 2 ^ bit) (2 ^ bit) (in_square (2 ^ (1 + bit)) c) ≡ (digit_at bit c == 2 * j + i)
in_quarter bit i j c li lj =
    let h = 2 ^ bit in
    let column = on_half h (c.column % h) (bit_at c.column bit) i (mod_below c.column h (pow_pos bit)) (bit_at-lt c.column bit) li in
    let row = on_half h (c.row % h) (bit_at c.row bit) j (mod_below c.row h (pow_pos bit)) (bit_at-lt c.row bit) lj in
    let small = bit_at-lt c.column bit in
    rw (by_bit c.column bit, by_bit c.row bit, column, row) (grind (arith, nat_tests, small, li))

pub from_quarter : (bit i j : ℕ) (c : ListedCell) → i < 2 → j < 2 → (digit_at bit c == 2 * j + i) ≡ true → moved_cell (i * 2 ^ bit) (j * 2 ^ bit) (in_square (2 ^ (1 + bit)) c) ≡ in_square (2 ^ bit) c
from_quarter bit i j c li lj is =
    let small = bit_at-lt c.column bit in
    let digit : 2 * bit_at c.row bit + bit_at c.column bit ≡ 2 * j + i = grind (arith, nat_tests, is) in
    let eu : bit_at c.column bit ≡ i = omega (arith, digit, small, li) in
    let ev : bit_at c.row bit ≡ j = omega (arith, digit, small, li) in
    let u : i * 2 ^ bit + c.column % 2 ^ bit - i * 2 ^ bit ≡ c.column % 2 ^ bit = omega arith in
    let v : j * 2 ^ bit + c.row % 2 ^ bit - j * 2 ^ bit ≡ c.row % 2 ^ bit = omega arith in
    rw (by_bit c.column bit, by_bit c.row bit, eu, ev, u, v) refl

-- the cells of a digit are those of a quarter
pub quarter_listed : (bit i j : ℕ) (cells : List ListedCell) → i < 2 → j < 2
    → listed_in (2 ^ bit) (filter (λ c. digit_at bit c == 2 * j + i) cells) ≡ cells_in (listed_in (2 ^ (1 + bit)) cells) (i * 2 ^ bit) (j * 2 ^ bit) (2 ^ bit)
quarter_listed bit i j [] li lj = refl
quarter_listed bit i j (c ∷ cells) li lj =
    let rest = quarter_listed bit i j cells li lj in
    let same = in_quarter bit i j c li lj in
    elim (cases_Bool (digit_at bit c == 2 * j + i)) [
      | inl t ↦ rw (same, t, from_quarter bit i j c li lj t) (ap (λ l. in_square (2 ^ bit) c ∷ l) rest)
      | inr t ↦ rw (same, t) rest
    ]

pub side_pow : (k : ℕ) → side_at 8 k ≡ 2 ^ (k + 3)
side_pow k = rw (pow-add 2 k 3) (omega arith)

-- the same by the sides of squares of a level
pub quarter_of_level : (k n i j : ℕ) (cells its : List ListedCell) → 0 < k → n ≡ side_at 8 (k - 1) → i < 2 → j < 2 → its ≡ filter (λ c. digit_at (k + 2) c == 2 * j + i) cells
    → listed_in (side_at 8 (k - 1)) its ≡ cells_in (listed_in (side_at 8 k) cells) (i * n) (j * n) n
quarter_of_level k n i j cells its some is li lj these =
    let below : k - 1 + 3 ≡ k + 2 = omega (arith, some) in
    let above : k + 3 ≡ 1 + (k + 2) = omega arith in
    let half : side_at 8 (k - 1) ≡ 2 ^ (k + 2) = side_pow (k - 1) ∙ ap (λ z. 2 ^ z) below in
    let whole : side_at 8 k ≡ 2 ^ (1 + (k + 2)) = side_pow k ∙ ap (λ z. 2 ^ z) above in
    rw (these, is, half, whole) (quarter_listed (k + 2) i j cells li lj)

pub record AreQuarterLists (k n : ℕ) (cells a b c d : List ListedCell) : Type 0 where
  pub nw : listed_in (side_at 8 (k - 1)) a ≡ cells_in (listed_in (side_at 8 k) cells) 0 0 n
  pub ne : listed_in (side_at 8 (k - 1)) b ≡ cells_in (listed_in (side_at 8 k) cells) n 0 n
  pub sw : listed_in (side_at 8 (k - 1)) c ≡ cells_in (listed_in (side_at 8 k) cells) 0 n n
  pub se : listed_in (side_at 8 (k - 1)) d ≡ cells_in (listed_in (side_at 8 k) cells) n n n

pub quarters_listed : (k n : ℕ) (cells nw ne sw se : List ListedCell) → 0 < k → n ≡ side_at 8 (k - 1)
    → nw ≡ filter (λ c. digit_at (k + 2) c == 0) cells → ne ≡ filter (λ c. digit_at (k + 2) c == 1) cells → sw ≡ filter (λ c. digit_at (k + 2) c == 2) cells → se ≡ filter (λ c. digit_at (k + 2) c == 3) cells
    → AreQuarterLists k n cells nw ne sw se
quarters_listed k n cells nw ne sw se some is fa fb fc fd =
    let no : 0 * n ≡ 0 = omega arith in
    let one : 1 * n ≡ n = omega arith in
    record {
      nw = rw no at (quarter_of_level k n 0 0 cells nw some is (omega arith) (omega arith) fa);
      ne = rw (no, one) at (quarter_of_level k n 1 0 cells ne some is (omega arith) (omega arith) fb);
      sw = rw (no, one) at (quarter_of_level k n 0 1 cells sw some is (omega arith) (omega arith) fc);
      se = rw one at (quarter_of_level k n 1 1 cells se some is (omega arith) (omega arith) fd);
    }

pub quarter_run_below : (k q : ℕ) (cells its : List ListedCell) → 0 < k → k ≤ 28 → IsMortonRun (k + 3) cells → its ≡ filter (λ c. digit_at (k + 2) c == q) cells → IsMortonRun (k - 1 + 3) its
quarter_run_below k q cells its some most run these =
    let above : k + 3 ≡ k + 2 + 1 = omega arith in
    let below : k - 1 + 3 ≡ k + 2 = omega (arith, some) in
    rw (these, below) (quarter_run (k + 2) q cells (omega (arith, most)) (subst (λ bit. IsMortonRun bit cells) above run))

pub none_listed : (n : ℕ) (cells : List ListedCell) → length cells ≡ 0 → length (listed_in n cells) ≡ 0
none_listed n [] h = refl
none_listed n (c ∷ cells) h = absurd (omega (arith, h))

-- ---- cells of one place stay in their order

-- the low bits tell the code
low_bits : (w u : ℕ) → interleaved w u 0 ≡ interleaved w (u % 2 ^ w) 0
unfolding interleaved
low_bits w u = let none : w + 0 ≡ w = omega arith in (rw none at (pieces w 0 u)) ∙ omega arith

pub one_code : (c d : ListedCell) → c.column % 2147483648 ≡ d.column % 2147483648 → c.row % 2147483648 ≡ d.row % 2147483648 → code_of c ≡ code_of d
one_code c d eu ev =
    apart 31 c.column c.row ∙ rw (low_bits 31 c.column, low_bits 31 c.row, low_bits 31 d.column, low_bits 31 d.row, eu, ev) refl ∙ sym (apart 31 d.column d.row)

-- a state is found among the cells of one code
found_among : (t : ListedCell → Bool) (m u v : ℕ) (cells : List ListedCell) → ((c : ListedCell) → c.column % m ≡ u → c.row % m ≡ v → t c ≡ true) → state_listed (listed_in m cells) u v ≡ state_listed (listed_in m (filter t cells)) u v
found_among t m u v [] is = refl
found_among t m u v (c ∷ cells) is =
    let rest = found_among t m u v cells is in
    elim (cases_Bool (c.column % m == u && c.row % m == v)) [
      | inl here ↦ (let eu : c.column % m ≡ u = grind (arith, nat_tests, here) in let ev : c.row % m ≡ v = grind (arith, nat_tests, here) in rw (is c eu ev, here) refl)
      | inr other ↦ elim (cases_Bool (t c)) [
        | inl s ↦ rw (s, other) rest
        | inr s ↦ rw (s, other) rest
      ]
    ]

one_tie : (m n : ℕ) → m ≡ n → (not (is_lt (nat_cmp m n)) && not (is_lt (nat_cmp n m))) ≡ true
one_tie m n e = (let same : nat_lt n n ≡ false = grind (arith, nat_tests) in let even : (n == n) ≡ true = grind (arith, nat_tests) in rw (e, same, even) refl)

pub states_stay : (old new : List ListedCell) (u v : ℕ) → u < 2147483648 → v < 2147483648 → IsStableByKey code_of nat_cmp old new → state_listed (listed_in 2147483648 new) u v ≡ state_listed (listed_in 2147483648 old) u v
states_stay old new u v hu hv stable =
    let at : ListedCell = record { column = u; row = v; state = 0 } in
    let tie = ties (λ x y. is_lt (nat_cmp (code_of x) (code_of y))) at in
    let here = λ (c : ListedCell) (eu : c.column % 2147483648 ≡ u) (ev : c.row % 2147483648 ≡ v). one_tie (code_of at) (code_of c) (sym (one_code c at (eu ∙ omega (arith, hu)) (ev ∙ omega (arith, hv)))) in
    found_among tie 2147483648 u v new here ∙ ap (λ cells. state_listed (listed_in 2147483648 cells) u v) (stable at) ∙ sym (found_among tie 2147483648 u v old here)

-- ---- digits

pub from_not_below : (bit least : ℕ) (cells : List ListedCell) → filter (λ c. not (nat_lt (digit_at bit c) least)) cells ≡ filter (λ c. nat_le least (digit_at bit c)) cells
from_not_below bit least cells = filter_agree (λ c. not (nat_lt (digit_at bit c) least)) (λ c. nat_le least (digit_at bit c)) (λ c. not_below (digit_at bit c) least) cells
  where
    not_below : (n least : ℕ) → not (nat_lt n least) ≡ nat_le least n
    not_below n least = grind (arith, nat_tests)

module _ (bit : ℕ) (cells : List ListedCell) where
  abbrev north : List ListedCell
  north = filter (λ c. nat_lt (digit_at bit c) 2) cells

  abbrev south : List ListedCell
  south = filter (λ c. nat_le 2 (digit_at bit c)) cells

  pub first_digit : filter (λ c. nat_lt (digit_at bit c) 1) north ≡ filter (λ c. digit_at bit c == 0) cells
  first_digit = filter_filter (λ c. nat_lt (digit_at bit c) 1) (λ c. nat_lt (digit_at bit c) 2) cells ∙ filter_agree _ (λ c. digit_at bit c == 0) (λ c. one (digit_at bit c)) cells
    where
      one : (n : ℕ) → (nat_lt n 2 && nat_lt n 1) ≡ (n == 0)
      one n = grind (arith, nat_tests)

  pub second_digit : filter (λ c. nat_le 1 (digit_at bit c)) north ≡ filter (λ c. digit_at bit c == 1) cells
  second_digit = filter_filter (λ c. nat_le 1 (digit_at bit c)) (λ c. nat_lt (digit_at bit c) 2) cells ∙ filter_agree _ (λ c. digit_at bit c == 1) (λ c. one (digit_at bit c)) cells
    where
      one : (n : ℕ) → (nat_lt n 2 && nat_le 1 n) ≡ (n == 1)
      one n = grind (arith, nat_tests)

  pub third_digit : filter (λ c. nat_lt (digit_at bit c) 3) south ≡ filter (λ c. digit_at bit c == 2) cells
  third_digit = filter_filter (λ c. nat_lt (digit_at bit c) 3) (λ c. nat_le 2 (digit_at bit c)) cells ∙ filter_agree _ (λ c. digit_at bit c == 2) (λ c. one (digit_at bit c)) cells
    where
      one : (n : ℕ) → (nat_le 2 n && nat_lt n 3) ≡ (n == 2)
      one n = grind (arith, nat_tests)

  pub last_digit : filter (λ c. nat_le 3 (digit_at bit c)) south ≡ filter (λ c. digit_at bit c == 3) cells
  last_digit = filter_filter (λ c. nat_le 3 (digit_at bit c)) (λ c. nat_le 2 (digit_at bit c)) cells ∙ filter_agree _ (λ c. digit_at bit c == 3)
      (λ c. one (digit_at bit c) (let u = bit_at-lt c.column bit in let v = bit_at-lt c.row bit in omega (arith, u, v))) cells
    where
      one : (n : ℕ) → n < 4 → (nat_le 2 n && nat_le 3 n) ≡ (n == 3)
      one n h = grind (arith, nat_tests, h)

-- ---- a coordinate of 31 bits by its bytes

seven_bits : (n : ℕ) → interleaved 7 n 0 ≡ interleaved 8 (n % 128) 0
unfolding interleaved
seven_bits n =
    let e = pieces 7 1 (n % 128) in
    let same : n % 128 % 128 ≡ n % 128 = omega arith in
    let none : n % 128 / 128 ≡ 0 = omega arith in
    low_bits 7 n ∙ sym ((rw (same, none) at e) ∙ omega arith)

pub four_bytes : (n : ℕ) → interleaved 31 n 0 ≡ interleaved 8 (n % 256) 0 + 65536 * interleaved 8 (n / 256 % 256) 0 + 4294967296 * (interleaved 8 (n / 65536 % 256) 0 + 65536 * interleaved 8 (n / 16777216 % 128) 0)
four_bytes n =
    let a = pieces 8 23 n in
    let b = pieces 8 15 (n / 256) in
    let c = pieces 8 7 (n / 256 / 256) in
    let d = seven_bits (n / 256 / 256 / 256) in
    let third : n / 256 / 256 ≡ n / 65536 = omega arith in
    let fourth : n / 256 / 256 / 256 ≡ n / 16777216 = omega arith in
    rw (← fourth, ← third) (omega (arith, a, b, c, d))
