-- Bytes that got less, and the numbers and sums that they spell.
use Rattle.std.proofs.Common.{◌≡◌, ◌≤◌, ◌<◌, ◌+◌, ◌*◌, ◌^◌, ◌/◌, ◌%◌, ℕ, zero, suc, List, [], ◌∷◌, ◌++◌, length, refl, arith}
use Rattle.std.specs.List.{sum}
use Rattle.std.proofs.lemmas.List.Sums.{sum_by-cons}
use Rattle.byte_codec.specs.Codec.{AreBytes}
use Rattle.kept_records.specs.Laws.{IsLowered}

-- bytes of a list, one by one
pub behind_bytes : (x : ℕ) (xs : List ℕ) → AreBytes (x ∷ xs) → AreBytes xs
behind_bytes x xs are i = are (suc i)

pub front_bytes : (xs ys : List ℕ) → AreBytes (xs ++ ys) → AreBytes xs
front_bytes [] ys are i = omega arith
front_bytes (x ∷ xs) ys are zero = are zero
front_bytes (x ∷ xs) ys are (suc i) = front_bytes xs ys (λ j. are (suc j)) i

pub rest_bytes : (xs ys : List ℕ) → AreBytes (xs ++ ys) → AreBytes ys
rest_bytes [] ys are = are
rest_bytes (x ∷ xs) ys are = rest_bytes xs ys (λ j. are (suc j))

-- ---- sums

sum_head : (x : ℕ) (xs : List ℕ) → sum (x ∷ xs) ≡ x + sum xs
sum_head x xs = sum_by-cons (λ x. x) x xs

pub sum_small : (xs : List ℕ) → AreBytes xs → sum xs ≤ 255 * length xs
sum_small [] are = omega arith
sum_small (x ∷ xs) are = omega (arith, sum_head x xs, are zero, sum_small xs (λ j. are (suc j)))

pub same_bytes : (xs : List ℕ) → IsLowered xs xs
same_bytes [] = tt
same_bytes (x ∷ xs) = (omega arith, same_bytes xs)

-- the same in front of both
pub behind_same : (front xs ys : List ℕ) → IsLowered xs ys → IsLowered (front ++ xs) (front ++ ys)
behind_same [] xs ys low = low
behind_same (x ∷ front) xs ys low = (omega arith, behind_same front xs ys low)

pub shorter : (xs ys : List ℕ) → IsLowered xs ys → length xs ≤ length ys
shorter [] ys low = omega arith
shorter (x ∷ xs) [] low = absurd low
shorter (x ∷ xs) (y ∷ ys) low = omega (arith, shorter xs ys low.1)

-- a front and what stands behind it
pub parted : (xs ys more rest : List ℕ) → length xs ≡ length ys → IsLowered (xs ++ more) (ys ++ rest) → IsLowered xs ys × IsLowered more rest
parted [] [] more rest long low = (tt, low)
parted [] (y ∷ ys) more rest long low = absurd (omega (arith, long))
parted (x ∷ xs) [] more rest long low = absurd (omega (arith, long))
parted (x ∷ xs) (y ∷ ys) more rest long low =
    let p = parted xs ys more rest (omega (arith, long)) low.1 in
    ((low.0, p.0), p.1)

pub sum_lowered : (xs ys : List ℕ) → IsLowered xs ys → sum xs ≤ sum ys
sum_lowered [] ys low = omega arith
sum_lowered (x ∷ xs) [] low = absurd low
sum_lowered (x ∷ xs) (y ∷ ys) low = omega (arith, sum_head x xs, sum_head y ys, low.0, sum_lowered xs ys low.1)

-- with one sum and one length they are the same bytes
pub same_sum : (xs ys : List ℕ) → length xs ≡ length ys → IsLowered xs ys → sum ys ≤ sum xs → xs ≡ ys
same_sum [] [] long low sums = refl
same_sum [] (y ∷ ys) long low sums = absurd (omega (arith, long))
same_sum (x ∷ xs) [] long low sums = absurd low
same_sum (x ∷ xs) (y ∷ ys) long low sums =
    let less = sum_lowered xs ys low.1 in
    let head : x ≡ y = omega (arith, sum_head x xs, sum_head y ys, low.0, less, sums) in
    let tail : sum ys ≤ sum xs = omega (arith, sum_head x xs, sum_head y ys, low.0, less, sums) in
    let same : xs ≡ ys = same_sum xs ys (omega (arith, long)) low.1 tail in
    λ i. head i ∷ same i

-- ---- numbers of four bytes

digits : (n : ℕ) → n < 2 ^ 32 → n ≡ n / 16777216 % 256 * 16777216 + n / 65536 % 256 * 65536 + n / 256 % 256 * 256 + n % 256
digits n small = omega (arith, small)

at_most : (a b c d e f g h m n : ℕ) → m ≡ a * 16777216 + b * 65536 + c * 256 + d → n ≡ e * 16777216 + f * 65536 + g * 256 + h → a ≤ e → b ≤ f → c ≤ g → d ≤ h → m ≤ n
at_most a b c d e f g h m n m_is n_is p q r s = omega (arith, m_is, n_is, p, q, r, s)

pub number_lowered : (m n : ℕ) → m < 2 ^ 32 → n < 2 ^ 32
    → m / 16777216 % 256 ≤ n / 16777216 % 256 → m / 65536 % 256 ≤ n / 65536 % 256 → m / 256 % 256 ≤ n / 256 % 256 → m % 256 ≤ n % 256 → m ≤ n
number_lowered m n small_m small_n p q r s = at_most _ _ _ _ _ _ _ _ m n (digits m small_m) (digits n small_n) p q r s
