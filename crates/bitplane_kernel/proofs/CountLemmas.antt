-- Planes that mark where a number has a value.
use Rattle.std.proofs.Common.{◌≡◌, ℕ, zero, suc, ◌+◌, ◌-◌, ◌*◌, ◌<◌, ◌≤◌, arith, refl, ◌∙◌, ap, List, [], ◌∷◌}
use Rattle.std.specs.Prelude.{min, ◌==◌, if◌then◌else◌, slice_index_or, Bool}
use Rattle.generations_rule.specs.Rule.{has}
use Rattle.std.proofs.lemmas.Bool.Decides.{nat_tests}
use Rattle.std.proofs.lemmas.Bool.{eq-eqb, ne_eqb}
use Rattle.bitplane_kernel.specs.Planes.{bit, HasBits}
use Rattle.bitplane_kernel.specs.Count.{MarksAt}
use Rattle.bitplane_kernel.proofs.AdderLemmas.{bit_lt}
use Rattle.bitplane_kernel.specs.Digits.{by_digit}

-- 1 where the two numbers are the same, else 0
abbrev pub mark : ℕ → ℕ → ℕ
mark a n = if a == n then 1 else 0

pub by_two_digits : (P : ℕ → ℕ → Type 0) (a b : ℕ) → a < 2 → b < 2 → P 0 0 → P 0 1 → P 1 0 → P 1 1 → P a b
by_two_digits P a b h k none second first both =
    by_digit (λ d. P d b) a h (by_digit (λ e. P 0 e) b k none second) (by_digit (λ e. P 1 e) b k first both)

below_four : (P : ℕ → Type 0) → P 0 → P 1 → P 2 → P 3 → (n : ℕ) → n < 4 → P n
below_four P a b c d zero h = a
below_four P a b c d (suc zero) h = b
below_four P a b c d (suc (suc zero)) h = c
below_four P a b c d (suc (suc (suc zero))) h = d
below_four P a b c d (suc (suc (suc (suc n)))) h = absurd (omega arith)

below_nine : (P : ℕ → Type 0) → ((n : ℕ) → n < 4 → P n) → ((n : ℕ) → n < 4 → P (4 + n)) → P 8 → (n : ℕ) → n < 9 → P n
below_nine P low middle last zero h = low 0 (omega arith)
below_nine P low middle last (suc zero) h = low 1 (omega arith)
below_nine P low middle last (suc (suc zero)) h = low 2 (omega arith)
below_nine P low middle last (suc (suc (suc zero))) h = low 3 (omega arith)
below_nine P low middle last (suc (suc (suc (suc zero)))) h = middle 0 (omega arith)
below_nine P low middle last (suc (suc (suc (suc (suc zero))))) h = middle 1 (omega arith)
below_nine P low middle last (suc (suc (suc (suc (suc (suc zero)))))) h = middle 2 (omega arith)
below_nine P low middle last (suc (suc (suc (suc (suc (suc (suc zero))))))) h = middle 3 (omega arith)
below_nine P low middle last (suc (suc (suc (suc (suc (suc (suc (suc zero)))))))) h = last
below_nine P low middle last (suc (suc (suc (suc (suc (suc (suc (suc (suc n))))))))) h = absurd (omega arith)

-- the four products of two bits and their complements mark the number that the two make
pub pairs_mark : (a b no_a no_b v0 v1 v2 v3 : List ℕ)
    → HasBits no_a (λ x y. 1 - bit a x y) → HasBits no_b (λ x y. 1 - bit b x y)
    → HasBits v0 (λ x y. min (bit no_a x y) (bit no_b x y)) → HasBits v1 (λ x y. min (bit a x y) (bit no_b x y))
    → HasBits v2 (λ x y. min (bit no_a x y) (bit b x y)) → HasBits v3 (λ x y. min (bit a x y) (bit b x y))
    → (x y : ℕ) → x < 16 → y < 16 → MarksAt 4 (v0 ∷ v1 ∷ v2 ∷ v3 ∷ []) x y (bit a x y + 2 * bit b x y)
pairs_mark a b no_a no_b v0 v1 v2 v3 na nb h0 h1 h2 h3 x y hx hy =
    let a' = na.bits x y hx hy in
    let b' = nb.bits x y hx hy in
    let law : (n : ℕ) (f : ℕ → ℕ → ℕ) → f 0 0 ≡ mark 0 n → f 0 1 ≡ mark 2 n → f 1 0 ≡ mark 1 n → f 1 1 ≡ mark 3 n → f (bit a x y) (bit b x y) ≡ mark (bit a x y + 2 * bit b x y) n =
    λ n f none second first both. by_two_digits (λ d e. f d e ≡ mark (d + 2 * e) n) (bit a x y) (bit b x y) (bit_lt a x y) (bit_lt b x y) none second first both in
    record {
      marks = below_four (λ n. bit (slice_index_or (v0 ∷ v1 ∷ v2 ∷ v3 ∷ []) n []) x y ≡ mark (bit a x y + 2 * bit b x y) n)
          (h0.bits x y hx hy ∙ rw (a', b') (law 0 (λ d e. min (1 - d) (1 - e)) refl refl refl refl))
          (h1.bits x y hx hy ∙ rw b' (law 1 (λ d e. min d (1 - e)) refl refl refl refl))
          (h2.bits x y hx hy ∙ rw a' (law 2 (λ d e. min (1 - d) e) refl refl refl refl))
          (h3.bits x y hx hy ∙ law 3 (λ d e. min d e) refl refl refl refl);
    }

joined_mark : (a b i j : ℕ) → a < 4 → i < 4 → min (mark a i) (mark b j) ≡ mark (a + 4 * b) (i + 4 * j)
joined_mark a b i j h k = grind (arith, nat_tests)

abbrev pub IsProduct : List (List ℕ) → List (List ℕ) → ℕ → ℕ → List ℕ → Type 0
IsProduct low high i j v = HasBits v (λ x y. min (bit (slice_index_or low i []) x y) (bit (slice_index_or high j []) x y))

-- the products of the marks of a number below 4 and of another mark the number that the two make
pub exact_marks : (low high : List (List ℕ)) (v0 v1 v2 v3 v4 v5 v6 v7 v8 : List ℕ)
    → IsProduct low high 0 0 v0 → IsProduct low high 1 0 v1 → IsProduct low high 2 0 v2 → IsProduct low high 3 0 v3
    → IsProduct low high 0 1 v4 → IsProduct low high 1 1 v5 → IsProduct low high 2 1 v6 → IsProduct low high 3 1 v7
    → IsProduct low high 0 2 v8
    → (x y a b : ℕ) → x < 16 → y < 16 → MarksAt 4 low x y a → MarksAt 4 high x y b → a < 4
    → MarksAt 9 (v0 ∷ v1 ∷ v2 ∷ v3 ∷ v4 ∷ v5 ∷ v6 ∷ v7 ∷ v8 ∷ []) x y (a + 4 * b)
exact_marks low high v0 v1 v2 v3 v4 v5 v6 v7 v8 p0 p1 p2 p3 p4 p5 p6 p7 p8 x y a b hx hy l h small =
    let vs : List (List ℕ) = v0 ∷ v1 ∷ v2 ∷ v3 ∷ v4 ∷ v5 ∷ v6 ∷ v7 ∷ v8 ∷ [] in
    let one : (i j : ℕ) (v : List ℕ) → IsProduct low high i j v → i < 4 → j < 4 → bit v x y ≡ mark (a + 4 * b) (i + 4 * j) =
    λ i j v p hi hj. p.bits x y hx hy ∙ rw (l.marks i hi, h.marks j hj) (joined_mark a b i j small hi) in
    record {
      marks = below_nine (λ n. bit (slice_index_or vs n []) x y ≡ mark (a + 4 * b) n)
          (below_four (λ n. bit (slice_index_or vs n []) x y ≡ mark (a + 4 * b) n)
          (one 0 0 v0 p0 (omega arith) (omega arith)) (one 1 0 v1 p1 (omega arith) (omega arith)) (one 2 0 v2 p2 (omega arith) (omega arith)) (one 3 0 v3 p3 (omega arith) (omega arith)))
          (below_four (λ n. bit (slice_index_or vs (4 + n) []) x y ≡ mark (a + 4 * b) (4 + n))
          (one 0 1 v4 p4 (omega arith) (omega arith)) (one 1 1 v5 p5 (omega arith) (omega arith)) (one 2 1 v6 p6 (omega arith) (omega arith)) (one 3 1 v7 p7 (omega arith) (omega arith)))
          (one 0 2 v8 p8 (omega arith) (omega arith));
    }

-- the plane is set where the number is below n and in the set
pub record HasBelow (n : ℕ) (exact : List (List ℕ)) (set : List Bool) (cells : List ℕ) : Type 0 where
  pub below : (x y number : ℕ) → x < 16 → y < 16 → MarksAt 9 exact x y number → number < n → bit cells x y ≡ (if has set number then 1 else 0)
  pub others : (x y number : ℕ) → x < 16 → y < 16 → MarksAt 9 exact x y number → n ≤ number → bit cells x y ≡ 0

pub mark_same : (a b : ℕ) → a ≡ b → mark a b ≡ 1
mark_same a b is = ap (λ t. if t then 1 else 0) (eq-eqb a b is)

pub mark_other : (a b : ℕ) → (a ≡ b → ⊥) → mark a b ≡ 0
mark_other a b not = ap (λ t. if t then 1 else 0) (ne_eqb a b not)
