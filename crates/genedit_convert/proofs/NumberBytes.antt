-- The bytes of printed numbers, of any size.
use Rattle.std.proofs.Common.{◌≡◌, ℕ, zero, suc, ◌+◌, ◌<◌, ◌/◌, ◌%◌, Bool, true, false, List, [], ◌∷◌, refl, arith}
use Rattle.std.specs.Prelude.{◌==◌, if◌then◌else◌, decimal, ℤ, pos, negsuc}
use Rattle.std.specs.Fmt.{digit_glyph, digits, digits_onto, signed_decimal}
use Rattle.std.specs.List.{list_all}
use Rattle.std.proofs.lemmas.Bool.Decides.{nat_tests}

-- a test that each digit passes
abbrev pub DigitsPass : (ℕ → Bool) → Type 0
DigitsPass p = (d : ℕ) → d < 10 → p (48 + d) ≡ true

glyph_is : (d : ℕ) → d < 10 → digit_glyph false d ≡ 48 + d
glyph_is d small = grind (arith, nat_tests)

glyph_passes : (p : ℕ → Bool) → DigitsPass p → (n : ℕ) → p (digit_glyph false (n % 10)) ≡ true
glyph_passes p each n = let small : n % 10 < 10 = omega arith in rw glyph_is (each (n % 10) small)

onto_step : (p : ℕ → Bool) → DigitsPass p → (k n : ℕ) (acc : List ℕ) (ends : Bool) → list_all p acc ≡ true →
    ((m : ℕ) (acc : List ℕ) → list_all p acc ≡ true → list_all p (digits_onto k 10 false m acc) ≡ true) →
    list_all p (if ends then digit_glyph false (n % 10) ∷ acc else digits_onto k 10 false (n / 10) (digit_glyph false (n % 10) ∷ acc)) ≡ true
onto_step p each k n acc true all rest = rw (glyph_passes p each n) all
onto_step p each k n acc false all rest = rest (n / 10) (digit_glyph false (n % 10) ∷ acc) (rw (glyph_passes p each n) all)

onto_passes : (p : ℕ → Bool) → DigitsPass p → (k n : ℕ) (acc : List ℕ) → list_all p acc ≡ true → list_all p (digits_onto k 10 false n acc) ≡ true
onto_passes p each zero n acc all = all
onto_passes p each (suc k) n acc all = onto_step p each k n acc (n / 10 == 0) all (λ m acc all. onto_passes p each k m acc all)

pub decimal_passes : (p : ℕ → Bool) → DigitsPass p → (n : ℕ) → list_all p (decimal n) ≡ true
unfolding digits
decimal_passes p each n = onto_passes p each 64 n [] refl

pub signed_passes : (p : ℕ → Bool) → DigitsPass p → p 45 ≡ true → (z : ℤ) → list_all p (signed_decimal z) ≡ true
signed_passes p each minus (pos n) = decimal_passes p each n
signed_passes p each minus (negsuc n) = rw minus (decimal_passes p each (suc n))
