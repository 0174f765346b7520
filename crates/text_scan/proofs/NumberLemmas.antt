-- Decimal numbers that are read up to a limit.
use Rattle.std.proofs.Common.{◌≡◌, ℕ, ◌+◌, ◌-◌, ◌*◌, ap, ◌<◌, ◌≤◌, Bool, true, false, List, [], ◌∷◌, refl, arith, length, take, get_or}
use Rattle.std.specs.Prelude.{nat_le, Some, None, cond, Option}
use Rattle.std.specs.List.{list_all}
use Rattle.std.specs.Str.Parse.{digits_value}
use Rattle.std.specs.Char.{digit_value}
use Rattle.std.proofs.lemmas.Int.Digits.{digits_value_more}
use Rattle.std.proofs.lemmas.Str.Parse.{digits_value-take-le}
use Rattle.std.proofs.lemmas.List.Folds.{list_all_at, list_all_more}
use Rattle.std.proofs.lemmas.Bool.Decides.{nat_tests}
use Rattle.text_scan.specs.Bytes.{is_decimal_digit, decimal_number, limited}

pub past_most : (most n : ℕ) → limited most n ≡ None → most < n
past_most most n none = grind (arith, nat_tests)

pub within_most : (most n m : ℕ) → limited most n ≡ Some m → (m ≡ n) × (n ≤ most)
within_most most n m some = (grind (arith, nat_tests), grind (arith, nat_tests))

choice : (b : Bool) (o : Option ℕ) → o ≡ None → cond b o None ≡ None
choice true o e = e
choice false o e = refl

-- a number that is too great in its first digits is too great
pub too_great : (most : ℕ) (ds : List ℕ) (i : ℕ) → most < digits_value 10 (take i ds) → decimal_number most ds ≡ None
too_great most [] i h = refl
too_great most (c ∷ ds) i h =
    let more : nat_le (digits_value 10 (c ∷ ds)) most ≡ false = grind (arith, nat_tests, digits_value-take-le 10 (c ∷ ds) i (omega arith)) in
    choice (list_all is_decimal_digit (c ∷ ds)) (limited most (digits_value 10 (c ∷ ds))) (rw more refl)

-- a text with another byte is no number
pub no_digit : (most : ℕ) (ds : List ℕ) (i : ℕ) → i < length ds → is_decimal_digit (get_or ds i 0) ≡ false → decimal_number most ds ≡ None
no_digit most [] i h stray = refl
no_digit most (c ∷ ds) i h stray = rw (list_all_at is_decimal_digit (c ∷ ds) i 0 h stray) refl

pub is_number : (most : ℕ) (ds : List ℕ) → 0 < length ds → list_all is_decimal_digit ds ≡ true → digits_value 10 ds ≤ most → decimal_number most ds ≡ Some (digits_value 10 ds)
is_number most [] some digits small = absurd (omega arith)
is_number most (c ∷ ds) some digits small =
    let le : nat_le (digits_value 10 (c ∷ ds)) most ≡ true = grind (arith, nat_tests, small) in
    rw (digits, le) refl

-- the value of a decimal digit
pub digit_is : (c : ℕ) → is_decimal_digit c ≡ true → digit_value c ≡ c - 48
digit_is c digit = grind (arith, nat_tests)

-- one digit more
pub next_digit : (ds : List ℕ) (i n : ℕ) → i < length ds → is_decimal_digit (get_or ds i 0) ≡ true → n ≡ digits_value 10 (take i ds) →
    digits_value 10 (take (i + 1) ds) ≡ n * 10 + (get_or ds i 0 - 48)
next_digit ds i n h digit so_far =
    rw (digits_value_more 10 ds i h, so_far) (ap (λ d. digits_value 10 (take i ds) * 10 + d) (digit_is (get_or ds i 0) digit))

pub all_digits_more : (ds : List ℕ) (i : ℕ) → i < length ds → list_all is_decimal_digit (take i ds) ≡ true → is_decimal_digit (get_or ds i 0) ≡ true → list_all is_decimal_digit (take (i + 1) ds) ≡ true
all_digits_more ds i h so_far digit = rw (list_all_more is_decimal_digit ds i 0 h, so_far, digit) refl
