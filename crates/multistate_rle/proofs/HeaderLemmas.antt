-- The sides that a header can name.
use Rattle.std.proofs.Common.{◌≡◌, ℕ, ◌≤◌, Bool, true, false, List, [], ◌∷◌, refl, arith, subst}
use Rattle.std.specs.Prelude.{Option, Some, None, option_map, nat_le, if◌then◌else◌, IfSome}
use Rattle.std.specs.List.{list_all}
use Rattle.std.specs.Str.Parse.{digits_value}
use Rattle.std.proofs.lemmas.Bool.Decides.{nat_tests}
use Rattle.text_scan.specs.Bytes.{is_decimal_digit, is_space_or_tab, front, past_prefix, ◌>=>◌, decimal_number, limited, behind_symbol}
use Rattle.multistate_rle.specs.Header.{most_pattern_side, number_in_front, side_spelled, may_end_with, header_of}

-- what holds of each value holds of the next reading's
bound : {A B : Type 0} (P : B → Type 0) (o : Option A) (f : A → Option B) → ((a : A) → o ≡ Some a → IfSome (f a) P) → IfSome (o >=> f) P
bound P None f holds = tt
bound P (Some a) f holds = holds a refl

if_some_at : {A : Type 0} (P : A → Type 0) (o : Option A) (a : A) → IfSome o P → o ≡ Some a → P a
if_some_at P None a holds is = absurd (cc)
if_some_at P (Some b) a holds is = let same : b ≡ a = cc in subst P same holds

map_bound : {A B : Type 0} (P : B → Type 0) (f : A → B) (o : Option A) → IfSome o (λ a. P (f a)) → IfSome (option_map f o) P
map_bound P f None holds = holds
map_bound P f (Some a) holds = holds

small_if : (most n : ℕ) (le : Bool) → nat_le n most ≡ le → IfSome (if le then Some n else None) (λ m. m ≤ most)
small_if most n true e = grind (arith, nat_tests)
small_if most n false e = tt

number_if : (digits : Bool) (most n : ℕ) → IfSome (if digits then limited most n else None) (λ m. m ≤ most)
number_if true most n = small_if most n (nat_le n most) refl
number_if false most n = tt

pub number_small : (most : ℕ) (ds : List ℕ) → IfSome (decimal_number most ds) (λ n. n ≤ most)
number_small most [] = tt
number_small most (c ∷ ds) = number_if (list_all is_decimal_digit (c ∷ ds)) most (digits_value 10 (c ∷ ds))

side_small : (letter : ℕ) (line : List ℕ) → IfSome (side_spelled letter line) (λ s. s.0 ≤ most_pattern_side)
side_small letter line =
    bound (λ (s : ℕ × List ℕ). s.0 ≤ most_pattern_side) (behind_symbol letter line) (λ rest. behind_symbol 61 rest >=> λ rest. number_in_front (past_prefix is_space_or_tab rest)) (λ rest is.
    bound (λ (s : ℕ × List ℕ). s.0 ≤ most_pattern_side) (behind_symbol 61 rest) (λ rest. number_in_front (past_prefix is_space_or_tab rest)) (λ more found.
    map_bound (λ (s : ℕ × List ℕ). s.0 ≤ most_pattern_side) (λ n. (n, past_prefix is_decimal_digit (past_prefix is_space_or_tab more))) (decimal_number most_pattern_side (front is_decimal_digit (past_prefix is_space_or_tab more))) (number_small most_pattern_side (front is_decimal_digit (past_prefix is_space_or_tab more)))))

sides_if : (ends : Bool) (w h : ℕ) → w ≤ most_pattern_side → h ≤ most_pattern_side → IfSome (if ends then Some (w, h) else None) (λ (s : ℕ × ℕ). (s.0 ≤ most_pattern_side) × (s.1 ≤ most_pattern_side))
sides_if true w h first second = (first, second)
sides_if false w h first second = tt

sides_small : (line : List ℕ) → IfSome (header_of line) (λ (s : ℕ × ℕ). (s.0 ≤ most_pattern_side) × (s.1 ≤ most_pattern_side))
sides_small line =
    bound (λ (s : ℕ × ℕ). (s.0 ≤ most_pattern_side) × (s.1 ≤ most_pattern_side)) (side_spelled 120 line) (λ w. behind_symbol 44 w.1 >=> λ rest. side_spelled 121 rest >=> λ h. (if may_end_with (past_prefix is_space_or_tab h.1) then Some (w.0, h.0) else None)) (λ w found.
    bound (λ (s : ℕ × ℕ). (s.0 ≤ most_pattern_side) × (s.1 ≤ most_pattern_side)) (behind_symbol 44 w.1) (λ rest. side_spelled 121 rest >=> λ h. (if may_end_with (past_prefix is_space_or_tab h.1) then Some (w.0, h.0) else None)) (λ rest comma.
    bound (λ (s : ℕ × ℕ). (s.0 ≤ most_pattern_side) × (s.1 ≤ most_pattern_side)) (side_spelled 121 rest) (λ h. (if may_end_with (past_prefix is_space_or_tab h.1) then Some (w.0, h.0) else None)) (λ h more.
    sides_if (may_end_with (past_prefix is_space_or_tab h.1)) w.0 h.0
    (if_some_at (λ (s : ℕ × List ℕ). s.0 ≤ most_pattern_side) (side_spelled 120 line) w (side_small 120 line) found)
    (if_some_at (λ (s : ℕ × List ℕ). s.0 ≤ most_pattern_side) (side_spelled 121 rest) h (side_small 121 rest) more))))

pub header_small : (line : List ℕ) (sides : ℕ × ℕ) → header_of line ≡ Some sides → (sides.0 ≤ 4294967295) × (sides.1 ≤ 4294967295)
header_small line sides is = if_some_at (λ (s : ℕ × ℕ). (s.0 ≤ most_pattern_side) × (s.1 ≤ most_pattern_side)) (header_of line) sides (sides_small line) is
