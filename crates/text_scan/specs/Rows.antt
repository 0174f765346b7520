-- Worked values of the definitions.
use Rattle.std.specs.Prelude.{◌≡◌, [], ◌∷◌, None, Some, codes, refl, pos, negsuc}
use Rattle.text_scan.specs.Bytes.{behind_symbol, decimal_number, without_blanks_behind}
use Rattle.text_scan.specs.Words.{signed_number, words}

pub two_words : words (codes " b\to ") ≡ codes "b" ∷ codes "o" ∷ []
two_words = refl

pub zeros_in_front : decimal_number 7 (codes "007") ≡ Some 7
zeros_in_front = refl

pub one_too_many : decimal_number 7 (codes "8") ≡ None
one_too_many = refl

pub no_digit : decimal_number 7 [] ≡ None
no_digit = refl

pub the_least : signed_number (codes "-2147483648") ≡ Some (negsuc 2147483647)
the_least = refl

pub past_the_greatest : signed_number (codes "2147483648") ≡ None
past_the_greatest = refl

pub minus_zero_is_zero : signed_number (codes "-0") ≡ Some (pos 0)
minus_zero_is_zero = refl

pub minus_zero_is_no_number : decimal_number 18446744073709551615 (codes "-0") ≡ None
minus_zero_is_no_number = refl

pub an_equals_sign : behind_symbol 61 (codes " \t= 3") ≡ Some (codes " 3")
an_equals_sign = refl

pub blanks_behind : without_blanks_behind (codes " 3 /2 ") ≡ codes " 3 /2"
blanks_behind = refl
