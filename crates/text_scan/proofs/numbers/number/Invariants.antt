use Rattle.std.proofs.Common.{◌≡◌, ◌≤◌, ℕ, List, take, true}
use Rattle.std.specs.List.{list_all}
use Rattle.std.specs.Str.Parse.{digits_value}
use Rattle.text_scan.specs.Bytes.{is_decimal_digit}
use Rattle.text_scan.proofs.numbers.number.Given as goal

-- the number of the digits so far
pub record Reads (digits : List ℕ) (read value most : ℕ) : Type 0 where
  pub value_is : value ≡ digits_value 10 (take read digits)
  pub digits_are : list_all is_decimal_digit (take read digits) ≡ true
  pub small : value ≤ most

abbrev pub invariant-loop-digit : goal.invariant-loop-digit
invariant-loop-digit l = Reads l.digits l.digit-index l.number l.most
