use Rattle.std.proofs.Common.{◌≡◌, ◌≤◌, ℕ, List, take}
use Rattle.std.specs.Str.Parse.{digits_value}
use Rattle.generations_rule.proofs.text.number_in.Given as goal

pub record Reads (read number : ℕ) (digits : List ℕ) : Type 0 where
  pub value : number ≡ digits_value 10 (take read digits)
  pub none : read ≤ 0 → number ≤ 0
  pub one : read ≤ 1 → number ≤ 9
  pub two : read ≤ 2 → number ≤ 99

abbrev pub invariant-loop-digit : goal.invariant-loop-digit
invariant-loop-digit l = Reads l.digit-index l.number l.digits
