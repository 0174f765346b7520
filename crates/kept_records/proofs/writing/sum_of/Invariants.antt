use Rattle.std.proofs.Common.{◌≡◌, ◌≤◌, ◌*◌, ℕ, List, take}
use Rattle.std.specs.List.{sum}
use Rattle.kept_records.proofs.writing.sum_of.Given as goal

-- the sum of the bytes so far, which are at most 255 each
pub record IsSummed (total index : ℕ) (body : List ℕ) : Type 0 where
  pub is : total ≡ sum (take index body)
  pub small : total ≤ 255 * index

abbrev pub invariant-loop-byte : goal.invariant-loop-byte
invariant-loop-byte l = IsSummed l.total l.byte-index l.body
