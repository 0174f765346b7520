use Rattle.std.proofs.Common.{◌≡◌, ◌∙◌, sym, arith}
use Rattle.std.specs.Int.{bit_at}
use Rattle.std.proofs.lemmas.Nat.Bits.{shr_and_one, bit_at-lt}
use Rattle.bitplane_kernel.proofs.PlaneLemmas.{marks_one, marks_none}
use Rattle.bitplane_kernel.proofs.planes.where_digit.Goals as goal
use Rattle.bitplane_kernel.proofs.planes.where_digit.Goals.{then-number-p-eq1, else-number-p-eq1}

pub returns : goal.returns
returns c =
    let digit = shr_and_one c.args.number c.args.p in
    let small = bit_at-lt c.args.number c.args.p in
    elim c.if-number-p-eq1.branch [
      | then-number-p-eq1 w ↦ rw w.result-is (marks_one c.args.plane _ (sym digit ∙ w.if-number-p-eq1.true))
      | else-number-p-eq1 w ↦
          let is : bit_at c.args.number c.args.p ≡ 0 = omega (arith, w.if-number-p-eq1.false) in
          rw w.result-is (marks_none c.args.plane _ _ is w.not.ensures)
    ]
