use Rattle.std.proofs.Common.{◌≡◌, arith, subst}
use Rattle.indexmap.specs.IndexTable.Group.{IsBitSet}
use Rattle.indexmap.proofs.IndexTableLemmas.Bits.{no_bit_zero}
use Rattle.square_store.proofs.table.SquareTable.find_in.Goals as goal

pub returns-clause-none : goal.returns-clause-none
returns-clause-none g c = λ slot p has at. (let none : c.loop-slots.slots ≡ 0 = omega (arith, c.loop-slots-test.false) in no_bit_zero slot (subst (λ n. IsBitSet n slot) none (c.loop-slots.invariant.left slot p has at)))
