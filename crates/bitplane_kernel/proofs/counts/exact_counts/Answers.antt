use Rattle.std.proofs.Common.{◌≡◌, ℕ, ◌+◌, ◌*◌, ◌<◌, arith}
use Rattle.bitplane_kernel.specs.Planes.{bit}
use Rattle.bitplane_kernel.specs.Count.{total}
use Rattle.bitplane_kernel.proofs.AdderLemmas.{bit_lt}
use Rattle.bitplane_kernel.proofs.CountLemmas.{exact_marks}
use Rattle.bitplane_kernel.proofs.counts.exact_counts.Goals as goal

pub returns : goal.returns
returns c = λ x y hx hy.
    let count = c.args.count.now in
    let a : ℕ = bit count.ones x y + 2 * bit count.twos x y in
    let b : ℕ = bit count.fours x y + 2 * bit count.eights x y in
    let is : a + 4 * b ≡ total count x y = omega arith in
    let small : a < 4 = omega (arith, bit_lt count.ones x y, bit_lt count.twos x y) in
    rw (← is) (exact_marks c.pairs-low.result c.pairs-high.result _ _ _ _ _ _ _ _ _
    c.and.ensures c.and-2.ensures c.and-3.ensures c.and-4.ensures c.and-5.ensures c.and-6.ensures c.and-7.ensures c.and-8.ensures c.and-9.ensures
    x y a b hx hy (c.pairs-low.ensures x y hx hy) (c.pairs-high.ensures x y hx hy) small)
