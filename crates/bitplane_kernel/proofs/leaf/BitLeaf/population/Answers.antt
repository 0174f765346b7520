use Rattle.std.proofs.Common.{◌≡◌, ℕ, ◌<◌, ◌∙◌, ap, sym, arith, get_or, max}
use Rattle.std.specs.Int.{bit_at}
use Rattle.std.proofs.lemmas.Nat.Bits.{bit_at-lt, bit_at-zero, bit_at_or}
use Rattle.bitplane_kernel.specs.Planes.{number}
use Rattle.bitplane_kernel.specs.Population.{one_unless_dead}
use Rattle.bitplane_kernel.specs.Digits.{number_none}
use Rattle.bitplane_kernel.proofs.KeyLemmas.{more_alive, population_of_planes}
use Rattle.bitplane_kernel.proofs.leaf.BitLeaf.population.Goals as goal

pub loop-p-init : goal.loop-p-init
loop-p-init c = λ i h. bit_at-zero i ∙ sym (ap one_unless_dead (number_none (λ p. bit_at (get_or c.self.inside.planes p 0) i)))

pub loop-p-preserved : goal.loop-p-preserved
loop-p-preserved c = λ i h.
    let f : ℕ → ℕ = λ p. bit_at (get_or c.self.inside.planes p 0) i in
    bit_at_or c.loop-p.any (get_or c.self.inside.planes c.loop-p.p 0) i ∙ ap (λ n. max n (f c.loop-p.p)) (c.loop-p.invariant i h) ∙ sym (more_alive c.loop-p.p f (bit_at-lt _ _))

pub returns : goal.returns
returns c =
    let all : c.loop-p.p ≡ 8 = omega arith in
    population_of_planes c.loop-p.any c.self.inside.planes _ (let h = c.loop-p.auto.any-fits in omega (arith, h))
    (λ i h. c.loop-p.invariant i h ∙ ap (λ n. one_unless_dead (number n (λ p. bit_at (get_or c.self.inside.planes p 0) i))) all) c.self.view_is
