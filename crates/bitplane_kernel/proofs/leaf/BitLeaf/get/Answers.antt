use Rattle.std.proofs.Common.{◌≡◌, ℕ, ◌∙◌, sym, ap, arith, get_or}
use Rattle.std.specs.Int.{bit_at}
use Rattle.std.proofs.lemmas.Nat.Bits.{bit_at-lt}
use Rattle.bitplane_kernel.specs.Planes.{number}
use Rattle.bitplane_kernel.specs.Digits.{number_none}
use Rattle.bitplane_kernel.proofs.ReadLemmas.{digit_fits, digit_set, digit_clear, tested_set, tested_clear}
use Rattle.bitplane_kernel.specs.Digits.{leaf_read}
use Rattle.bitplane_kernel.proofs.leaf.BitLeaf.get.Goals as goal
use Rattle.bitplane_kernel.proofs.leaf.BitLeaf.get.Goals.{then-self-p-eq1, else-self-p-eq1}

pub loop-p-init : goal.loop-p-init
loop-p-init c = sym (number_none (λ p. bit_at (get_or c.self.inside.planes p 0) c.args.i))

pub loop-p-preserved : goal.loop-p-preserved
loop-p-preserved c =
    let f : ℕ → ℕ = λ p. bit_at (get_or c.self.inside.planes p 0) c.args.i in
    elim c.if-self-p-eq1.branch [
      | then-self-p-eq1 w ↦ w.state-is ∙ digit_set c.loop-p.p c.loop-p.state f (omega arith) c.loop-p.invariant (tested_set _ _ w.if-self-p-eq1.true)
      | else-self-p-eq1 w ↦ w.state-is ∙ digit_clear c.loop-p.p c.loop-p.state f c.loop-p.invariant (tested_clear _ _ w.if-self-p-eq1.false)
    ]

pub overflow_add-state : goal.overflow_add-state
overflow_add-state c =
    digit_fits c.loop-p.p c.loop-p.state (λ p. bit_at (get_or c.self.inside.planes p 0) c.args.i) (omega arith) c.loop-p.invariant (λ q h. bit_at-lt _ _)

pub returns : goal.returns
returns c =
    let all : c.loop-p.p ≡ 8 = omega arith in
    c.loop-p.invariant ∙ ap (λ n. number n (λ p. bit_at (get_or c.self.inside.planes p 0) c.args.i)) all
    ∙ sym (leaf_read c.self.inside.planes c.args.i c.requires) ∙ ap (λ states. get_or states c.args.i 0) c.self.view_is
