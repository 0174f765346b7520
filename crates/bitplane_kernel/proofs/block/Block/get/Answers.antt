use Rattle.std.proofs.Common.{◌≡◌, ℕ, ◌∙◌, sym, ap, arith, get_or}
use Rattle.std.specs.Int.{bit_at}
use Rattle.bitplane_kernel.specs.Planes.{bit, plane_at, state_in}
use Rattle.bitplane_kernel.specs.Square.{state_at}
use Rattle.bitplane_kernel.proofs.AdderLemmas.{bit_lt}
use Rattle.bitplane_kernel.specs.Digits.{number_none}
use Rattle.bitplane_kernel.proofs.ReadLemmas.{digit_fits, digit_set, digit_clear, tested_set, tested_clear, bit_is}
use Rattle.bitplane_kernel.proofs.SquareLemmas.{block_read}
use Rattle.bitplane_kernel.proofs.block.Block.get.Goals as goal
use Rattle.bitplane_kernel.proofs.block.Block.get.Goals.{then-as_array-y-eq1, else-as_array-y-eq1}

pub loop-p-init : goal.loop-p-init
loop-p-init c = sym (number_none (λ p. bit (plane_at c.self.inside.planes p) c.args.x c.args.y))

pub loop-p-preserved : goal.loop-p-preserved
loop-p-preserved c =
    let f : ℕ → ℕ = λ p. bit (plane_at c.self.inside.planes p) c.args.x c.args.y in
    let digit : f c.loop-p.p ≡ bit_at (get_or c.as_array.result.now c.args.y 0) c.args.x =
    bit_is (plane_at c.self.inside.planes c.loop-p.p) c.args.x c.args.y ∙ ap (λ v. bit_at (get_or v c.args.y 0) c.args.x) (sym c.as_array.ensures) in
    elim c.if-as_array-y-eq1.branch [
      | then-as_array-y-eq1 w ↦ w.state-is ∙ digit_set c.loop-p.p c.loop-p.state f (omega arith) c.loop-p.invariant (digit ∙ tested_set _ _ w.if-as_array-y-eq1.true)
      | else-as_array-y-eq1 w ↦ w.state-is ∙ digit_clear c.loop-p.p c.loop-p.state f c.loop-p.invariant (digit ∙ tested_clear _ _ w.if-as_array-y-eq1.false)
    ]

pub overflow_add-state : goal.overflow_add-state
overflow_add-state c =
    digit_fits c.loop-p.p c.loop-p.state (λ p. bit (plane_at c.self.inside.planes p) c.args.x c.args.y) (omega arith) c.loop-p.invariant (λ q h. bit_lt _ _ _)

pub returns : goal.returns
returns c =
    let all : c.loop-p.p ≡ 8 = omega arith in
    c.loop-p.invariant ∙ ap (λ n. state_in n c.self.inside.planes c.args.x c.args.y) all
    ∙ sym (block_read c.self.inside.planes c.args.x c.args.y c.requires.column c.requires.row) ∙ ap (λ states. state_at 16 states c.args.x c.args.y) c.self.view_is
