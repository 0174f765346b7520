use Rattle.std.proofs.Common.{◌≡◌, ℕ, ◌∙◌, sym, ap, arith}
use Rattle.bitplane_kernel.specs.Planes.{number, bit}
use Rattle.bitplane_kernel.specs.Digits.{number_none}
use Rattle.bitplane_kernel.proofs.ReadLemmas.{bit_is, digit_fits, digit_set, digit_clear, tested_set, tested_clear}
use Rattle.tile_steps.specs.Tiles.{tile_plane}
use Rattle.tile_steps.proofs.AdderLemmas.{bit_lt}
use Rattle.tile_steps.proofs.tile.Tile.state.Goals as goal
use Rattle.tile_steps.proofs.tile.Tile.state.Goals.{then-self-p-eq1, else-self-p-eq1}

pub loop-p-init : goal.loop-p-init
loop-p-init N c = sym (number_none (λ p. bit (tile_plane c.args.self.now.planes p) c.args.column c.args.row))

pub loop-p-preserved : goal.loop-p-preserved
loop-p-preserved N c =
    let f : ℕ → ℕ = λ p. bit (tile_plane c.args.self.now.planes p) c.args.column c.args.row in
    elim c.if-self-p-eq1.branch [
      | then-self-p-eq1 w ↦ w.state-is ∙ digit_set c.loop-p.p c.loop-p.state f (omega arith) c.loop-p.invariant (bit_is _ _ _ ∙ tested_set _ _ w.if-self-p-eq1.true)
      | else-self-p-eq1 w ↦ w.state-is ∙ digit_clear c.loop-p.p c.loop-p.state f c.loop-p.invariant (bit_is _ _ _ ∙ tested_clear _ _ w.if-self-p-eq1.false)
    ]

pub overflow_add-state : goal.overflow_add-state
overflow_add-state N c =
    digit_fits c.loop-p.p c.loop-p.state (λ p. bit (tile_plane c.args.self.now.planes p) c.args.column c.args.row) (omega arith) c.loop-p.invariant (λ q h. bit_lt _ _ _)

pub returns : goal.returns
returns N c =
    let all : c.loop-p.p ≡ N.row.N = omega arith in
    c.loop-p.invariant ∙ ap (λ n. number n (λ p. bit (tile_plane c.args.self.now.planes p) c.args.column c.args.row)) all
