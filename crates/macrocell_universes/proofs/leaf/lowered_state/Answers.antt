use Rattle.std.proofs.Common.{◌≡◌, ℕ, zero, suc, ◌+◌, ◌-◌, ◌/◌, ◌%◌, refl, ◌∙◌, ap, sym, arith}
use Rattle.macrocell_lines.specs.Squares.{state_in}
use Rattle.macrocell_universes.specs.Lowered.{grid_of, lowered}
use Rattle.macrocell_universes.specs.Numbered.{square_of}
use Rattle.macrocell_universes.proofs.leaf.lowered_state.Goals as goal

pub returns-then-i-lt8 : goal.returns-then-i-lt8
returns-then-i-lt8 c =
    let f = grid_of (square_of c.args.entries.now c.args.upper) in let g = grid_of (square_of c.args.entries.now c.args.lower) in
    let x : c.args.i ≡ c.args.i % 8 = omega (arith, c.if-i-lt8.true) in
    let y : 0 ≡ c.args.i / 8 = omega (arith, c.if-i-lt8.true) in
    c.state_of.ensures ∙ (λ i. (lowered 8 f g (x i) (y i)).state)

pub returns-else-i-lt8 : goal.returns-else-i-lt8
returns-else-i-lt8 c =
    let f = grid_of (square_of c.args.entries.now c.args.upper) in let g = grid_of (square_of c.args.entries.now c.args.lower) in
    let y : suc (c.args.i / 8 - 1) ≡ c.args.i / 8 = omega (arith, c.if-i-lt8.false) in
    c.state_of-else-i-lt8.ensures ∙ (λ i. (lowered 8 f g (c.args.i % 8) (y i)).state)
