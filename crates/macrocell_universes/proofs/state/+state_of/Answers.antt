use Rattle.std.proofs.Common.{◌-◌, ◌^◌, ◌<◌, suc, refl, ◌∙◌, ap, sym, subst, arith}
use Rattle.macrocell_lines.specs.Squares.{state_in}
use Rattle.macrocell_universes.specs.Numbered.{quarter_at, square_of}
use Rattle.macrocell_universes.specs.States.{column_in_half}
use Rattle.macrocell_universes.proofs.StatesIn.{bits_state, column_within, quarter_numbered, quarter_state, zero_state}
use Rattle.macrocell_universes.proofs.state.+state_of.Goals as goal

pub returns-then-square-eq0 : goal.returns-then-square-eq0
returns-then-square-eq0 t c = sym (zero_state c.args.entries.now c.args.square c.args.column c.args.row c.if-square-eq0.true)

pub returns-in-Rows : goal.returns-in-Rows
returns-in-Rows t c = c.state_of_bit.ensures ∙ sym (bits_state c.args.entries.now c.args.square c.in-Rows.rows c.args.column c.args.row c.in-Rows.ensures.0 c.in-Rows.ensures.1 c.requires.column c.requires.row)

pub returns-in-Four : goal.returns-in-Four
returns-in-Four t c =
    let es = c.args.entries.now in
    c.state_of.ensures
    ∙ (λ i. state_in (square_of es (c.quarter.ensures i)) (c.column_in_half.ensures i) (c.column_in_half-in-Four.ensures i))
    ∙ (λ i. state_in (square_of es (quarter_at c.args.square.level (c.number_in-number.ensures i))) (column_in_half c.half_of-half.result c.args.column) (column_in_half c.half_of-half.result c.args.row))
    ∙ sym (quarter_state es c.args.square c.in-Four.four (c.args.square.level - 1) c.half_of-half.result c.args.column c.args.row c.in-Four.ensures refl c.half_of-half.ensures.half)
