use Rattle.std.proofs.Common.{◌≡◌, ◌∙◌, ◌+◌, ◌≤◌, ◌<◌, sym, arith}
use Rattle.macrocell_universes.proofs.Corners.{corner_above, corner_at, corner_below, corner_left, corner_right}
use Rattle.macrocell_universes.proofs.root.state_about.Goals as goal
use Rattle.macrocell_universes.proofs.root.state_about.Goals.{then-column-half-lt8-via-then-column-half-lt8, then-column-half-lt8-via-else-column-half-lt8+then-half-column, then-row-half-lt9-via-then-row-half-lt9, then-row-half-lt9-via-else-row-half-lt9+then-half-row}

pub returns-then-column-half-lt8 : goal.returns-then-column-half-lt8
returns-then-column-half-lt8 c = elim c.then-column-half-lt8.branch [
  | then-column-half-lt8-via-then-column-half-lt8 w ↦ sym (corner_left c.args.entries.now c.args.root c.half_of-half.result c.requires.is c.requires.few c.half_of-half.ensures.half c.args.column c.args.row (omega (arith, w.if-column-half-lt8.true)))
  | then-column-half-lt8-via-else-column-half-lt8+then-half-column w ↦ sym (corner_right c.args.entries.now c.args.root c.half_of-half.result c.requires.is c.requires.few c.half_of-half.ensures.half c.args.column c.args.row (omega (arith, w.if-half-column.true)))
]

pub returns-then-row-half-lt9 : goal.returns-then-row-half-lt9
returns-then-row-half-lt9 c = elim c.then-row-half-lt9.branch [
  | then-row-half-lt9-via-then-row-half-lt9 w ↦ sym (corner_above c.args.entries.now c.args.root c.half_of-half.result c.requires.is c.requires.few c.half_of-half.ensures.half c.args.column c.args.row (omega (arith, w.if-row-half-lt9.true)))
  | then-row-half-lt9-via-else-row-half-lt9+then-half-row w ↦ sym (corner_below c.args.entries.now c.args.root c.half_of-half.result c.requires.is c.requires.few c.half_of-half.ensures.half c.args.column c.args.row (omega (arith, w.if-half-row.true)))
]

pub returns : goal.returns
returns c =
    c.state_of.ensures ∙ sym (corner_at c.args.entries.now c.args.root c.half_of-half.result c.requires.is c.requires.few c.half_of-half.ensures.half c.args.column c.args.row
    (omega (arith, c.if-column-half-lt8.false)) (omega (arith, c.if-half-column.false)) (omega (arith, c.if-row-half-lt9.false)) (omega (arith, c.if-half-row.false)))
