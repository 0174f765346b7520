use Rattle.tile_steps.proofs.RowLemmas.{west_bit, east_bit}
use Rattle.tile_steps.proofs.window.side_by_side.Goals as goal

pub returns-clause-west : goal.returns-clause-west
returns-clause-west c = λ x h. rw (c.from.ensures, c.from-2.ensures) (west_bit c.args.east c.args.west x h)

pub returns-clause-east : goal.returns-clause-east
returns-clause-east c = λ x h. rw (c.from.ensures, c.from-2.ensures) (east_bit c.args.east c.args.west x c.ranges.west.fits)
