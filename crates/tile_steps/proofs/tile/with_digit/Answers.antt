use Rattle.tile_steps.proofs.SetLemmas.{digit_on, digit_off}
use Rattle.tile_steps.proofs.tile.with_digit.Goals as goal

pub returns-then-digit : goal.returns-then-digit
returns-then-digit c = rw c.if-digit.true (λ x h. digit_on c.args.cells c.args.column x c.requires)

pub returns-else-digit : goal.returns-else-digit
returns-else-digit c = rw c.if-digit.false (λ x h. digit_off c.args.cells c.args.column x c.requires h)
