use Rattle.std.proofs.Common.{refl}
use Rattle.relay_board.proofs.relay.Relay.show_first.Goals as goal

pub returns-in-Ok-clause-turned : goal.returns-in-Ok-clause-turned
returns-in-Ok-clause-turned g c = rw c.in-Ok.is at c.show.ensures.shown

pub returns-in-Err-clause-turned : goal.returns-in-Err-clause-turned
returns-in-Err-clause-turned g c = (refl, rw c.in-Err.is at c.show.ensures.shown)
