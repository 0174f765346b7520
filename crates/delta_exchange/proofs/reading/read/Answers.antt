use Rattle.std.proofs.Common.{subst}
use Rattle.delta_exchange.specs.Room.{IsMapTooLargeFor}
use Rattle.delta_exchange.proofs.reading.read.Goals as goal

pub returns-clause-too_large : goal.returns-clause-too_large
returns-clause-too_large c = λ meant are text full. subst (λ n. IsMapTooLargeFor n meant) c.usual.ensures.room (c.read_within.ensures.too_large meant are text full)
