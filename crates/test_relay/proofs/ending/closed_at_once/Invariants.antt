use Rattle.std.specs.Arc.{arc_value}
use Rattle.test_relay.proofs.ending.closed_at_once.Given as goal

-- the board and the inbox that were just opened
abbrev pub ghosts-closes : goal.ghosts-closes
ghosts-closes g a = record { origin = a.opened.publisher.origin; inbox = (arc_value a.opened.drain.queue).table.shared.table_id }
