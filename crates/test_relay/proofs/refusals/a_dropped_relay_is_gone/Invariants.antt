use Rattle.std.specs.Arc.{arc_value}
use Rattle.test_relay.proofs.refusals.a_dropped_relay_is_gone.Given as goal

-- the board and the inbox that were just opened
abbrev pub ghosts-is_gone : goal.ghosts-is_gone
ghosts-is_gone g a = record { origin = a.opened.publisher.origin; inbox = (arc_value a.opened.drain.queue).table.shared.table_id }
