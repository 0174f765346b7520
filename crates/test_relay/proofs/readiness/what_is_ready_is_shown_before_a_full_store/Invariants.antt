use Rattle.std.specs.Arc.{arc_value}
use Rattle.test_relay.proofs.readiness.what_is_ready_is_shown_before_a_full_store.Given as goal

-- the board and the inbox that were just opened
abbrev pub ghosts-packed : goal.ghosts-packed
ghosts-packed g a = record { origin = a.opened.publisher.origin; inbox = (arc_value a.opened.drain.queue).table.shared.table_id }
