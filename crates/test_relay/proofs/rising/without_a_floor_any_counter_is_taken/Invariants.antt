use Rattle.std.specs.Arc.{arc_value}
use Rattle.test_relay.proofs.rising.without_a_floor_any_counter_is_taken.Given as goal

-- the board and the inbox that were just opened
abbrev pub ghosts-has_no_floor : goal.ghosts-has_no_floor
ghosts-has_no_floor g a = record { origin = a.opened.publisher.origin; inbox = (arc_value a.opened.drain.queue).table.shared.table_id }
