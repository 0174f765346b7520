use Rattle.std.specs.Arc.{arc_value}
use Rattle.test_relay.proofs.resting.a_rest_ends_at_once.Given as goal

-- the board and the inbox that were just opened
abbrev pub ghosts-rests : goal.ghosts-rests
ghosts-rests g a = record { origin = a.opened.publisher.origin; inbox = (arc_value a.opened.drain.queue).table.shared.table_id }
