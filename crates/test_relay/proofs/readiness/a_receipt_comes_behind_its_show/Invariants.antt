use Rattle.std.specs.Arc.{arc_value}
use Rattle.test_relay.proofs.readiness.a_receipt_comes_behind_its_show.Given as goal

-- the board and the inbox that were just opened
abbrev pub ghosts-is_in_steps : goal.ghosts-is_in_steps
ghosts-is_in_steps g a = record { origin = a.opened.publisher.origin; inbox = (arc_value a.opened.drain.queue).table.shared.table_id }
