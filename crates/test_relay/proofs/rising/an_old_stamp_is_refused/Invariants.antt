use Rattle.std.specs.Arc.{arc_value}
use Rattle.test_relay.proofs.rising.an_old_stamp_is_refused.Given as goal

-- the board and the inbox that were just opened
abbrev pub ghosts-rises : goal.ghosts-rises
ghosts-rises g a = record { origin = a.opened.publisher.origin; inbox = (arc_value a.opened.drain.queue).table.shared.table_id }
