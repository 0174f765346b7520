use Rattle.std.specs.Arc.{arc_value}
use Rattle.test_relay.proofs.refusals.what_is_refused_comes_back.Given as goal

-- the board and the inbox that were just opened
abbrev pub ghosts-is_refused : goal.ghosts-is_refused
ghosts-is_refused g a = record { origin = a.opened.publisher.origin; inbox = (arc_value a.opened.drain.queue).table.shared.table_id }
