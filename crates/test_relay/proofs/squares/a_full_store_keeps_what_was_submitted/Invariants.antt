use Rattle.std.specs.Arc.{arc_value}
use Rattle.test_relay.proofs.squares.a_full_store_keeps_what_was_submitted.Given as goal

-- the board and the inbox that were just opened
abbrev pub ghosts-keeps : goal.ghosts-keeps
ghosts-keeps g a = record { origin = a.opened.publisher.origin; inbox = (arc_value a.opened.drain.queue).table.shared.table_id }
