use Rattle.std.specs.Arc.{arc_value}
use Rattle.test_relay.proofs.handing.of_1025_edits_all_or_a_plane.Given as goal

-- the board and the inbox that were just opened
abbrev pub ghosts-hands : goal.ghosts-hands
ghosts-hands g a = record { origin = a.opened.publisher.origin; inbox = (arc_value a.opened.drain.queue).table.shared.table_id }
