use Rattle.std.specs.Arc.{arc_value}
use Rattle.test_relay.proofs.files.a_file_brings_edits_of_every_replica.Given as goal

-- the board and the inbox that were just opened
abbrev pub ghosts-is_brought : goal.ghosts-is_brought
ghosts-is_brought g a = record { origin = a.opened.publisher.origin; inbox = (arc_value a.opened.drain.queue).table.shared.table_id }
