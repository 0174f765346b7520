use Rattle.std.specs.Arc.{arc_value}
use Rattle.test_sessions.proofs.late.who_is_1025_edits_behind_gets_a_plane.Given as goal

-- the board and the inbox that were just opened
abbrev pub ghosts-late : goal.ghosts-late
ghosts-late g a = record { origin = a.opened.publisher.origin; inbox = (arc_value a.opened.drain.queue).table.shared.table_id }
