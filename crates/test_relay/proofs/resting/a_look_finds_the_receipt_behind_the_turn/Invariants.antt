use Rattle.std.specs.Arc.{arc_value}
use Rattle.test_relay.proofs.resting.a_look_finds_the_receipt_behind_the_turn.Given as goal

-- the board and the inbox that were just opened
abbrev pub ghosts-looks : goal.ghosts-looks
ghosts-looks g a = record { origin = a.opened.publisher.origin; inbox = (arc_value a.opened.drain.queue).table.shared.table_id }
