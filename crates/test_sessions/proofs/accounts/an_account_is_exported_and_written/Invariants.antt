use Rattle.std.specs.Arc.{arc_value}
use Rattle.test_sessions.proofs.accounts.an_account_is_exported_and_written.Given as goal

-- the board and the inbox that were just opened
abbrev pub ghosts-finished : goal.ghosts-finished
ghosts-finished g a = record { origin = a.opened.publisher.origin; inbox = (arc_value a.opened.drain.queue).table.shared.table_id }
