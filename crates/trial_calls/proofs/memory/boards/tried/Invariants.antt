use Rattle.std.specs.Arc.{arc_value}
use Rattle.trial_calls.proofs.memory.boards.tried.Given as goal

-- the board and the inbox that were just started
abbrev pub ghosts-named : goal.ghosts-named
ghosts-named g a = record { origin = a.opened.publisher.origin; inbox = (arc_value a.opened.drain.queue).table.shared.table_id }
