use Rattle.std.specs.Arc.{arc_value}
use Rattle.bench_calls.proofs.running.run.Given as goal

-- the board and the inbox that were just opened
abbrev pub ghosts-run_named : goal.ghosts-run_named
ghosts-run_named g a = record { origin = a.opened.publisher.origin; inbox = (arc_value a.opened.drain.queue).table.shared.table_id }
