use Rattle.std.specs.Arc.{arc_value}
use Rattle.genedit_serve.proofs.kept.serve_kept_on.Given as goal

-- the board and the inbox that were just opened
abbrev pub ghosts-serve : goal.ghosts-serve
ghosts-serve g a = record { origin = a.opened.publisher.origin; inbox = (arc_value a.opened.drain.queue).table.shared.table_id }
