use Rattle.board.specs.Origins.{origin}
use Rattle.board.specs.Sights.{label_of}
use Rattle.inbox.proofs.ends.Drain.new.Given as goal

-- the inbox is for the board of this front
abbrev pub ghosts-bound : goal.ghosts-bound
ghosts-bound a = record { label = label_of (origin a.front.now) }
