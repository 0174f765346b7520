use Rattle.board.specs.Origins.{origin}
use Rattle.receipts.specs.Topics.{topic}
use Rattle.receipts.proofs.opening.open.Given as goal

-- the channel is for this entry of the board of this front
abbrev pub ghosts-opened : goal.ghosts-opened
ghosts-opened a = record { topic = topic a.entry.now (origin a.front.now) }
