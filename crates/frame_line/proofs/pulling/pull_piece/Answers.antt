use Rattle.std.proofs.Common.{arith}
use Rattle.frame_line.proofs.PullingLaws.{come_of}
use Rattle.frame_line.proofs.pulling.pull_piece.Goals as goal

pub returns-in-Ok-feed : goal.returns-in-Ok-feed
returns-in-Ok-feed g c = (_, come_of _ _ c.in-Ok.count c.pull.new.piece c.in-Ok.ensures.pulled c.in-Ok.ensures.within (omega arith), c.in-Ok-feed.ensures.ok)
