use Rattle.std.proofs.Common.{arith}
use Rattle.std.proofs.lemmas.Grind.{common_steps}
use Rattle.web_streams.specs.Telling.{message_of}
use Rattle.web_streams.proofs.writer.message_of.Goals as goal

pub returns : goal.returns
unfolding message_of
returns c = let written = c.in_ok-write_frame.ensures.ok in grind (arith, common_steps, written)
