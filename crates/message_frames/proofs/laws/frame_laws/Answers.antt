use Rattle.message_frames.proofs.StreamLaws.{has_one_cut}
use Rattle.message_frames.proofs.laws.frame_laws.Goals as goal

pub returns-clause-cut : goal.returns-clause-cut
returns-clause-cut c = has_one_cut
