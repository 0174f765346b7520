use Rattle.web_streams.proofs.SessionLaws.{pulls_frames}
use Rattle.web_streams.proofs.laws.reader_laws.Goals as goal

pub returns : goal.returns
returns g c = pulls_frames
