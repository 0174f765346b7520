use Rattle.std.proofs.Common.{refl}
use Rattle.web_streams.proofs.ReaderLaws.{stays_flushed, stays_over}
use Rattle.web_streams.proofs.reader.SocketReader.flush.Goals as goal

pub returns-then-is_err : goal.returns-then-is_err
returns-then-is_err g c = stays_over c.args.self.now _ refl refl

pub returns-else-is_err : goal.returns-else-is_err
returns-else-is_err g c = stays_flushed g.S.Write.contents c.args.self.now _ refl refl c.flush.ensures.sent
