use Rattle.std.proofs.Common.{refl}
use Rattle.web_streams.proofs.ReaderLaws.{stays_none, stays_over}
use Rattle.web_streams.proofs.reader.SocketReader.set_waiting.Goals as goal

pub returns-then-is_err : goal.returns-then-is_err
returns-then-is_err g c = stays_over c.args.self.now _ refl refl

pub returns-else-is_err : goal.returns-else-is_err
returns-else-is_err g c = stays_none c.args.self.now
