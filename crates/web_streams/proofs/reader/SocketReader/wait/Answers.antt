use Rattle.web_streams.proofs.ReaderLaws.{comes_at_once, comes_hear}
use Rattle.web_streams.proofs.reader.SocketReader.wait.Goals as goal

pub returns-then-not-is_given : goal.returns-then-not-is_given
returns-then-not-is_given g c = comes_at_once c.args.self.now c.is_given.result c.if-not-is_given.true c.is_given.ensures.1

pub returns : goal.returns
returns g c = comes_hear c.args.self.now c.hear.new.self c.hear.result (c.is_given.ensures.0 c.if-not-is_given.false) c.hear.ensures
