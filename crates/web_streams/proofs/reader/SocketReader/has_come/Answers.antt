use Rattle.web_streams.proofs.ReaderLaws.{comes_at_once, comes_told}
use Rattle.web_streams.proofs.reader.SocketReader.has_come.Goals as goal

pub returns-then-not-is_given : goal.returns-then-not-is_given
returns-then-not-is_given g c = comes_at_once c.args.self.now c.is_given.result c.if-not-is_given.true c.is_given.ensures.1

pub returns : goal.returns
returns g c =
    rw c.told.ensures
    (comes_told c.args.self.now c.set_waiting.new.self c.hear-came.new.self c.set_waiting-2.new.self c.flush.new.self c.hear-came.result (c.is_given.ensures.0 c.if-not-is_given.false)
    c.set_waiting.ensures c.hear-came.ensures c.set_waiting-2.ensures c.flush.ensures)
