use Rattle.std.proofs.Common.{sym, ◌∙◌}
use borrow.Author.Tests.{eqb-true}
use Rattle.web_streams.proofs.ReaderLaws.{pulls_empty, pulls_end, pulls_given, pulls_nothing}
use Rattle.web_streams.proofs.reader.SocketReaderRead.read.Goals as goal

pub returns-then-is_empty-clause-pulled : goal.returns-then-is_empty-clause-pulled
returns-then-is_empty-clause-pulled g c = pulls_empty c.args.self.now c.args.piece.now (eqb-true _ _ (sym c.is_empty.ensures ∙ c.if-is_empty.true))

pub returns-in-Message-clause-pulled : goal.returns-in-Message-clause-pulled
returns-in-Message-clause-pulled g c = pulls_given c.args.self.now c.wait.new.self c.give.new.self c.give.result c.give.new.piece c.in-Message.ensures c.give.ensures.gives

pub returns-in-End-clause-pulled : goal.returns-in-End-clause-pulled
returns-in-End-clause-pulled g c = pulls_end c.args.self.now c.wait.new.self c.args.piece.now c.in-End.ensures

pub returns-in-Nothing-clause-blocked : goal.returns-in-Nothing-clause-blocked
returns-in-Nothing-clause-blocked g c = pulls_nothing c.args.self.now c.wait.new.self c.in-Nothing.ensures
