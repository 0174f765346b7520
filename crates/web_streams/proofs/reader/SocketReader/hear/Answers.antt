use Rattle.std.proofs.Common.{[], refl}
use Rattle.web_streams.proofs.HearingLaws.{goes_on_none}
use Rattle.web_streams.proofs.ReaderLaws.{hears_behind, listens_none, listens_on, on_behind}
use Rattle.web_streams.proofs.reader.SocketReader.hear.Goals as goal

pub returns-then-self : goal.returns-then-self
returns-then-self g c = record { bodies = []; listens = listens_none c.args.self.now; in_hand = (refl, c.requires, c.if-self.true) }

pub loop-message-init : goal.loop-message-init
loop-message-init g c = record { on = goes_on_none c.args.self.now.socket; goes_on = c.if-self.false; in_hand = c.requires }

pub returns-in-Some : goal.returns-in-Some
returns-in-Some g c = hears_behind c.args.self.now c.loop-message.self c.hear_one.new.self c.in-Some.came c.if-self.false c.loop-message.invariant.goes_on c.loop-message.invariant.on c.in-Some.ensures

pub loop-message-preserved : goal.loop-message-preserved
loop-message-preserved g c = record {
  on = on_behind c.args.self.now c.loop-message.self c.hear_one.new.self c.loop-message.invariant.on c.in-None.ensures;
  goes_on = c.in-None.ensures.in_hand.2;
  in_hand = c.in-None.ensures.in_hand.1;
}

pub returns : goal.returns
returns g c = record {
  bodies = [];
  listens = listens_on c.args.self.now c.loop-message.self [] c.if-self.false c.loop-message.invariant.goes_on c.loop-message.invariant.on;
  in_hand = (refl, c.loop-message.invariant.in_hand, c.loop-message.invariant.goes_on);
}
