use Rattle.std.proofs.Common.{◌≡◌, [], false}
use Rattle.web_streams.specs.Frame.{rest_of}
use Rattle.web_streams.specs.Messages.{GoesOn}
use Rattle.web_streams.proofs.reader.SocketReader.hear.Given as goal

abbrev pub invariant-loop-message : goal.invariant-loop-message
invariant-loop-message g l = record {
  on : GoesOn l.initial.self.socket l.self.socket [];
  goes_on : l.self.is_over ≡ false;
  in_hand : rest_of l.self.frame ≡ [];
}
