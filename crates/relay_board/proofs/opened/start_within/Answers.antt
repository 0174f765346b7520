use Rattle.std.proofs.Common.{rules}
use Rattle.relay_board.proofs.opened.start_within.Goals as goal

pub invariant_of-result : goal.invariant_of-result
invariant_of-result g c = record {
  board = search rules;
  inbox = search rules;
  same = search rules;
  ruled = search rules;
  few = c.seats_of-count.ensures.few;
  untried = search rules;
}
