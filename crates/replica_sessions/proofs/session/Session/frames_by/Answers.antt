use Rattle.std.proofs.Common.{rules}
use Rattle.replica_sessions.proofs.session.Session.frames_by.Goals as goal
use Rattle.replica_sessions.proofs.session.Session.frames_by.Goals.{in-Hello, in-Push, in-Poll, in-Whole, in-Export, in-Cut, in-Bye, in-Many, in-Pieces, in-Faulty}

pub returns-clause-answer : goal.returns-clause-answer
returns-clause-answer g c =
    elim c.match-kind.branch [
      | in-Hello w ↦ search rules
      | in-Push w ↦ search rules
      | in-Poll w ↦ search rules
      | in-Whole w ↦ search rules
      | in-Export w ↦ search rules
      | in-Cut w ↦ search rules
      | in-Bye w ↦ search rules
      | in-Many w ↦ search rules
      | in-Pieces w ↦ search rules
      | in-Faulty w ↦ search rules
    ]
