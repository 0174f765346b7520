use Rattle.std.proofs.Common.{◌≤◌, ◌-◌, length}
use Rattle.document_bodies.specs.Bodies.{AreEditsUnder}
use Rattle.documents.proofs.Gathers.{AreGatheredTo}
use Rattle.documents.proofs.gathering.edits_among.Given as goal

abbrev pub invariant-loop-start : goal.invariant-loop-start
invariant-loop-start l = record {
  gathered : AreGatheredTo l.rule l.bytes l.edits.items l.from l.read l.records;
  under : AreEditsUnder l.rule l.edits.items;
  read : l.read ≤ l.from;
  records : l.records ≤ l.from;
  within : l.from ≤ length l.bytes;
}

abbrev pub decreases-loop-start : goal.decreases-loop-start
decreases-loop-start l = length l.bytes - l.from
