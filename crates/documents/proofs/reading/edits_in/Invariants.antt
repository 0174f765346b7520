use Rattle.std.proofs.Common.{length}
use Rattle.document_bodies.specs.Bodies.{AreEditsUnder}
use Rattle.documents.proofs.Bodies.{AreToldTo}
use Rattle.documents.proofs.reading.edits_in.Given as goal

abbrev pub invariant-loop-body : goal.invariant-loop-body
invariant-loop-body l = record {
  under : AreEditsUnder l.rule l.edits.items;
  told : AreToldTo l.rule l.bytes l.edits.items l.rest;
}

abbrev pub decreases-loop-body : goal.decreases-loop-body
decreases-loop-body l = length l.rest
