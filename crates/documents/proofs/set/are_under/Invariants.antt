use Rattle.std.proofs.Common.{take}
use Rattle.document_bodies.specs.Bodies.{AreEditsUnder}
use Rattle.documents.proofs.set.are_under.Given as goal

abbrev pub invariant-loop-edit : goal.invariant-loop-edit
invariant-loop-edit l = AreEditsUnder l.rule (take l.edit-index l.edits)
