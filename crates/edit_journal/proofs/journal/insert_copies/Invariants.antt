use Rattle.std.proofs.Common.{◌≡◌, drop}
use Rattle.edit_journal.specs.Journal.{noted}
use Rattle.edit_journal.proofs.SeenEdits.{AreSeen, BeginsWith}
use Rattle.edit_journal.proofs.journal.insert_copies.Given as goal

abbrev pub invariant-loop-edit : goal.invariant-loop-edit
invariant-loop-edit l = record {
  noted : noted l.journal.keys (drop l.edit-index l.edits) ≡ noted l.fn.journal.keys l.edits;
  seen : AreSeen l.edits l.edit-index;
  begins : BeginsWith l.fn.journal.keys l.journal.keys;
}
