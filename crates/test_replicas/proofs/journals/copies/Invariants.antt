use Rattle.std.proofs.Common.{◌≡◌, take}
use Rattle.test_replicas.proofs.journals.copies.Given as goal

-- the edits so far are copied
abbrev pub invariant-loop-edit : goal.invariant-loop-edit
invariant-loop-edit l = l.copies.items ≡ take l.edit-index l.fn.edits
