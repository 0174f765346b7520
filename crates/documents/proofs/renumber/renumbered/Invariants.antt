use Rattle.std.proofs.Common.{◌≡◌, ◌++◌, drop}
use Rattle.documents.specs.Renumber.{renumbered}
use Rattle.documents.proofs.renumber.renumbered.Given as goal

-- the edits so far, and those that are left, are all
abbrev pub invariant-loop-edit : goal.invariant-loop-edit
invariant-loop-edit l = l.others.items ++ renumbered l.fn.number l.fn.taken (drop l.edit-index l.edits) ≡ renumbered l.fn.number l.fn.taken l.fn.edits
