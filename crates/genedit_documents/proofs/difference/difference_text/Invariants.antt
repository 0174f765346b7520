use Rattle.std.proofs.Common.{◌≡◌, ◌++◌, drop}
use Rattle.genedit_documents.specs.Differing.{difference_lines}
use Rattle.genedit_documents.proofs.difference.difference_text.Given as goal

-- the lines so far, and those of the edits that are left, are those of all
abbrev pub invariant-loop-edit : goal.invariant-loop-edit
invariant-loop-edit l = l.text.items ++ difference_lines l.fn.first.edits l.fn.second.edits (drop l.edit-index l.edit-items) ≡ difference_lines l.fn.first.edits l.fn.second.edits l.edit-items
