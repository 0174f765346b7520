use Rattle.std.proofs.Common.{◌≡◌, ◌++◌, drop}
use mathlib.Core.List.{IsPrefix}
use Rattle.genedit_lib.specs.EditLines.{edit_lines}
use Rattle.genedit_lib.proofs.edit_lines.push_edits.Given as goal

-- the lines that are printed, and then those of the edits that are left, are the lines of all; what was printed before stands
abbrev pub invariant-loop-edit : goal.invariant-loop-edit
invariant-loop-edit l = (l.fn.out.items ++ edit_lines l.fn.edits ≡ l.out.items ++ edit_lines (drop l.edit-index l.edits)) × IsPrefix l.fn.out.items l.out.items
