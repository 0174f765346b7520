use Rattle.std.proofs.Common.{◌≡◌, drop, max}
use Rattle.genedit_documents.specs.Listing.{clock_of}
use Rattle.genedit_documents.proofs.listing.clock_of.Given as goal

-- the greatest counter so far, or of the edits that are left, is that of all
abbrev pub invariant-loop-edit : goal.invariant-loop-edit
invariant-loop-edit l = max l.clock (clock_of (drop l.edit-index l.edits)) ≡ clock_of l.fn.edits
