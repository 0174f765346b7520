use Rattle.std.proofs.Common.{◌≡◌, drop, max}
use Rattle.genedit_documents.specs.Numbers.{greatest}
use Rattle.genedit_documents.proofs.numbers.greatest.Given as goal

-- the greatest number so far, or of those that are left, is that of all
abbrev pub invariant-loop-numbering : goal.invariant-loop-numbering
invariant-loop-numbering l = max l.greatest (greatest (drop l.numbering-index l.told)) ≡ greatest l.fn.told
