use Rattle.std.proofs.Common.{◌≡◌, map}
use Rattle.multistate_rle.specs.HeaderLine.{text_lines}
use Rattle.genedit_documents.specs.Numbers.{numbers_told, pair_of}
use Rattle.genedit_documents.proofs.NumberLaws.{ahead, left, lines_left}
use Rattle.genedit_documents.proofs.numbers.numbers_in.Given as goal

-- what was told, and what the lines that are left tell, is what all lines do
abbrev pub invariant-loop-rest : goal.invariant-loop-rest
invariant-loop-rest l = ahead (map pair_of l.told.items) (numbers_told (lines_left l.rest)) ≡ numbers_told (text_lines l.fn.text)

abbrev pub decreases-loop-rest : goal.decreases-loop-rest
decreases-loop-rest l = left l.rest
