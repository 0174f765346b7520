use Rattle.std.proofs.Common.{◌≡◌, ◌++◌, length}
use Rattle.cell_files.specs.Drawn.{header}
use Rattle.cell_files.specs.declared.plaintext.Standing.TheVariants.{Start}
use Rattle.cell_files.specs.Plaintext.{tokens_from}
use Rattle.cell_files.proofs.plaintext.rle_text.Given as goal

abbrev pub invariant-loop-rest : goal.invariant-loop-rest
invariant-loop-rest l = l.out.items ++ tokens_from l.standing l.rest ≡ header ++ tokens_from Start l.text

abbrev pub decreases-loop-rest : goal.decreases-loop-rest
decreases-loop-rest l = length l.rest
