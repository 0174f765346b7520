use Rattle.std.proofs.Common.{◌≡◌, take, map}
use Rattle.macrocell_text.specs.LiveCells.{capped_count}
use Rattle.macrocell_text.specs.Macrocells.{squares_of}
use Rattle.macrocell_text.proofs.counts.counts_of.Given as goal

abbrev pub invariant-loop-entry : goal.invariant-loop-entry
invariant-loop-entry l = l.counts.items ≡ map capped_count (squares_of (take l.entry-index l.entries))
