use Rattle.std.proofs.Common.{◌≡◌, ◌++◌, length}
use Rattle.std.specs.Prelude.{option_map}
use Rattle.text_scan.specs.Words.{words}
use Rattle.command_words.specs.Values.{cells_spelled}
use Rattle.command_words.proofs.values.cells_in.Given as goal

-- the cells so far, and those of the rest behind them
abbrev pub invariant-loop-x : goal.invariant-loop-x
invariant-loop-x l = option_map (λ more. l.cells.items ++ more) (cells_spelled (words l.rest)) ≡ cells_spelled (words l.line)

abbrev pub decreases-loop-x : goal.decreases-loop-x
decreases-loop-x l = length l.rest
