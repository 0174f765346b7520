use Rattle.std.proofs.Common.{◌≡◌, ◌++◌}
use Rattle.cell_files.specs.MCell.{blanks}
use Rattle.cell_files.proofs.mcell.push_blanks.Given as goal

abbrev pub invariant-loop : goal.invariant-loop
invariant-loop l = l.out.items ≡ l.initial.out.items ++ blanks l.counter
