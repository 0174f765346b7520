use Rattle.std.proofs.Common.{◌≡◌, ◌++◌, map}
use Rattle.std.specs.List.{range_with_len}
use Rattle.bitplane_kernel.specs.Square.{state_at}
use Rattle.macrocell_lines.specs.Lines.{mark_of}
use Rattle.macrocell_lines.proofs.text.push_row.Given as goal

abbrev pub invariant-loop-column : goal.invariant-loop-column
invariant-loop-column l = l.out.items ≡ l.initial.out.items ++ map (λ u. mark_of (state_at 8 l.leaf u l.row)) (range_with_len 0 l.column)
