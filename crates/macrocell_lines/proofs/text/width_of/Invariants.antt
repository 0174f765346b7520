use Rattle.std.proofs.Common.{◌≡◌, ◌≤◌, map}
use Rattle.std.specs.List.{range_with_len}
use Rattle.bitplane_kernel.specs.Square.{state_at}
use Rattle.macrocell_lines.specs.Lines.{live_len}
use Rattle.macrocell_lines.proofs.text.width_of.Given as goal

abbrev pub invariant-loop-column : goal.invariant-loop-column
invariant-loop-column l = (l.width ≡ live_len (map (λ u. state_at 8 l.leaf u l.row) (range_with_len 0 l.column))) × (l.width ≤ l.column)
