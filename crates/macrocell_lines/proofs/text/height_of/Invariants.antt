use Rattle.std.proofs.Common.{◌≡◌, ◌≤◌, map}
use Rattle.std.specs.List.{range_with_len}
use Rattle.macrocell_lines.specs.Lines.{live_len, row_of}
use Rattle.macrocell_lines.proofs.text.height_of.Given as goal

abbrev pub invariant-loop-row : goal.invariant-loop-row
invariant-loop-row l = (l.height ≡ live_len (map (λ v. live_len (row_of l.leaf v)) (range_with_len 0 l.row))) × (l.height ≤ l.row)
