use Rattle.std.proofs.Common.{◌≡◌, ◌++◌}
use Rattle.std.specs.List.{flat_map}
use Rattle.header_rules.proofs.LineLemmas.{bytes_left}
use Rattle.cell_files.specs.Drawn.{header}
use Rattle.cell_files.specs.MCell.{line_bytes, mcell_tokens}
use Rattle.cell_files.proofs.LinesLeft.{lines_left}
use Rattle.cell_files.proofs.mcell.rle_text.Given as goal

abbrev pub invariant-loop-rest : goal.invariant-loop-rest
invariant-loop-rest l = l.out.items ++ flat_map line_bytes (lines_left l.rest) ≡ header ++ mcell_tokens l.text

abbrev pub decreases-loop-rest : goal.decreases-loop-rest
decreases-loop-rest l = bytes_left l.rest
