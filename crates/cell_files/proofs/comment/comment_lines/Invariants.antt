use Rattle.std.proofs.Common.{◌≡◌, ◌++◌}
use Rattle.std.specs.List.{flat_map}
use Rattle.header_rules.proofs.LineLemmas.{bytes_left}
use Rattle.cell_files.specs.Comments.{comment_in, comment_lines, line_of_comment}
use Rattle.cell_files.proofs.LinesLeft.{lines_left}
use Rattle.cell_files.proofs.comment.comment_lines.Given as goal

abbrev pub invariant-loop-rest : goal.invariant-loop-rest
invariant-loop-rest l = l.out.items ++ flat_map (λ line. line_of_comment (comment_in l.format line)) (lines_left l.rest) ≡ comment_lines l.format l.text

abbrev pub decreases-loop-rest : goal.decreases-loop-rest
decreases-loop-rest l = bytes_left l.rest
