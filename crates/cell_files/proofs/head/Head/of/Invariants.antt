use Rattle.std.proofs.Common.{◌≡◌, ◌+◌, ◌≤◌, length}
use Rattle.std.specs.Prelude.{fold, IfSome}
use Rattle.header_rules.proofs.LineLemmas.{bytes_left}
use Rattle.cell_files.specs.Heads.{head_of, with_line}
use Rattle.cell_files.proofs.LinesLeft.{lines_left}
use Rattle.cell_files.proofs.head.Head.of.Given as goal

abbrev pub invariant-loop-rest : goal.invariant-loop-rest
invariant-loop-rest l = record {
  left : fold with_line l.head (lines_left l.rest) ≡ head_of l.text;
  within : IfSome l.rest (λ lines. l.head.start + length lines.now ≤ length l.text);
}

abbrev pub decreases-loop-rest : goal.decreases-loop-rest
decreases-loop-rest l = bytes_left l.rest
