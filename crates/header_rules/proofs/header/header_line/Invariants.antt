use Rattle.std.proofs.Common.{◌≡◌, ◌+◌, ◌≤◌, length}
use Rattle.std.specs.Prelude.{IfSome}
use Rattle.multistate_rle.specs.HeaderLine.{text_lines}
use Rattle.header_rules.specs.HeaderRule.{header_line}
use Rattle.header_rules.proofs.LineLemmas.{header_left, bytes_left}
use Rattle.header_rules.proofs.header.header_line.Given as goal

abbrev pub invariant-loop-rest : goal.invariant-loop-rest
invariant-loop-rest l = record {
  left : header_left l.start l.rest ≡ header_line 0 (text_lines l.text);
  within : IfSome l.rest (λ lines. l.start + length lines.now ≤ length l.text);
}

abbrev pub decreases-loop-rest : goal.decreases-loop-rest
decreases-loop-rest l = bytes_left l.rest
