use Rattle.std.proofs.Common.{◌≡◌, ◌≤◌, ◌<◌, ◌^◌, ◌+◌, length}
use Rattle.std.specs.Prelude.{IfSome, option_map}
use Rattle.header_rules.proofs.LineLemmas.{bytes_left}
use Rattle.macrocell_text.specs.Readings.{reading_of}
use Rattle.macrocell_text.specs.Texts.{lines_left, with_lines}
use Rattle.macrocell_text.proofs.text.lines_told.Given as goal

abbrev pub invariant-loop-left : goal.invariant-loop-left
invariant-loop-left l = record {
  left : with_lines (reading_of l.told) (lines_left (option_map (λ rest. rest.now) l.left)) ≡ with_lines (reading_of l.fn.reader) (lines_left (option_map (λ rest. rest.now) l.fn.lines));
  within : IfSome l.left (λ rest. l.told.start + length rest.now + 1 < 2 ^ 64);
}

abbrev pub decreases-loop-left : goal.decreases-loop-left
decreases-loop-left l = bytes_left l.left
