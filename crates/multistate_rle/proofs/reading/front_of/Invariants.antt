use Rattle.std.proofs.Common.{◌≡◌, length, drop, ◌-◌}
use Rattle.std.specs.List.{enumerate_from}
use Rattle.multistate_rle.specs.Reading.{parsed, lines_of, lines_read}
use Rattle.multistate_rle.proofs.reading.front_of.Given as goal

abbrev pub invariant-loop-start : goal.invariant-loop-start
invariant-loop-start l = lines_read (length l.text) l.origin (lines_of (enumerate_from l.start (drop l.start l.text))) ≡ parsed l.text

abbrev pub decreases-loop-start : goal.decreases-loop-start
decreases-loop-start l = length l.text - l.start
