use Rattle.std.proofs.Common.{◌≡◌, ◌-◌, length, drop}
use Rattle.std.specs.List.{enumerate_from}
use Rattle.multistate_rle.specs.Reading.{lines_of, bare, cells_read}
use Rattle.multistate_rle.specs.Steps.{cells_with}
use Rattle.multistate_rle.specs.Lines.{left}
use Rattle.multistate_rle.proofs.reading.body.Given as goal

abbrev pub invariant-loop-place : goal.invariant-loop-place
invariant-loop-place l =
    cells_with (length l.text) (left l.line (enumerate_from l.place (drop l.place l.text))) l.reader
    ≡ cells_read (length l.text) (bare (lines_of (enumerate_from l.start (drop l.start l.text))))

abbrev pub decreases-loop-place : goal.decreases-loop-place
decreases-loop-place l = length l.text - l.place
