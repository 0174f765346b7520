use Rattle.std.proofs.Common.{◌≡◌, length}
use Rattle.genedit_script.specs.Script.{lines_from}
use Rattle.script_check.specs.Block.{byte_among}
use Rattle.script_check.proofs.block.place_in_block.Given as goal

abbrev pub invariant-loop-line : goal.invariant-loop-line
invariant-loop-line l = byte_among l.left (lines_from l.lines.number l.lines.rest.now) ≡ byte_among l.at (lines_from l.fn.lines.number l.fn.lines.rest.now)

abbrev pub decreases-loop-line : goal.decreases-loop-line
decreases-loop-line l = length l.lines.rest.now
