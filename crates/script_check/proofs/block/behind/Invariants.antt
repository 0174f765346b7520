use Rattle.std.proofs.Common.{◌≡◌, length}
use Rattle.genedit_script.specs.Script.{lines_from}
use Rattle.script_check.specs.Block.{lines_behind}
use Rattle.script_check.proofs.block.behind.Given as goal

abbrev pub invariant-loop-script : goal.invariant-loop-script
invariant-loop-script l = lines_behind l.number (lines_from l.script.number l.script.rest.now) ≡ lines_behind l.number (lines_from l.fn.script.number l.fn.script.rest.now)

abbrev pub decreases-loop-script : goal.decreases-loop-script
decreases-loop-script l = length l.script.rest.now
