use Rattle.std.proofs.Common.{◌≡◌, ◌++◌, length, map}
use Rattle.genedit_lib.specs.Plan.{line_of}
use Rattle.genedit_script.specs.Script.{lines_from}
use Rattle.script_check.specs.Check.{refusals_among}
use Rattle.script_check.proofs.refusals.refused.Given as goal

abbrev pub invariant-loop-place : goal.invariant-loop-place
invariant-loop-place l =
    l.refusals.items ++ refusals_among (lines_from l.script.number l.script.rest.now) l.places (map line_of l.lines) l.replies
    ≡ refusals_among (lines_from l.script.number l.script.rest.now) l.initial.places (map line_of l.initial.lines) l.initial.replies

abbrev pub decreases-loop-place : goal.decreases-loop-place
decreases-loop-place l = length l.places
