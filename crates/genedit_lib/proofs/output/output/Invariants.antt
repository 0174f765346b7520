use Rattle.std.proofs.Common.{◌≡◌, ◌++◌, drop, map}
use Rattle.genedit_lib.specs.Output.{filled}
use Rattle.genedit_lib.specs.Plan.{line_of}
use Rattle.genedit_lib.proofs.output.output.Given as goal

-- what was written, and then what is left, is the whole
abbrev pub invariant-loop-line : goal.invariant-loop-line
invariant-loop-line l = filled (map line_of l.fn.lines) l.fn.replies ≡ l.out.items ++ filled (map line_of (drop l.line-index l.lines)) l.left
