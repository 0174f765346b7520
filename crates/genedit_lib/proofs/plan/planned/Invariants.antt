use Rattle.std.proofs.Common.{◌≡◌, ◌++◌, map, length}
use Rattle.std.specs.Vec.Iter.{into_iter_items, into_iter_len}
use Rattle.genedit_lib.specs.Output.{events_among, no_patterns, step_line, steps}
use Rattle.genedit_lib.specs.Patterns.{pattern_in}
use Rattle.genedit_lib.specs.Plan.{line_of}
use Rattle.genedit_lib.proofs.plan.planned.Given as goal

-- what was planned, and then the plan of the commands that are left, is the plan of all
abbrev pub invariant-loop-command : goal.invariant-loop-command
invariant-loop-command l =
    let left = into_iter_items l.command-iterator in
    (events_among (steps no_patterns l.fn.commands.items) ≡ l.events.items ++ events_among (steps (pattern_in l.patterns) left))
    × (map step_line (steps no_patterns l.fn.commands.items) ≡ map line_of l.lines.items ++ map step_line (steps (pattern_in l.patterns) left))
    × (into_iter_len l.command-iterator ≡ length left)
