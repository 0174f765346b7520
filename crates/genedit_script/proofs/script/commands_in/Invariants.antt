use Rattle.std.proofs.Common.{◌≡◌, length}
use Rattle.std.specs.Prelude.{None}
use Rattle.genedit_script.specs.Script.{commands_spelled, lines_from}
use Rattle.genedit_script.proofs.ScriptLemmas.{with_front}
use Rattle.genedit_script.proofs.script.commands_in.Given as goal

-- the commands so far, and those of the lines that are left behind them
abbrev pub invariant-loop-line : goal.invariant-loop-line
invariant-loop-line l =
    with_front l.commands.items (commands_spelled None (lines_from l.lines.number l.lines.rest.now)) ≡ commands_spelled None (lines_from l.fn.lines.number l.fn.lines.rest.now)

abbrev pub decreases-loop-line : goal.decreases-loop-line
decreases-loop-line l = length l.lines.rest.now
