use Rattle.genedit_script.specs.Script.{lines_from}
use Rattle.genedit_script.proofs.ScriptLemmas.{goes_on, ends_here}
use Rattle.genedit_script.proofs.script.commands_in.Goals as goal

pub loop-line-preserved : goal.loop-line-preserved
loop-line-preserved c =
    let left = lines_from c.loop-line.lines.number c.loop-line.lines.rest.now in
    let more = lines_from c.command_at.new.lines.number c.command_at.new.lines.rest.now in
    goes_on c.loop-line.commands.items _ c.in_ok-command.command left more _ c.in_ok-push.ensures.items
    (c.in_ok-command.ensures.command left c.in-Some.ensures.line) c.loop-line.invariant

pub returns-clause-commands : goal.returns-clause-commands
returns-clause-commands c =
    ends_here c.loop-line.commands.items (lines_from c.loop-line.lines.number c.loop-line.lines.rest.now) _ c.in_default.ensures.line c.loop-line.invariant
