use Rattle.std.proofs.Common.{◌∙◌, sym}
use Rattle.std.specs.Str.Lines.{lines}
use Rattle.genedit_script.specs.Script.{lines_from}
use Rattle.script_check.proofs.LineLemmas.{all_behind, one_passed}
use Rattle.script_check.proofs.block.behind.Goals as goal

pub loop-script-preserved : goal.loop-script-preserved
loop-script-preserved c =
    one_passed c.args.number c.loop-script.script.number c.next_line.new.self.number c.loop-script.script.rest.now c.next_line.new.self.rest.now _
    (lines_from c.args.script.number c.args.script.rest.now) c.in-Some.ensures.line c.loop-script-test.true c.loop-script.invariant

pub returns : goal.returns
returns c =
    sym (all_behind c.args.number c.loop-script.script.number (lines c.loop-script.script.rest.now) c.loop-script-test.false) ∙ c.loop-script.invariant
