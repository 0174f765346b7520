-- What the steps and the lines of the code stand for.
use Rattle.genedit_lib.specs.declared.plan.PlannedLine.{PlannedLine}
use Rattle.genedit_lib.specs.declared.plan.PlannedLine.TheVariants as lines
use Rattle.genedit_lib.specs.declared.step.Step.{Step}
use Rattle.genedit_lib.specs.declared.step.Step.TheVariants as code_steps
use Rattle.genedit_lib.specs.Output.{ScriptStep, Happens, Says, OutputLine, ReplyLine, OwnLine}

-- the step that a step of the code stands for
abbrev pub step_of : Step → ScriptStep
step_of (code_steps.Happens event) = Happens event
step_of (code_steps.Says text) = Says text

-- the line that a line of the code stands for
abbrev pub line_of : PlannedLine → OutputLine
line_of lines.Reply = ReplyLine
line_of (lines.Own text) = OwnLine text
