use Rattle.std.proofs.Common.{rules, refl}
use Rattle.genedit_io.specs.Runs.IsRun.{Pushed, Refused, Left}
use Rattle.genedit_rle.proofs.run.rle_text_within.Goals as goal

pub returns-in_err-text : goal.returns-in_err-text
returns-in_err-text g c = Left _ (search rules) c.in_err-text.ensures.left refl

pub returns-in_err-out : goal.returns-in_err-out
returns-in_err-out g c = Refused _ c.in_err-out.field-0.0 (search rules) c.in_ok-text.ensures.all (search rules) refl

pub returns : goal.returns
returns g c = Pushed _ _ c.in_ok-text.ensures.all (search rules) c.push_output.ensures.pushed c.push_output.ensures.fault
