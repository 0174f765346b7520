use Rattle.std.proofs.Common.{◌∙◌}
use Rattle.std.specs.Prelude.{None, codes}
use Rattle.genedit_io.specs.RunFault.{run_fault_text}
use Rattle.genedit_io.specs.declared.fault.RunFault.TheVariants.{Refused}
use Rattle.script_check.proofs.ReportLemmas.{words_behind}
use Rattle.script_check.proofs.words.refusal_text.Goals as goal

pub returns : goal.returns
returns c = (
  c.in_ok-cure.cure.bytes.items,
  c.in_ok-text.ensures.ok ∙ words_behind (codes "will be ") (run_fault_text (Refused c.args.refused.now.number None)) (codes ": ") c.in_ok-cure.cure.bytes.items,
)
