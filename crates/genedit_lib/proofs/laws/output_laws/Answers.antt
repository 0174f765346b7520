use Rattle.genedit_lib.proofs.OutputLaws.{has_one_output}
use Rattle.genedit_lib.proofs.laws.output_laws.Goals as goal

pub returns : goal.returns
returns c = has_one_output
