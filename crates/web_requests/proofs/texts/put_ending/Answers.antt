use Rattle.std.proofs.Common.{arith}
use Rattle.std.proofs.lemmas.Grind.{common_steps}
use Rattle.web_requests.specs.Texts.{ending}
use Rattle.web_requests.proofs.texts.put_ending.Goals as goal

pub returns : goal.returns
unfolding ending
returns c = grind (arith, common_steps)
