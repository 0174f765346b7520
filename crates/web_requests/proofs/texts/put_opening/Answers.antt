use Rattle.std.proofs.Common.{◌≡◌, arith, refl}
use Rattle.web_requests.specs.declared.texts.TheConstants.{GUARDS}
use Rattle.std.proofs.lemmas.Grind.{common_steps}
use Rattle.web_requests.specs.Texts.{guards, opening}
use Rattle.web_requests.proofs.texts.put_opening.Goals as goal

-- the constant is those lines
the_guards : GUARDS.now ≡ guards
unfolding guards
the_guards = refl

pub returns : goal.returns
unfolding opening
returns c = grind (arith, common_steps, the_guards)
