use Rattle.generation_engine.proofs.Universes.{digit_worth}
use Rattle.generation_engine.proofs.results.has_digit.Goals as goal

pub returns : goal.returns
returns c = digit_worth c.args.number c.args.exponent
