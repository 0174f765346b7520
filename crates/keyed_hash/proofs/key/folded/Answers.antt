use Rattle.std.proofs.Common.{◌*◌}
use Rattle.std.proofs.lemmas.Nat.{and_mask}
use Rattle.keyed_hash.specs.Keyed.{folded}
use Rattle.keyed_hash.proofs.key.folded.Goals as goal

pub returns : goal.returns
unfolding folded
returns c = rw (c.from.ensures, c.from-2.ensures, and_mask (c.args.first * c.args.second) 64)
