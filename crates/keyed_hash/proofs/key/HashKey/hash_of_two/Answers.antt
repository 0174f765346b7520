use Rattle.std.proofs.lemmas.Nat.{and_mask}
use Rattle.keyed_hash.specs.Keyed.{hash_of_two}
use Rattle.keyed_hash.proofs.key.HashKey.hash_of_two.Goals as goal

pub returns : goal.returns
unfolding hash_of_two
returns c = rw (c.folded.ensures, c.product-sum.ensures, and_mask _ 64)
