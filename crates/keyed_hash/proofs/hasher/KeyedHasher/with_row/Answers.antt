use Rattle.std.proofs.lemmas.Nat.{and_mask}
use Rattle.keyed_hash.specs.Keyed.{with_row}
use Rattle.keyed_hash.proofs.hasher.KeyedHasher.with_row.Goals as goal

pub returns : goal.returns
unfolding with_row
returns c = rw (c.product.ensures, and_mask c.args.sum 64)
