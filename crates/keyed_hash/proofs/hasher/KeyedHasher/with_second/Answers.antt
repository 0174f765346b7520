use Rattle.keyed_hash.specs.Keyed.{with_second}
use Rattle.keyed_hash.proofs.hasher.KeyedHasher.with_second.Goals as goal

pub returns : goal.returns
unfolding with_second
returns c = rw c.product-more.ensures
