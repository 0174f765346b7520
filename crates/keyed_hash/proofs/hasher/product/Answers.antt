use Rattle.keyed_hash.specs.Keyed.{product}
use Rattle.keyed_hash.proofs.hasher.product.Goals as goal

pub returns : goal.returns
unfolding product
returns c = rw (c.from.ensures, c.from-2.ensures)
