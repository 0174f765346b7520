use Rattle.keyed_hash.proofs.WordLaws.{four}
use Rattle.keyed_hash.proofs.hasher.KeyedHasherHasher.write_u32.Goals as goal

pub returns : goal.returns
returns c = rw (c.take.ensures, c.from.ensures, four c.args.i c.ranges.i.fits)
