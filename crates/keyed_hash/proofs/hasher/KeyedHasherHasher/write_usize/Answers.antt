use Rattle.keyed_hash.proofs.WordLaws.{eight}
use Rattle.keyed_hash.proofs.hasher.KeyedHasherHasher.write_usize.Goals as goal

pub returns : goal.returns
returns c = rw (c.take.ensures, eight c.args.i c.ranges.i.fits)
