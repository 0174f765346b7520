use Rattle.bitplane_kernel.proofs.LeafLemmas.{digits_of}
use Rattle.bitplane_kernel.proofs.leaf.digits.Goals as goal

pub returns : goal.returns
returns c = λ i h. digits_of c.args.states c.args.p i c.fits-states.0 c.requires h
