use Rattle.std.proofs.Common.{◌<◌, ◌∙◌, ap, subst, get_or}
use Rattle.std.specs.Int.{bit_at}
use Rattle.bitplane_kernel.proofs.LeafLemmas.{leaf_digit, leaf_below}
use Rattle.bitplane_kernel.proofs.leaf.BitLeaf.plane.Goals as goal

pub returns-clause-digits : goal.returns-clause-digits
returns-clause-digits c = λ i h.
    leaf_digit c.self.inside.planes c.args.p i c.requires h ∙ ap (λ states. bit_at (get_or states i 0) c.args.p) c.self.view_is

pub returns-clause-below : goal.returns-clause-below
returns-clause-below c = λ i h. subst (λ states. get_or states i 0 < 256) c.self.view_is (leaf_below c.self.inside.planes i h)
