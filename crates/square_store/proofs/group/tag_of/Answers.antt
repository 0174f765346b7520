use Rattle.square_store.specs.Groups.{tag_of}
use Rattle.square_store.proofs.group.tag_of.Goals as goal

pub returns : goal.returns
unfolding tag_of
returns c = c.max.ensures
