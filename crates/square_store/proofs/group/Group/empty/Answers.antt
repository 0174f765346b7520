use Rattle.std.proofs.Common.{refl}
use Rattle.square_store.specs.Groups.{empty_group}
use Rattle.square_store.proofs.group.Group.empty.Goals as goal

pub returns : goal.returns
unfolding empty_group
returns c = refl
