use Rattle.std.proofs.Common.{refl}
use Rattle.leaf_merge_lanes.specs.Same.{words_of}
use Rattle.leaf_merge_lanes.proofs.leaf.words.Goals as goal

pub returns : goal.returns
unfolding words_of
returns c = refl
