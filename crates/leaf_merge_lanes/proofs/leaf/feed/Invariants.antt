use Rattle.std.proofs.Common.{◌≡◌, drop}
use Rattle.std.specs.Hash.{u64}
use Rattle.std.specs.List.{flat_map, fold}
use Rattle.leaf_merge_lanes.proofs.leaf.feed.Given as goal

abbrev pub invariant-loop-number : goal.invariant-loop-number
invariant-loop-number g l = fold g.H.Hasher.write l.state (flat_map u64 (drop l.number-index l.numbers)) ≡ fold g.H.Hasher.write l.initial.state (flat_map u64 l.numbers)
