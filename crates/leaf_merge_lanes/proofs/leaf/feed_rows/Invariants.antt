use Rattle.std.proofs.Common.{◌≡◌, ◌*◌}
use Rattle.std.specs.Prelude.{take}
use Rattle.std.specs.Hash.{u64}
use Rattle.std.specs.List.{flat_map, fold}
use Rattle.leaf_merge_lanes.proofs.leaf.feed_rows.Given as goal

abbrev pub invariant-loop-row : goal.invariant-loop-row
invariant-loop-row g l = l.state ≡ fold g.H.Hasher.write l.fn.state (flat_map u64 (take (8 * l.row) l.stamps))
