use Rattle.std.specs.Hash.{fed_then, u64}
use Rattle.std.specs.List.{flat_map}
use Rattle.leaf_merge_lanes.specs.Same.{stamps_in, states_in}
use Rattle.leaf_merge_lanes.proofs.leaf.LeafHash.hash.Goals as goal

pub returns : goal.returns
returns g c = rw (stamps_in _ _ _ c.self.invariant.0 c.self.invariant.1 c.self.view_is, states_in _ _ _ c.self.invariant.0 c.self.invariant.1 c.self.view_is, ← c.words.ensures)
    (fed_then g.H.Hasher.write c.args.state.now c.feed_rows.new.state c.feed.new.state (flat_map u64 c.self.inside.stamps) (flat_map u64 c.words.result) c.feed_rows.ensures c.feed.ensures)
