use Rattle.leaf_merge_lanes.proofs.Writes.{merged, merged_places, length-leaf}
use Rattle.leaf_merge_lanes.proofs.leaf.Leaf.merge.Goals as goal

pub returns-clause-leaves : goal.returns-clause-leaves
returns-clause-leaves c = (length-leaf _ _ _ c.a.invariant.0 c.a.invariant.1 c.a.view_is, length-leaf _ _ _ c.b.invariant.0 c.b.invariant.1 c.b.view_is)

pub returns-clause-whole : goal.returns-clause-whole
returns-clause-whole c = rw (← c.a.view_is, ← c.b.view_is) (merged c.a.inside.stamps c.a.inside.states c.b.inside.stamps c.b.inside.states _ _ _ _ c.a.invariant.0 c.a.invariant.1 c.b.invariant.0 c.b.invariant.1
    c.greater-stamps.ensures c.unless_older-a_states.ensures c.unless_older-b_states.ensures c.greater_states-states.ensures)

pub returns-clause-places : goal.returns-clause-places
returns-clause-places c = let l = returns-clause-leaves c in merged_places _ _ _ l.0 l.1 (returns-clause-whole c)
