use Rattle.std.proofs.Common.{◌<◌, ◌-◌, length}
use Rattle.square_store.specs.Groups.{Reaches}
use Rattle.square_store.proofs.groups.free_slot.Given as goal

abbrev pub invariant-loop-group : goal.invariant-loop-group
invariant-loop-group l = (l.at < length l.groups) × Reaches l.groups l.head l.at

abbrev pub decreases-loop-group : goal.decreases-loop-group
decreases-loop-group l = length l.groups - l.at
