use Rattle.std.proofs.Common.{◌≤◌, ◌-◌, length}
use Rattle.macrocell_universes.specs.Reaches.{AreReached}
use Rattle.macrocell_universes.proofs.reaches.reaches_of.Given as goal

abbrev pub invariant-loop-reaches : goal.invariant-loop-reaches
invariant-loop-reaches l = (length l.reaches.items ≤ length l.entries) × AreReached l.entries l.reaches.items

abbrev pub decreases-loop-reaches : goal.decreases-loop-reaches
decreases-loop-reaches l = length l.entries - length l.reaches.items
