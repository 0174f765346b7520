use Rattle.std.proofs.Common.{◌≤◌}
use Rattle.macrocell_lines.specs.Middle.{IsMiddle}
use Rattle.macrocell_lines.proofs.middle.middle_of.Given as goal

abbrev pub invariant-loop-middle : goal.invariant-loop-middle
invariant-loop-middle l = IsMiddle l.store l.root l.middle × ((l.level ≤ l.middle.level) × (l.middle.level ≤ 29))

abbrev pub decreases-loop-middle : goal.decreases-loop-middle
decreases-loop-middle l = l.middle.level
