use Rattle.std.proofs.Common.{◌≤◌}
use Rattle.macrocell_text.specs.Maps.{map_of_root}
use Rattle.macrocell_universes.specs.Middles.{IsMiddleOf}
use Rattle.macrocell_universes.specs.Numbered.{square_of}
use Rattle.macrocell_universes.proofs.middle.middle_of.Given as goal

abbrev pub invariant-loop-middle : goal.invariant-loop-middle
invariant-loop-middle l = IsMiddleOf l.entries (map_of_root (square_of l.entries l.root)) l.middle × (3 ≤ l.middle.level)

abbrev pub decreases-loop-middle : goal.decreases-loop-middle
decreases-loop-middle l = l.middle.level
