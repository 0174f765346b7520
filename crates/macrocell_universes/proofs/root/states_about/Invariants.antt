use Rattle.std.proofs.Common.{◌≡◌, ℕ, ◌+◌, ◌-◌, ◌<◌, ◌/◌, ◌%◌, length, get_or}
use Rattle.macrocell_lines.specs.Middle.{half_universe}
use Rattle.macrocell_text.specs.Maps.{map_of_root}
use Rattle.macrocell_universes.specs.Middles.{place_at}
use Rattle.macrocell_universes.specs.Numbered.{square_of}
use Rattle.macrocell_universes.proofs.root.states_about.Given as goal

abbrev pub invariant-loop-i : goal.invariant-loop-i
invariant-loop-i l = (length l.states ≡ 64) × ((k : ℕ) → k < l.i → get_or l.states k 0 ≡ map_of_root (square_of l.entries l.root) (place_at (half_universe - 8 + (l.column + k % 8)) (half_universe - 8 + (l.row + k / 8))))
