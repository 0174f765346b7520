use Rattle.std.proofs.Common.{◌≡◌, ℕ, ◌<◌, ◌/◌, ◌%◌, length, get_or}
use Rattle.macrocell_universes.specs.Lowered.{grid_of, lowered}
use Rattle.macrocell_universes.specs.Numbered.{square_of}
use Rattle.macrocell_universes.proofs.leaf.lowered_states.Given as goal

abbrev pub invariant-loop-i : goal.invariant-loop-i
invariant-loop-i l = (length l.states ≡ 64) × ((k : ℕ) → k < l.i → get_or l.states k 0 ≡ (lowered 8 (grid_of (square_of l.entries l.upper)) (grid_of (square_of l.entries l.lower)) (k % 8) (k / 8)).state)
