use Rattle.std.proofs.Common.{◌≡◌, ℕ, ◌<◌, length, get_or}
use Rattle.macrocell_lines.proofs.pairs.states_of.Given as goal

abbrev pub invariant-loop-i : goal.invariant-loop-i
invariant-loop-i l = (length l.states ≡ 64) × ((k : ℕ) → k < l.i → get_or l.states k 0 ≡ get_or l.leaf k 0)
