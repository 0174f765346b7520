use Rattle.std.proofs.Common.{◌≡◌, ℕ, ◌/◌, ◌%◌, ◌<◌, length, get_or}
use Rattle.macrocell_lines.specs.Middle.{states_about}
use Rattle.macrocell_lines.proofs.root.states_in_middle.Given as goal

abbrev pub invariant-loop-i : goal.invariant-loop-i
invariant-loop-i l = (length l.states ≡ 64) × ((k : ℕ) → k < l.i → get_or l.states k 0 ≡ states_about l.store l.root 4 (k % 8) (k / 8))
