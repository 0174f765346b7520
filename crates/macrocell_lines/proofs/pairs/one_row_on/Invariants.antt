use Rattle.std.proofs.Common.{◌≡◌, ℕ, ◌+◌, ◌-◌, ◌<◌, length, get_or}
use Rattle.std.specs.Prelude.{if◌then◌else◌, nat_lt}
use Rattle.macrocell_lines.proofs.pairs.one_row_on.Given as goal

abbrev pub invariant-loop-i : goal.invariant-loop-i
invariant-loop-i l = (length l.states ≡ 64) × ((k : ℕ) → k < l.i → get_or l.states k 0 ≡ (if nat_lt k 56 then get_or l.upper (k + 8) 0 else get_or l.lower (k - 56) 0))
