use Rattle.std.proofs.Common.{◌≡◌, ℕ, ◌-◌, ◌<◌, ◌≤◌, false}
use Rattle.macrocell_lines.specs.Roots.{is_window_in_root}
use Rattle.macrocell_lines.proofs.level.level_of.Given as goal

abbrev pub invariant-loop-level : goal.invariant-loop-level
invariant-loop-level l = (l.fn.least ≤ l.level) × ((l.level ≤ 32) × ((j : ℕ) → l.fn.least ≤ j → j < l.level → is_window_in_root j l.window ≡ false))

abbrev pub decreases-loop-level : goal.decreases-loop-level
decreases-loop-level l = 32 - l.level
