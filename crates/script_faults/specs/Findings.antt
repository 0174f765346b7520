-- Where findings stand.
use Rattle.std.specs.Prelude.{ℕ, ◌+◌, ◌≤◌, Bool, ◌&&◌, nat_le, List, length}
use Rattle.script_faults.specs.declared.finding.Finding.{Finding}

-- the finding begins at a byte of the line, counted from 1, or just behind its last
pub record StandsIn (finding : Finding) (line : List ℕ) : Type 0 where
  pub counted : 1 ≤ finding.column
  pub within : finding.column ≤ length line + 1
  pub some : 1 ≤ finding.width

-- two words are about as long: one has at most one letter more than the other
abbrev pub are_near : ℕ → ℕ → Bool
are_near length other = nat_le length (other + 1) && nat_le other (length + 1)
