-- States of squares by column and row.
use Rattle.std.specs.Prelude.{ℕ, ◌-◌, Bool, nat_le, if◌then◌else◌}
use Rattle.macrocell_universes.specs.declared.quarters.Quarters.{Quarters}

-- what stands for one of four quarters
abbrev pub number_in : Quarters → Bool → Bool → ℕ
number_in four is_right is_lower = if is_lower then (if is_right then four.se else four.sw) else (if is_right then four.ne else four.nw)

-- a column of a square in its left or its right half; or a row
abbrev pub column_in_half : ℕ → ℕ → ℕ
column_in_half half column = if nat_le half column then column - half else column
