-- Writes on a square, by column and row from its corner.
use Rattle.std.specs.Prelude.{◌≡◌, ℕ, ◌<◌, ◌-◌, nat_lt, if◌then◌else◌}
use Rattle.stamped_writes.specs.declared.write.Write.{Write}

-- the writes of a square, by column and row
abbrev pub Grid : Type 0
Grid = ℕ → ℕ → Write

-- state 0 everywhere, written with stamp t
abbrev pub blank_grid : ℕ → Grid
blank_grid t u v = record { stamp = t; state = 0 }

-- four squares of side n put together: NW, NE, SW and SE
abbrev pub quartered : ℕ → Grid → Grid → Grid → Grid → Grid
quartered n nw ne sw se u v =
    if nat_lt v n
    then (if nat_lt u n then nw u v else ne (u - n) v)
    else (if nat_lt u n then sw u (v - n) else se (u - n) (v - n))

-- the same writes in the first n columns and rows
abbrev pub AreSameWithin : ℕ → Grid → Grid → Type 0
AreSameWithin n f g = (u v : ℕ) → u < n → v < n → f u v ≡ g u v

-- the blank of stamp t, in the first n columns and rows
abbrev pub IsBlankWithin : ℕ → Grid → ℕ → Type 0
IsBlankWithin n f t = AreSameWithin n f (blank_grid t)

-- no blank, in the first n columns and rows
abbrev pub IsSpeltWithin : ℕ → Grid → Type 0
IsSpeltWithin n f = (t : ℕ) → IsBlankWithin n f t → ⊥
