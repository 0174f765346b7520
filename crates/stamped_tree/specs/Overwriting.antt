-- Writes over writes.
use Rattle.std.specs.Prelude.{ℕ, nat_lt, if◌then◌else◌, Option, None, Some}
use Rattle.stamped_writes.specs.declared.write.Write.{Write}
use Rattle.stamped_writes.specs.Write.{Writes}
use Rattle.square_store.specs.Grid.{Grid}

-- a write over another: the new one if it has a stamp, else the old one
abbrev pub overwrite : (old new : Write) → Write
overwrite old new = if nat_lt 0 new.stamp then new else old

-- a map with another written over it
abbrev pub overwritten : (old new : Writes) → Writes
overwritten old new c = overwrite (old c) (new c)

-- a square's writes with others written over them, by column and row
abbrev pub overwritten_grid : (old new : Grid) → Grid
overwritten_grid old new u v = overwrite (old u v) (new u v)

-- the write of a stamp with a listed state; where none is listed, the old write
abbrev pub listed_over : Write → ℕ → Option ℕ → Write
listed_over old stamp None = old
listed_over old stamp (Some state) = record { stamp = stamp; state = state }
