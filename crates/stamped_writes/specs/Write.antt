-- The writes of a last-writer-wins register (Shapiro et al., INRIA RR-7506), ordered by stamp, then by state.
use Rattle.std.specs.Prelude.{◌≡◌, Bool, ◌||◌, ◌&&◌, nat_lt, nat_le, ◌==◌, if◌then◌else◌, IsTrue}
use Rattle.generations_rule.specs.Place.{Place}
use Rattle.stamped_writes.specs.declared.write.Write.{Write}

-- the least write: nothing was written
abbrev pub unwritten : Write
unwritten = record { stamp = 0; state = 0 }

abbrev pub at_most : Write → Write → Bool
at_most v w = nat_lt v.stamp w.stamp || (v.stamp == w.stamp && nat_le v.state w.state)

abbrev pub greater : Write → Write → Write
greater v w = if at_most v w then w else v

-- a map of writes, as what is read at each place
abbrev pub Writes : Type 0
Writes = Place → Write

abbrev pub AreSame : Writes → Writes → Type 0
AreSame p q = (c : Place) → p c ≡ q c

abbrev pub IsBelow : Writes → Writes → Type 0
IsBelow p q = (c : Place) → IsTrue (at_most (p c) (q c))

-- the pointwise greater write
abbrev pub joined : Writes → Writes → Writes
joined p q c = greater (p c) (q c)
