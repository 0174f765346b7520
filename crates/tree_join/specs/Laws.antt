-- What the join of maps keeps.
use Rattle.stamped_writes.specs.Write.{Writes, joined}
use Rattle.edit_stamps.specs.PlaneMap.{HasStatesBelow, KeepsStates}

-- where the states of both maps are below a number, those of the join are
abbrev pub JoinKeepsStates : Type 0
JoinKeepsStates = (p q : Writes) → KeepsStates (λ states. HasStatesBelow states q) p (joined p q)
