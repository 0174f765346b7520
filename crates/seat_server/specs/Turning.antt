-- What taking turns does to a relay, where so many in a row may fail at most.
use Rattle.std.specs.Prelude.{◌≡◌, ◌⊎◌, ℕ, zero, suc, ◌<◌, true, false, Option, Some, None}
use Rattle.relay_board.specs.Relaying.{Relaying}
use Rattle.relay_board.specs.Turns.{GoesWell, IsTurn}
use Rattle.relay_board.specs.declared.fault.TurnFault.{TurnFault}
use Rattle.relay_board.specs.declared.relay.Turn.{Turn}
use Rattle.relay_board.specs.declared.relay.Turn.TheVariants.{Idle, Failed}

-- so many turns in a row, each of which failed
abbrev pub Fails : ℕ → Relaying → Relaying → Type 0
Fails zero a b = b ≡ a
Fails (suc turns) a b = (mid : Relaying) × (fault : TurnFault) × Fails turns a mid × IsTurn mid (Failed fault) b

-- a relay that was open is closed; no turn opens it again, so this comes once at most
abbrev pub Closes : Relaying → Relaying → Type 0
Closes a b = (a.closed ≡ false) × (b ≡ record a { closed = true })

-- Fewer turns in a row failed than may; the next one did not. Behind an idle one, and behind no other, the relay may be
-- closed too.
pub record IsStep (most : ℕ) (a b : Relaying) : Type 0 where
  pub turns : ℕ
  pub few : turns < most
  pub mid : Relaying
  pub failed : Fails turns a mid
  pub turn : Turn
  pub next : Relaying
  pub well : GoesWell mid turn next
  pub after : (b ≡ next) ⊎ ((turn ≡ Idle) × Closes next b)

-- so many steps
abbrev pub Works : ℕ → ℕ → Relaying → Relaying → Type 0
Works most zero a b = b ≡ a
Works most (suc steps) a b = (mid : Relaying) × Works most steps a mid × IsStep most mid b

-- so many turns in a row failed, the last of them so
pub record FailsAtLast (turns : ℕ) (a : Relaying) (fault : TurnFault) (b : Relaying) : Type 0 where
  pub earlier : ℕ
  pub all : suc earlier ≡ turns
  pub mid : Relaying
  pub failed : Fails earlier a mid
  pub last : IsTurn mid (Failed fault) b

-- idle, or with the fault of the last turn that may fail
abbrev pub EndsTurning : ℕ → Relaying → Option TurnFault → Relaying → Type 0
EndsTurning most a None b = IsTurn a Idle b
EndsTurning most a (Some fault) b = FailsAtLast most a fault b

-- behind some steps it ended so
pub record IsTurned (most : ℕ) (a : Relaying) (end : Option TurnFault) (b : Relaying) : Type 0 where
  pub steps : ℕ
  pub mid : Relaying
  pub worked : Works most steps a mid
  pub ends : EndsTurning most mid end b
