-- The parts of a turn.
use Rattle.std.specs.Prelude.{◌≡◌, ◌+◌, ℕ, zero, suc, length, Result, Ok, Err}
use Rattle.kept_log.specs.declared.log.LogState.TheVariants.{Failed}
use Rattle.kept_log.specs.declared.log.LogFault.{LogFault}
use Rattle.kept_log.specs.declared.log.LogFault.TheVariants as log
use Rattle.relay_board.specs.Relaying.{Relaying}
use Rattle.relay_board.specs.Same.{Same}
use Rattle.relay_board.specs.Turns.{Readies}
use Rattle.relay_board.specs.declared.fault.TurnFault.{TurnFault}
use Rattle.relay_board.specs.declared.fault.TurnFault.TheVariants as turns
use Rattle.relay_board.specs.declared.relay.Readiness.{Readiness}
use Rattle.relay_board.specs.declared.relay.Readiness.TheVariants as tries
use Rattle.relay_board.specs.declared.relay.Readiness.TheVariants.{Ready}
use Rattle.board_keeper.specs.declared.keeper.KeeperTurn.{KeeperTurn}
use Rattle.board_keeper.specs.declared.keeper.KeeperTurn.TheVariants as keeper
use Rattle.board_keeper.specs.Keeping.{IsSafe, Keeping}
use Rattle.board_keeper.specs.Steps.{AreSteps, Commits}
use Rattle.board_keeper.specs.declared.fault.KeepFault.{KeepFault}
use Rattle.board_keeper.specs.declared.fault.KeepFault.TheVariants as faults

-- ---- making entries ready

-- so many entries are made ready, one after another
abbrev pub GoReady : ℕ → Relaying → Relaying → Type 0
GoReady zero a b = b ≡ a
GoReady (suc entries) a b = (mid : Relaying) × GoReady entries a mid × Same mid b × Readies mid Ready b

-- so many, and then one more try, which came to this
pub record Fills (a : Relaying) (last : Readiness) (b : Relaying) : Type 0 where
  pub entries : ℕ
  pub mid : Relaying
  pub went : GoReady entries a mid
  pub same : Same mid b
  pub ends : Readies mid last b

-- why a turn failed, as a keeper's
abbrev pub turn_fault_of : TurnFault → KeepFault
turn_fault_of turns.StoreFull = faults.StoreFull
turn_fault_of turns.Memory = faults.Memory

-- why a commit failed, as a keeper's
abbrev pub log_fault_of : LogFault → KeepFault
log_fault_of log.Memory = faults.Memory
log_fault_of log.CutBack = faults.Write
log_fault_of log.Doubtful = faults.Write
log_fault_of log.Stopped = faults.Write
log_fault_of log.Begun = faults.Write
log_fault_of log.Unbegun = faults.Write

-- the turn of which the last try came to this, where no entry is ready
abbrev pub turn_of : Readiness → KeeperTurn
turn_of (tries.Failed fault) = keeper.Failed (turn_fault_of fault)
turn_of tries.Idle = keeper.Idle
turn_of tries.Full = keeper.Idle
turn_of Ready = keeper.Idle

-- ---- a commit, and what is shown

-- the relay, the rule and what was committed before are left alone; the file takes nothing more
pub record FailsWrite (a b : Keeping) : Type 0 where
  pub steps : ℕ
  pub taken : AreSteps steps a b
  pub same : b.relay ≡ a.relay
  pub rule : b.rule ≡ a.rule
  pub takes : b.takes ≡ Failed

-- some are committed; or nothing was done, for want of memory; or the file failed
abbrev pub CommitsSome : Keeping → Result (Unit {0}) KeepFault → Keeping → Type 0
CommitsSome a (Ok done) b = Commits a b × IsSafe b
CommitsSome a (Err faults.StoreFull) b = ⊥
CommitsSome a (Err faults.Memory) b = b ≡ a
CommitsSome a (Err faults.Write) b = FailsWrite a b

-- so many of those that were committed are shown
pub record ShowsSome (a : Keeping) (count : ℕ) (b : Keeping) : Type 0 where
  pub taken : AreSteps count a b
  pub list : length b.relay.list ≡ length a.relay.list + count
  pub same : Same a.relay b.relay
  pub rule : b.rule ≡ a.rule
