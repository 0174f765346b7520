-- What a turn of a keeper comes to.
use Rattle.std.specs.Prelude.{◌≡◌, ◌<◌, ◌+◌, ℕ, [], length}
use mathlib.Core.List.{IsPrefix}
use Rattle.kept_log.specs.declared.log.LogState.TheVariants.{Failed}
use Rattle.relay_board.specs.Turns.{Idles}
use Rattle.board_keeper.specs.Keeping.{Keeping}
use Rattle.board_keeper.specs.Steps.{AreSteps}
use Rattle.board_keeper.specs.declared.keeper.KeeperTurn.{KeeperTurn}
use Rattle.board_keeper.specs.declared.keeper.KeeperTurn.TheVariants as turn
use Rattle.board_keeper.specs.declared.fault.KeepFault.{KeepFault}
use Rattle.board_keeper.specs.declared.fault.KeepFault.TheVariants as fault

-- why nothing was published
abbrev pub FailsBy : KeepFault → Keeping → Type 0
FailsBy fault.StoreFull b = (b.relay.stored ≡ b.relay.room) × (b.relay.ready ≡ 0)
FailsBy fault.Memory b = Unit {0}
FailsBy fault.Write b = b.takes ≡ Failed

-- Nothing was kept and the inbox was empty, and all is as it was; or so many entries were published, all that were
-- committed; or none, for a cause.
abbrev pub ComesTo : Keeping → KeeperTurn → Keeping → Type 0
ComesTo a turn.Idle b = Idles a.relay b.relay × (b ≡ record a { relay = b.relay })
ComesTo a (turn.Published count) b = (0 < count) × (length b.relay.list ≡ length a.relay.list + count)
ComesTo a (turn.Failed why) b = (b.relay.list ≡ a.relay.list) × FailsBy why b

-- by steps, at each of which a crash leaves what it may
pub record IsKeeperTurn (a : Keeping) (result : KeeperTurn) (b : Keeping) : Type 0 where
  pub steps : ℕ
  pub taken : AreSteps steps a b
  pub comes : ComesTo a result b
