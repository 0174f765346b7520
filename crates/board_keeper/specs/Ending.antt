-- Why a keeper did not finish.
use Rattle.std.specs.Prelude.{List}
use Rattle.relay_board.specs.Seating.{BeginsWithAll, Seating}
use Rattle.relay_board.specs.declared.fault.FinishFault.TheVariants as relay
use Rattle.board_keeper.specs.Keeping.{Keeping}
use Rattle.board_keeper.specs.Turns.{FailsBy}
use Rattle.board_keeper.specs.declared.ending.EndFault.{EndFault}
use Rattle.board_keeper.specs.declared.ending.EndFault.TheVariants as ends

-- a turn failed for this cause; or all was published, and a seat had seen more than that, or memory was wanting
abbrev pub IsEndFault : EndFault → Keeping → List Seating → Type 0
IsEndFault (ends.Keep why) k seats = FailsBy why k
IsEndFault (ends.Finish relay.Closed) k seats = ¬ (BeginsWithAll k.relay.list seats)
IsEndFault (ends.Finish relay.StoreFull) k seats = ⊥
IsEndFault (ends.Finish relay.Memory) k seats = Unit {0}
