-- A refusal of what a call stands on, as the call's own: the store's as a turn's, and a turn's as a finish's.
use Rattle.square_store.specs.declared.fault.StoreFault.{StoreFault}
use Rattle.square_store.specs.declared.fault.StoreFault.TheVariants as store
use Rattle.relay_board.specs.declared.fault.TurnFault.{TurnFault}
use Rattle.relay_board.specs.declared.fault.TurnFault.TheVariants as turns
use Rattle.relay_board.specs.declared.fault.FinishFault.{FinishFault}
use Rattle.relay_board.specs.declared.fault.FinishFault.TheVariants as finishes

-- a full store is a full store, want of memory is want of memory
abbrev pub turn_fault_of : StoreFault → TurnFault
turn_fault_of store.StoreFull = turns.StoreFull
turn_fault_of store.Memory = turns.Memory

-- the same of a turn
abbrev pub finish_fault_of : TurnFault → FinishFault
finish_fault_of turns.StoreFull = finishes.StoreFull
finish_fault_of turns.Memory = finishes.Memory
