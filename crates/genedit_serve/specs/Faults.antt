-- Faults of a board and its server, as the program tells them.
use Rattle.std.specs.Prelude.{None}
use Rattle.genedit_io.specs.declared.fault.RunFault.{RunFault}
use Rattle.genedit_io.specs.declared.fault.RunFault.TheVariants as run
use Rattle.relay_board.specs.declared.fault.StartFault.{StartFault}
use Rattle.relay_board.specs.declared.fault.StartFault.TheVariants as start
use Rattle.relay_board.specs.declared.fault.TurnFault.TheVariants as turn
use Rattle.relay_board.specs.declared.fault.FinishFault.TheVariants as finish
use Rattle.board_keeper.specs.declared.fault.KeepFault.TheVariants as keep
use Rattle.kept_server.specs.declared.fault.KeptFault.{KeptFault}
use Rattle.kept_server.specs.declared.fault.KeptFault.TheVariants as kept
use Rattle.seat_server.specs.declared.fault.ServerFault.{ServerFault}
use Rattle.seat_server.specs.declared.fault.ServerFault.TheVariants as server

-- why there is no board
abbrev pub run_fault_of_start : StartFault → RunFault
run_fault_of_start start.Size = run.Refused 32 None
run_fault_of_start start.NoPlace = run.Refused 31 None
run_fault_of_start start.Memory = run.Memory

-- why there is no account
abbrev pub run_fault_of_server : ServerFault → RunFault
run_fault_of_server server.Read = run.Read
run_fault_of_server (server.Turn turn.StoreFull) = run.StoreFull
run_fault_of_server (server.Turn turn.Memory) = run.Memory
run_fault_of_server (server.Finish finish.Closed) = run.Refused 30 None
run_fault_of_server (server.Finish finish.StoreFull) = run.StoreFull
run_fault_of_server (server.Finish finish.Memory) = run.Memory
run_fault_of_server server.Memory = run.Memory

-- why there is no account of a kept board
abbrev pub run_fault_of_kept : KeptFault → RunFault
run_fault_of_kept kept.Read = run.Read
run_fault_of_kept (kept.Keep keep.StoreFull) = run.StoreFull
run_fault_of_kept (kept.Keep keep.Memory) = run.Memory
run_fault_of_kept (kept.Keep keep.Write) = run.Write
run_fault_of_kept (kept.Finish finish.Closed) = run.Refused 30 None
run_fault_of_kept (kept.Finish finish.StoreFull) = run.StoreFull
run_fault_of_kept (kept.Finish finish.Memory) = run.Memory
run_fault_of_kept kept.Memory = run.Memory
