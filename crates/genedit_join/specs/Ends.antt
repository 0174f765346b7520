-- How a client ends.
use Rattle.std.specs.Prelude.{ℕ, Bool, true, false, not, ◌&&◌, ◌||◌, List, ◌++◌, codes, Option, Some, None, Result, Ok, Err}
use Rattle.typed_commands.specs.declared.refusals.Tally.{Tally}
use Rattle.typed_commands.specs.Refusals.{well_status}
use Rattle.genedit_join.specs.declared.ends.Board.{Board}
use Rattle.genedit_join.specs.declared.ends.End.{End}
use Rattle.genedit_join.specs.declared.ends.End.TheVariants as how
use Rattle.genedit_join.specs.declared.fault.JoinFault.{JoinFault}
use Rattle.genedit_join.specs.declared.fault.JoinFault.TheVariants.{NoServer, NoSeat, Gone, NoReply, OtherRule, Script, Run}
use Rattle.genedit_join.specs.Fault.{join_fault_text, join_status}

-- by a fault, or by the one by which the server was lost before; else the board was left
abbrev pub end_behind : {A : Type 0} → Result A JoinFault → Option JoinFault → Tally → End
end_behind (Err fault) lost tally = how.Fault fault
end_behind (Ok done) (Some fault) tally = how.Fault fault
end_behind (Ok done) None tally = how.Left tally

-- ---- statuses

-- a fault has its own status; at a terminal a client that left has 0, whatever came of its lines
abbrev pub end_status : End → Bool → ℕ
end_status (how.Fault fault) terminal = join_status fault
end_status (how.Left tally) true = 0
end_status (how.Left tally) false = well_status tally

-- ---- a server that is lost

-- nothing comes from the server any more, or no replies, or those of another board
abbrev pub loses_server : JoinFault → Bool
loses_server Gone = true
loses_server NoReply = true
loses_server OtherRule = true
loses_server NoServer = false
loses_server NoSeat = false
loses_server Script = false
loses_server (Run fault) = false

-- at a terminal a client goes on that had a server until then
abbrev pub goes_on : JoinFault → Bool → Bool → Bool
goes_on fault terminal has_server = terminal && (has_server && loses_server fault)

-- what it says
abbrev pub lost_text : JoinFault → List ℕ
lost_text fault = join_fault_text fault ++ codes ": the board is kept here; save FILE, export G [FILE], show, pattern, bye"

-- a board that may be lost is written to a file, where it has an edit and the file that the client saved last is not it
abbrev pub is_kept : Board → Bool
is_kept board = board.is_wanted && (board.has_edits && not board.is_saved)

-- so is that of a client which ends without its server, be it lost just now or before
abbrev pub is_rescued : End → Bool → Board → Bool
is_rescued (how.Fault fault) has_server board = (not has_server || loses_server fault) && is_kept board
is_rescued (how.Left tally) has_server board = false
