-- A client that follows, while its server is away.
use Rattle.std.specs.Prelude.{Bool, true, false, ◌||◌, ◌&&◌, ◌==◌}
use Rattle.client_commands.specs.declared.command.ClientCommand.{ClientCommand}
use Rattle.client_commands.specs.declared.command.ClientCommand.TheVariants as command
use Rattle.genedit_io.specs.declared.fault.RunFault.{RunFault}
use Rattle.genedit_io.specs.declared.fault.RunFault.TheVariants as runs
use Rattle.genedit_join.specs.declared.fault.JoinFault.{JoinFault}
use Rattle.genedit_join.specs.declared.fault.JoinFault.TheVariants.{Gone, NoReply, NoSeat, NoServer, OtherRule, Run, Script}

-- a server that went away, and no other fault
abbrev pub is_gone : JoinFault → Bool
is_gone Gone = true
is_gone fault = false

-- a client that follows tries its port again, where it had a server until then and that went away
abbrev pub tries_again : JoinFault → Bool → Bool → Bool
tries_again fault follows has_server = follows && (has_server && is_gone fault)

-- a refusal that may pass: the board is closed to reads for a moment, or memory was wanted
abbrev pub may_pass : RunFault → Bool
may_pass (runs.Refused number place) = (number == 30) || (number == 255)
may_pass fault = false

-- at another try a server may be there, a seat be free, or what was refused be given; where a board of another rule answers, or what is
-- no board, or memory is wanting, no other is made
abbrev pub is_tried_again : JoinFault → Bool
is_tried_again Gone = true
is_tried_again NoServer = true
is_tried_again NoSeat = true
is_tried_again (Run fault) = may_pass fault
is_tried_again OtherRule = false
is_tried_again Script = false
is_tried_again NoReply = false

-- a command that begins with a poll, or draws
abbrev pub needs_server : ClientCommand → Bool
needs_server (command.Draw drawing) = true
needs_server (command.Copy at) = true
needs_server (command.Or at) = true
needs_server command.Undo = true
needs_server command.Redo = true
needs_server (command.Count generation) = true
needs_server (command.Counts range) = true
needs_server (command.Period search) = true
needs_server (command.Export generation file) = true
needs_server (command.Film film) = true
needs_server (command.Cut window generation file) = true
needs_server command.Poll = true
needs_server (command.Wait wait) = true
needs_server (command.Save file) = true
needs_server (command.Open file) = true
needs_server (command.Pattern name text) = false
needs_server (command.Turn turning) = false
needs_server (command.Show x y) = false
needs_server (command.Sleep milliseconds) = false
needs_server command.Help = false
needs_server command.Bye = false
