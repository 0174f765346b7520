-- What a client does before and behind its commands.
use Rattle.std.specs.Prelude.{ℕ, Bool, true, false, not, ◌==◌, if◌then◌else◌, ◌/◌, min, Option, Some, None}
use Rattle.std.specs.Duration.{as_nanos}
use Rattle.std.specs.declared.time.Duration.{Duration}
use Rattle.client_commands.specs.declared.command.ClientCommand.{ClientCommand}
use Rattle.client_commands.specs.declared.command.ClientCommand.TheVariants as command
use Rattle.board_client.specs.declared.pushing.Pushing.{Pushing}
use Rattle.board_client.specs.declared.pushing.Pushing.TheVariants as pushing
use Rattle.client_session.specs.declared.outcome.Outcome.{Outcome}
use Rattle.client_session.specs.declared.outcome.Outcome.TheVariants as outcome
use Rattle.genedit_join.specs.declared.joined.Going.{Going}
use Rattle.genedit_join.specs.declared.joined.Going.TheVariants as going

-- a command that says something to the server begins with a poll, but a drawing where a poll waits; `open` reads its file before that
abbrev pub asks_ahead : ClientCommand → Bool → Bool
asks_ahead (command.Draw drawing) awaited = not awaited
asks_ahead (command.Copy at) awaited = not awaited
asks_ahead (command.Or at) awaited = not awaited
asks_ahead command.Undo awaited = not awaited
asks_ahead command.Redo awaited = not awaited
asks_ahead (command.Count generation) awaited = true
asks_ahead (command.Counts range) awaited = true
asks_ahead (command.Period search) awaited = true
asks_ahead (command.Export generation file) awaited = true
asks_ahead (command.Film film) awaited = false
asks_ahead (command.Cut window generation file) awaited = true
asks_ahead command.Poll awaited = true
asks_ahead (command.Wait wait) awaited = true
asks_ahead (command.Save file) awaited = true
asks_ahead (command.Pattern name text) awaited = false
asks_ahead (command.Turn turning) awaited = false
asks_ahead (command.Show x y) awaited = false
asks_ahead (command.Sleep milliseconds) awaited = false
asks_ahead (command.Open file) awaited = false
asks_ahead command.Help awaited = false
asks_ahead command.Bye awaited = false

-- the number with which an edit was answered
abbrev pub number_of : Pushing → ℕ
number_of pushing.Done = 0
number_of (pushing.Refused number) = number

-- how many whole milliseconds are left of a time, at most 2^32 - 1
abbrev pub whole_milliseconds : Option Duration → ℕ
whole_milliseconds None = 0
whole_milliseconds (Some left) = min (as_nanos left / 1_000_000) 4294967295

-- how a client goes on behind a file that it opened
abbrev pub going_of : Outcome → Going
going_of outcome.Drawn = going.On
going_of outcome.Refused = going.On
going_of outcome.InDoubt = going.InDoubt

-- what came of an edit, by its answer: 0 tells that the board has it; behind 30 it may have it or not
abbrev pub late_outcome : ℕ → Outcome
late_outcome number = if number == 0 then outcome.Drawn else if number == 30 then outcome.InDoubt else outcome.Refused
