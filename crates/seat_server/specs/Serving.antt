-- What a server of seats does.
use Rattle.std.specs.Prelude.{ℕ, List, [], Option, None}
use mathlib.Core.List.{IsPrefix}
use Rattle.board.specs.Origins.{list_of}
use Rattle.board.specs.Showing.{Origin}
use Rattle.board.specs.declared.entry.Entry.{Entry}
use Rattle.relay_board.specs.Relaying.{Relaying}
use Rattle.relay_board.specs.Closing.{IsWhole}
use Rattle.relay_board.specs.Seating.{Seating}
use Rattle.relay_board.specs.declared.finish.Account.{Account}
use Rattle.seat_server.specs.Sessions.{AreServed, SessionEnd}
use Rattle.seat_server.specs.Turning.{IsTurned}

-- how the last session of each seat ended, in the order of the seats, and what came of the board
pub record FinishedValue : Type 0 where
  pub ends : List (Option SessionEnd)
  pub account : Account

-- Each of these seats of a board was served over streams that nobody had used before, one after another, and the account is
-- that of the seats as their sessions left them: the published list has of each seat exactly what was pushed at it and
-- accepted, in order, each once.
pub record IsServed (board : Origin) (before : List Seating) (f : FinishedValue) : Type 0 where
  pub after : List Seating
  pub served : AreServed before f.ends after
  pub whole : IsWhole board [] (list_of f.account.front) after f.account

-- The relay took its turns up to an idle one, and the list goes on from what was published by then.
pub record GoesOnFrom (most : ℕ) (relay : Relaying) (list : List Entry) : Type 0 where
  pub turned : Relaying
  pub turns : IsTurned most relay None turned
  pub goes_on : IsPrefix turned.list list
