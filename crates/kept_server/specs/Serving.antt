-- What a server of a kept board does.
use Rattle.std.specs.Prelude.{⊤, [], ◌∷◌, ◌++◌, List}
use Rattle.board.specs.Origins.{list_of}
use Rattle.board.specs.Showing.{Origin}
use Rattle.relay_board.specs.Closing.{IsWhole}
use Rattle.relay_board.specs.Seating.{Seating}
use Rattle.relay_board.specs.declared.fault.FinishFault.{FinishFault}
use Rattle.seat_server.specs.OneList.{HaveSeenHanded, IsToldOfOneList}
use Rattle.seat_server.specs.Serving.{FinishedValue}
use Rattle.seat_server.specs.Sessions.{AreAttended, AreServed, VisitValue}
use Rattle.board_keeper.specs.Ending.{IsEndFault}
use Rattle.board_keeper.specs.Keeping.{Keeping}
use Rattle.board_keeper.specs.Turns.{FailsBy}
use Rattle.board_keeper.specs.declared.ending.EndFault.TheVariants as ends
use Rattle.kept_server.specs.declared.fault.KeptFault.{KeptFault}
use Rattle.kept_server.specs.declared.fault.KeptFault.TheVariants.{Read, Keep, Finish, Memory}

-- Each of these seats of a board was served over streams that nobody had used before, one after another, while the file's seat
-- put nothing more. The account is that of the seats as their sessions left them, and of the file's: the published list has of
-- each of them exactly what was put at it and accepted, in order, each once.
pub record IsServedBeside (board : Origin) (before : List Seating) (file : Seating) (f : FinishedValue) : Type 0 where
  pub after : List Seating
  pub served : AreServed before f.ends after
  pub whole : IsWhole board [] (list_of f.account.front) (after ++ file ∷ []) f.account

-- why the turns of a keeper came to no end at which its sessions had ended well, and how it stands then
abbrev pub IsTurnReason : KeptFault → Keeping → Type 0
IsTurnReason Read b = ⊤
IsTurnReason (Keep why) b = FailsBy why b
IsTurnReason (Finish why) b = ⊥
IsTurnReason Memory b = ⊤

-- why a closed keeper whose seats are these gave no account, and how it stands then
abbrev pub IsCloseReason : List Seating → KeptFault → Keeping → Type 0
IsCloseReason seats Read b = ⊥
IsCloseReason seats (Keep why) b = FailsBy why b
IsCloseReason seats (Finish why) b = IsEndFault (ends.Finish why) b seats
IsCloseReason seats Memory b = ⊤

-- Each of these seats was served, and with the seats as their sessions left them, and the file's, the keeper gave no account.
pub record IsClosedInVain (before : List Seating) (file : Seating) (why : FinishFault) (b : Keeping) : Type 0 where
  pub after : List Seating
  pub visits : List (List VisitValue)
  pub attended : AreAttended before visits after
  pub reason : IsEndFault (ends.Finish why) b (after ++ file ∷ [])

-- Why there is no account of a keeper and these seats, and how it stands then. A fault of the keeper is told only where its
-- turn failed so, and that it did not finish only where it was asked to.
abbrev pub IsKeptReason : List Seating → Seating → KeptFault → Keeping → Type 0
IsKeptReason before file Read b = ⊤
IsKeptReason before file (Keep why) b = FailsBy why b
IsKeptReason before file (Finish why) b = IsClosedInVain before file why b
IsKeptReason before file Memory b = ⊤

-- What the clients of a kept board are told on any connection is of the beginning of one list, whose length the account says.
abbrev pub TellsOfKeptList : Type 0
TellsOfKeptList = (board : Origin) (seats : List Seating) (file : Seating) (f : FinishedValue) → HaveSeenHanded seats → (s : IsServedBeside board seats file f) → IsToldOfOneList seats s.served.visits f
