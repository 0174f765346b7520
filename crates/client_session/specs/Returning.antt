-- A client whose server went away, at a new connection.
use Rattle.std.specs.Prelude.{◌≡◌, ◌≢◌, ◌⊎◌, ◌↔◌, ⊤, IsTrue, ℕ, ◌+◌, ◌-◌, Bool, true, false, not, ◌&&◌, if◌then◌else◌, filter, List, [], ◌∷◌, ◌++◌, length, Option, Some, None, is_some, Result, Ok, Err}
use Rattle.std.specs.List.{list_any}
use Rattle.square_store.specs.Limits.{usual_room}
use Rattle.generations_rule.specs.Rule.{GenerationsRule}
use Rattle.stamped_writes.specs.Write.{IsBelow}
use Rattle.stamped_tree.specs.Plane.{map_of}
use Rattle.pattern_cells.specs.declared.cell.Cell.{Cell}
use Rattle.edit_stamps.specs.Edit.{PlaneEdit, is_edit, writes_of}
use Rattle.edit_stamps.specs.Stamp.{counter_in, replica_in}
use Rattle.replica_core.specs.Replica.{IsNew, ReplicaState}
use Rattle.client_protocol.specs.declared.greeting.Greeting.TheVariants as greeting
use Rattle.board_client.specs.declared.fault.ClientFault.{ClientFault}
use Rattle.board_client.specs.declared.polling.Polling.{Polling}
use Rattle.board_client.specs.declared.polling.Polling.TheVariants as polling
use Rattle.board_client.specs.Client.{LineState}
use Rattle.board_client.specs.Greeting.{IsGreeting}
use Rattle.board_client.specs.Polling.{IsPoll}
use Rattle.board_client.specs.Pushed.{PushedEdit}
use Rattle.client_session.specs.declared.fault.CommandFault.{CommandFault}
use Rattle.client_session.specs.declared.fault.CommandFault.TheVariants as faults
use Rattle.client_session.specs.declared.returning.Before.{Before}
use Rattle.client_session.specs.declared.returning.Return.{Return}
use Rattle.client_session.specs.declared.returning.Return.TheVariants as come
use Rattle.client_session.specs.declared.workspace.Workspace.{Workspace}
use Rattle.genedit_lib.specs.EditLines.{edit_lines}
use Rattle.drawing_history.specs.Makings.{MakingState, nothing_made}
use Rattle.client_session.specs.Lines.{drawn_line, joined_line, replaced_lines, whole_line}
use Rattle.client_session.specs.Moment.{IsCutShort, IsWant, Moment, others}
use Rattle.client_session.specs.Telling.{AllFindsNoRoom, ShowsAll}

-- ---- what is news

-- the edit that is in doubt, if one is
abbrev pub doubted : Option PushedEdit → List PlaneEdit
doubted None = []
doubted (Some pushed) = pushed.edit ∷ []

-- what a client knows of: the edit that is in doubt, and those that it was handed or drew
abbrev pub known_to : Workspace → List PlaneEdit
known_to s = doubted s.doubt ++ s.replica.journal

-- those of the edits that it does not know of, in their order
abbrev pub news_in : List PlaneEdit → List PlaneEdit → List PlaneEdit
news_in known edits = filter (λ e. not (list_any (is_edit e) known)) edits

-- ---- what is looked for

-- the board has an edit: it is among those that the poll handed out; of a plane that came whole, each of the edit's writes is there, or a greater one
abbrev pub IsOnBoard : Polling → ReplicaState → PlaneEdit → Type 0
IsOnBoard (polling.Edits count) r e = IsTrue (list_any (is_edit e) r.journal)
IsOnBoard polling.Whole r e = IsBelow (writes_of e) (map_of r.plane)
IsOnBoard (polling.Refused number) r e = ⊥

-- the edit that is in doubt, if one is, is on the board; where nothing is, none was found
abbrev pub IsFound : Polling → ReplicaState → Option PushedEdit → Bool → Type 0
IsFound heard r None found = found ≡ false
IsFound heard r (Some pushed) found = IsTrue found ↔ IsOnBoard heard r pushed.edit

-- ---- what is told

-- edits are told each in a line by a client that tells no cells, and is not quiet
abbrev pub tells_edits : Workspace → Bool
tells_edits s = not s.quiet && not (is_some s.shown)

-- the edits that are news, or that the plane came whole
abbrev pub news_lines : Polling → List PlaneEdit → Workspace → List ℕ
news_lines (polling.Edits count) news s = if tells_edits s then edit_lines news else []
news_lines polling.Whole news s = whole_line
news_lines (polling.Refused number) news s = []

-- an edit in doubt that is on the board was drawn, by its own stamp
abbrev pub found_line : Bool → Option PushedEdit → List ℕ
found_line true (Some pushed) = drawn_line (counter_in pushed.edit.stamp) (replica_in pushed.edit.stamp)
found_line true None = []
found_line false doubt = []

-- how many edits are counted off, so that the others are those before and the news; behind a whole plane all are
abbrev pub counted_by : Polling → ℕ → ℕ → ℕ → ℕ
counted_by (polling.Edits count) all before news = all - (before + news)
counted_by polling.Whole all before news = all
counted_by (polling.Refused number) all before news = all

-- what stays in doubt
abbrev pub still_doubted : Bool → Option PushedEdit → Option PushedEdit
still_doubted true doubt = None
still_doubted false doubt = doubt

-- the seat is told; then the news, and the cells that look otherwise than was told before, be it that they are no longer on the board; and
-- last an edit in doubt that was found
pub record TellsReturn (heard : Polling) (r : ReplicaState) (old new : Workspace) (out out' : List ℕ) : Type 0 where
  pub found : Bool
  pub finds : IsFound heard r old.doubt found
  pub cells : List Cell
  pub shows : ShowsAll r.plane old.shown new.shown cells
  pub told : out' ≡ out ++ joined_line r.number r.rule ++ news_lines heard (news_in (known_to old) r.journal) old ++ replaced_lines cells ++ found_line found old.doubt
  pub kept : new ≡ record old {
    shown = new.shown;
    counted = counted_by heard (length r.journal) (others old) (length (news_in (known_to old) r.journal));
    doubt = still_doubted found old.doubt;
  }

-- or memory is wanting for it, or room for the map that is told
abbrev pub IsReturnTold : Polling → ReplicaState → Workspace → Workspace → List ℕ → List ℕ → Result (Unit {0}) CommandFault → Type 0
IsReturnTold heard r old new out out' (Ok done) = TellsReturn heard r old new out out'
IsReturnTold heard r old new out out' (Err fault) = IsWant (AllFindsNoRoom r.plane old.shown) fault × IsCutShort old new out out'

-- ---- a new seat

-- a poll handed out something, be it nothing
abbrev pub IsAnswered : Polling → Type 0
IsAnswered (polling.Edits count) = ⊤
IsAnswered polling.Whole = ⊤
IsAnswered (polling.Refused number) = ⊥

-- what can be taken back at a board: where it has lost what the client held nothing, since stamps may begin anew there, and one of before be another's
abbrev pub making_at : Bool → MakingState → MakingState
making_at true making = nothing_made
making_at false making = making

-- what is told at a seat, whose board has lost what the client held or has not, is on the seat's own replica, no poll waits, and the board is open
abbrev pub seated : Bool → ReplicaState → Workspace → Workspace
seated lost r s = record s { replica = r; awaited = None; closed = false; making = making_at lost s.making }

-- the first poll of a seat that is a new one, by its number, was made on a line; its replica took what came
pub record PollsFirst (rule : GenerationsRule) (number : ℕ) (a b : LineState) (r : ReplicaState) (result : Result Polling ClientFault) : Type 0 where
  pub fresh : ReplicaState
  pub is_new : IsNew rule number usual_room fresh
  pub polled : IsPoll a b fresh r result

-- what the client held before is given back, and whether the board's plane has all of that
pub record GivesBack (before : Before) (old r : ReplicaState) : Type 0 where
  pub replica : before.replica ≡ old
  pub lost : IsTrue before.is_lost ↔ (IsBelow (map_of old.plane) (map_of r.plane) → ⊥)

-- what was heard is told, and the client is at the seat
pub record IsTold (heard : Polling) (line : LineState) (r : ReplicaState) (m n : Moment) (before : Before) : Type 0 where
  pub told : Workspace
  pub tells : TellsReturn heard r m.workspace told m.out n.out
  pub at : n.line ≡ line
  pub seat : n.workspace ≡ seated before.is_lost r told
  pub gives : GivesBack before m.workspace.replica r

-- the first poll of a seat of this number was made, and told
pub record IsSeated (number : ℕ) (a : LineState) (m n : Moment) (before : Before) : Type 0 where
  pub heard : Polling
  pub is_answer : IsAnswered heard
  pub line : LineState
  pub r : ReplicaState
  pub polls : PollsFirst m.workspace.replica.rule number a line r (Ok heard)
  pub told : IsTold heard line r m n before

-- The client joined the board anew. It holds what the first poll of its seat brought and nothing else, as one that joins does.
pub record ComesBack (a : LineState) (m n : Moment) (before : Before) : Type 0 where
  pub number : ℕ
  pub greeted : LineState
  pub greets : IsGreeting a greeted (Ok (greeting.Seat number m.workspace.replica.rule))
  pub seated : IsSeated number greeted m n before

-- a board of another rule greeted
pub record MeetsOtherRule (a : LineState) (m : Moment) : Type 0 where
  pub number : ℕ
  pub rule : GenerationsRule
  pub greeted : LineState
  pub greets : IsGreeting a greeted (Ok (greeting.Seat number rule))
  pub another : rule ≢ m.workspace.replica.rule

-- a first poll ended so
pub record PollsInVain (number : ℕ) (a : LineState) (m : Moment) (result : Result Polling ClientFault) : Type 0 where
  pub line : LineState
  pub r : ReplicaState
  pub polls : PollsFirst m.workspace.replica.rule number a line r result

-- room for the map that is told is wanting, of what a first poll brought
pub record LacksRoom (number : ℕ) (a : LineState) (m : Moment) : Type 0 where
  pub heard : Polling
  pub line : LineState
  pub r : ReplicaState
  pub polls : PollsFirst m.workspace.replica.rule number a line r (Ok heard)
  pub full : AllFindsNoRoom r.plane m.workspace.shown

-- why the client is not at its seat; memory may be wanting
abbrev pub LacksSeat : ℕ → LineState → CommandFault → Moment → Type 0
LacksSeat number a (faults.Client fault) m = PollsInVain number a m (Err fault)
LacksSeat number a (faults.Refused refusal) m = PollsInVain number a m (Ok (polling.Refused refusal))
LacksSeat number a faults.Memory m = ⊤
LacksSeat number a faults.StoreFull m = LacksRoom number a m

-- a seat was given under the client's rule, but it is not at it
pub record GreetsInVain (a : LineState) (fault : CommandFault) (m : Moment) : Type 0 where
  pub number : ℕ
  pub greeted : LineState
  pub greets : IsGreeting a greeted (Ok (greeting.Seat number m.workspace.replica.rule))
  pub lacks : LacksSeat number greeted fault m

-- no seat was given
abbrev pub IsUngreeted : LineState → CommandFault → Type 0
IsUngreeted a (faults.Client fault) = (line : LineState) × IsGreeting a line (Err fault)
IsUngreeted a (faults.Refused number) = (line : LineState) × IsGreeting a line (Ok (greeting.Refused number))
IsUngreeted a fault = ⊥

-- why the client is not back
abbrev pub StaysAway : LineState → CommandFault → Moment → Type 0
StaysAway a fault m = IsUngreeted a fault ⊎ GreetsInVain a fault m

-- it holds what it held, and is at its old line; what was printed before stands, and the map that is told alone may be another
pub record HoldsOn (m n : Moment) : Type 0 where
  pub line : n.line ≡ m.line
  pub cut : IsCutShort m.workspace n.workspace m.out n.out

abbrev pub Returns : LineState → Moment → Moment → Result Return CommandFault → Type 0
Returns a m n (Ok (come.Joined before)) = ComesBack a m n before
Returns a m n (Ok come.OtherRule) = MeetsOtherRule a m × (n ≡ m)
Returns a m n (Err fault) = StaysAway a fault m × HoldsOn m n

-- ---- in steps

-- at a seat of this number
abbrev pub SitsDown : ℕ → LineState → Moment → Moment → Result Return CommandFault → Type 0
SitsDown number a m n (Ok (come.Joined before)) = IsSeated number a m n before
SitsDown number a m n (Ok come.OtherRule) = ⊥
SitsDown number a m n (Err fault) = LacksSeat number a fault m × HoldsOn m n

-- behind its first poll
abbrev pub TakesSeat : Polling → LineState → ReplicaState → Moment → Moment → Result Return CommandFault → Type 0
TakesSeat heard line r m n (Ok (come.Joined before)) = IsTold heard line r m n before
TakesSeat heard line r m n (Ok come.OtherRule) = ⊥
TakesSeat heard line r m n (Err fault) = IsWant (AllFindsNoRoom r.plane m.workspace.shown) fault × HoldsOn m n
