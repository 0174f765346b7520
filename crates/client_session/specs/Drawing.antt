-- What a drawing does.
use Rattle.std.specs.Prelude.{◌≡◌, ◌⊎◌, ℕ, Bool, true, false, ◌==◌, if◌then◌else◌, List, [], ◌++◌, length, drop, Option, Some, None, IsSome, is_some, option_map, Result, Ok, Err}
use Rattle.pattern_cells.specs.Pattern.{RlePattern}
use Rattle.pattern_cells.specs.declared.cell.Cell.{Cell}
use Rattle.stamped_writes.specs.Write.{Writes}
use Rattle.edit_stamps.specs.Edit.{PlaneEdit}
use Rattle.stamped_tree.specs.Plane.{map_of}
use Rattle.drawing_history.specs.Makings.{AddsStroke, MakingState, NotesStroke}
use Rattle.drawing_history.specs.Makings as makings
use Rattle.replica_events.specs.declared.edit_spec.EditSpec.{EditSpec}
use Rattle.replica_events.specs.declared.edit_spec.EditSpec.TheVariants as spec
use Rattle.replica_core.specs.Replica.{ReplicaState}
use Rattle.replica_core.specs.declared.fault.Fault.{Fault}
use Rattle.replica_core.specs.declared.event.Reply.TheVariants as reply
use Rattle.genedit_lib.specs.Output.{reply_line}
use Rattle.genedit_lib.specs.Patterns.{pattern_in}
use Rattle.board_client.specs.declared.polling.Polling.{Polling}
use Rattle.board_client.specs.declared.polling.Polling.TheVariants as polling
use Rattle.board_client.specs.declared.publishing.Drawing.{Drawing}
use Rattle.board_client.specs.declared.publishing.Drawing.TheVariants.{Drawn, Refused, Unpublished}
use Rattle.board_client.specs.declared.publishing.Saying.{Saying}
use Rattle.board_client.specs.declared.publishing.Saying.TheVariants as saying
use Rattle.board_client.specs.Anew.{IsAnewSaid, doubt_behind}
use Rattle.board_client.specs.declared.fault.ClientFault.{ClientFault}
use Rattle.board_client.specs.Client.{LineState}
use Rattle.board_client.specs.Drawing.{IsPublishingEnd}
use Rattle.board_client.specs.Polling.{IsFallenBack}
use Rattle.board_client.specs.Pushed.{PushedEdit}
use Rattle.board_client.specs.Saying.{IsDrawingSaid}
use Rattle.client_session.specs.declared.outcome.Outcome.{Outcome}
use Rattle.client_session.specs.declared.outcome.Outcome.TheVariants as outcome
use Rattle.client_session.specs.declared.fault.CommandFault.{CommandFault}
use Rattle.client_session.specs.declared.fault.CommandFault.TheVariants as faults
use Rattle.client_session.specs.declared.pasting.Corner.{Corner}
use Rattle.client_session.specs.declared.pasting.PasteMode.{PasteMode}
use Rattle.client_session.specs.declared.pasting.PasteMode.TheVariants as mode
use Rattle.client_session.specs.declared.polling.News.{News}
use Rattle.client_session.specs.declared.polling.News.TheVariants as news
use Rattle.client_session.specs.declared.workspace.Workspace.{Workspace}
use Rattle.client_session.specs.Lines.{drawn_as, nameless_line, refusal_line}
use Rattle.client_session.specs.Moment.{IsPrinted, LacksTelling, Moment, counted_behind, taken}
use Rattle.client_session.specs.News.{BehindPoll, EndsPollingBy, IsPollToldBy, IsReplyHeard, Leaves, PollsBy, answered}
use Rattle.client_session.specs.Telling.{CameFindsNoRoom, TellsCame}

-- ---- what is told

-- a push that was refused by 30 leaves open whether the board has the edit
abbrev pub outcome_of : Drawing → Outcome
outcome_of (Drawn counter) = outcome.Drawn
outcome_of (Refused fault) = outcome.Refused
outcome_of (Unpublished number) = if number == 30 then outcome.InDoubt else outcome.Refused

-- an edit was drawn, the one behind so many of the journal, and is none of others; where a map is told, what it changes is told behind that;
-- where one was in doubt, it is that one, drawn anew, which is told so, and so is one that takes something back
pub record TellsDrawn (counter known : ℕ) (old new : Workspace) (out out' : List ℕ) : Type 0 where
  pub told : TellsCame [] (drop known old.replica.journal) old.shown new.shown (out ++ drawn_as old.way (is_some old.doubt) counter old.replica.number) out'
  pub kept : new ≡ record old { shown = new.shown; counted = counted_behind known old; doubt = None }

-- a push was refused; where by 30, the board is closed to the client from now on
pub record TellsRefusedPush (number : ℕ) (old new : Workspace) (out out' : List ℕ) : Type 0 where
  pub told : out' ≡ out ++ refusal_line number
  pub kept : new ≡ record old { closed = number == 30; doubt = None }

-- what is told of a drawing, by a client whose replica took the edit, if it was drawn
abbrev pub TellsDrawing : Drawing → ℕ → Workspace → Workspace → List ℕ → List ℕ → Type 0
TellsDrawing (Drawn counter) known old new out out' = TellsDrawn counter known old new out out'
TellsDrawing (Refused fault) known old new out out' = (out' ≡ out ++ reply_line (reply.Refused fault)) × (new ≡ old)
TellsDrawing (Unpublished number) known old new out out' = TellsRefusedPush number old new out out'

-- room is wanting for what an edit changes, behind the line that it was drawn; of a refusal none is wanted
abbrev pub DrawingFindsNoRoom : Drawing → ℕ → Workspace → Workspace → List ℕ → List ℕ → Type 0
DrawingFindsNoRoom (Drawn counter) known old new out out' = CameFindsNoRoom (drop known old.replica.journal) old.shown new.shown (out ++ drawn_as old.way (is_some old.doubt) counter old.replica.number) out'
DrawingFindsNoRoom (Refused fault) known old new out out' = ⊥
DrawingFindsNoRoom (Unpublished number) known old new out out' = ⊥

-- ---- what is noted

-- what is noted of an edit that was drawn, so that it can be taken back; of one that was not, nothing
abbrev pub NotesDrawing : Drawing → PlaneEdit → Writes → Writes → MakingState → MakingState → Type 0
NotesDrawing (Drawn counter) e before after old new = NotesStroke before e after old new
NotesDrawing (Refused fault) e before after old new = new ≡ old
NotesDrawing (Unpublished number) e before after old new = new ≡ old

-- the same by what was watched before an edit of this stamp, at the map behind it
abbrev pub AddsDrawing : Drawing → Option (List Cell) → ℕ → Writes → MakingState → MakingState → Type 0
AddsDrawing (Drawn counter) watched stamp now old new = AddsStroke watched stamp now old new
AddsDrawing (Refused fault) watched stamp now old new = new ≡ old
AddsDrawing (Unpublished number) watched stamp now old new = new ≡ old

-- what a client works with, but that nothing was noted yet of what it drew
abbrev pub unnoted : Moment → Moment → Workspace
unnoted m n = record n.workspace { making = m.workspace.making }

-- ---- what is done

-- what comes of a push that was said on the line, and what a replica takes of it
abbrev pub EndsPush : PushedEdit → Moment → Moment → Result Drawing ClientFault → Type 0
EndsPush pushed m n result = IsPublishingEnd pushed.edit m.line n.line m.workspace.replica n.workspace.replica result

-- it came so, and was told and noted
pub record DrawsAndTells (pushed : PushedEdit) (m n : Moment) (came : Outcome) : Type 0 where
  pub drawing : Drawing
  pub drawn : EndsPush pushed m n (Ok drawing)
  pub told : TellsDrawing drawing (length m.workspace.replica.journal) (taken m n) (unnoted m n) m.out n.out
  pub noted : NotesDrawing drawing pushed.edit (map_of m.workspace.replica.plane) (map_of n.workspace.replica.plane) m.workspace.making n.workspace.making
  pub outcome_is : came ≡ outcome_of drawing

-- it failed, and nothing is told of it; where no answer came the edit is in doubt from now on
pub record FailsDrawing (pushed : PushedEdit) (fault : ClientFault) (m n : Moment) : Type 0 where
  pub drawn : EndsPush pushed m n (Err fault)
  pub kept : n.workspace ≡ record m.workspace { replica = n.workspace.replica; doubt = doubt_behind pushed m.workspace.doubt (Err fault) }
  pub told : n.out ≡ m.out

-- it was made, but what came of it is not all told
abbrev pub IsDrawnUntold : PushedEdit → CommandFault → Moment → Moment → Type 0
IsDrawnUntold pushed fault m n = LacksTelling (λ drawing. EndsPush pushed m n (Ok drawing))
    (λ drawing. DrawingFindsNoRoom drawing (length m.workspace.replica.journal) (taken m n) n.workspace m.out n.out) fault m n

abbrev pub IsDrawingTold : PushedEdit → Moment → Moment → Result Outcome CommandFault → Type 0
IsDrawingTold pushed m n (Ok came) = DrawsAndTells pushed m n came
IsDrawingTold pushed m n (Err (faults.Client fault)) = FailsDrawing pushed fault m n
IsDrawingTold pushed m n (Err (faults.Refused number)) = ⊥
IsDrawingTold pushed m n (Err faults.Memory) = IsDrawnUntold pushed faults.Memory m n
IsDrawingTold pushed m n (Err faults.StoreFull) = IsDrawnUntold pushed faults.StoreFull m n

-- ---- a push that is said and heard

-- what comes of the saying of a push
abbrev pub Says : Type 1
Says = LineState → LineState → ReplicaState → Result Saying ClientFault → Type 0

-- the push was said so, its answer is heard, and what came of it told
pub record EndsSaid (S : Says) (m n : Moment) (result : Result Outcome CommandFault) : Type 0 where
  pub line : LineState
  pub pushed : PushedEdit
  pub said : S m.line line m.workspace.replica (Ok (saying.Said pushed))
  pub ends : IsDrawingTold pushed (record m { line = line }) n result

-- there is no such edit, which is told by a client that is as this one: nothing is said
pub record RefusesSaying (S : Says) (m base : Moment) (n : Moment) (result : Result Outcome CommandFault) : Type 0 where
  pub fault : Fault
  pub refused : S m.line m.line m.workspace.replica (Ok (saying.Refused fault))
  pub told : IsPrinted outcome.Refused (reply_line (reply.Refused fault)) base n result

-- the push could not be said
abbrev pub IsUnsaidBy : Says → CommandFault → Moment → Moment → Type 0
IsUnsaidBy S (faults.Client fault) m n = S m.line n.line m.workspace.replica (Err fault) × (n ≡ record m { line = n.line })
IsUnsaidBy S fault m n = ⊥

abbrev pub DrawsBy : Says → Moment → Moment → Moment → Result Outcome CommandFault → Type 0
DrawsBy S m base n (Ok came) = RefusesSaying S m base n (Ok came) ⊎ EndsSaid S m n (Ok came)
DrawsBy S m base n (Err fault) = IsUnsaidBy S fault m n ⊎ (RefusesSaying S m base n (Err fault) ⊎ EndsSaid S m n (Err fault))

-- ---- edits in doubt

-- nothing is in doubt any more
abbrev pub undoubted : Moment → Moment
undoubted m = record { line = m.line; workspace = record m.workspace { doubt = None }; out = m.out }

-- an edit is in doubt from now on
abbrev pub doubting : PushedEdit → Moment → Moment
doubting pushed m = record { line = m.line; workspace = record m.workspace { doubt = Some pushed }; out = m.out }

-- the edit in doubt is pushed anew, and told as such; where it is refused nothing is in doubt any more
abbrev pub PushesAnew : Moment → Moment → Result Outcome CommandFault → Type 0
PushesAnew m n result = (doubted : PushedEdit) × (m.workspace.doubt ≡ Some doubted) × DrawsBy (IsAnewSaid doubted) m (undoubted m) n result

-- something is drawn, and then the drawing that was being made is ended
pub record DrawsAndEnds (Draws : Moment → Moment → Result Outcome CommandFault → Type 0) (m n : Moment) (result : Result Outcome CommandFault) : Type 0 where
  pub mid : Moment
  pub draws : Draws m mid result
  pub ends : makings.EndsDrawing mid.workspace.making n.workspace.making
  pub rest : n ≡ record mid { workspace = record mid.workspace { making = n.workspace.making } }

-- the edit in doubt is drawn anew, and the drawing that was being made is ended by it
abbrev pub DrawsAnew : Moment → Moment → Result Outcome CommandFault → Type 0
DrawsAnew m n result = DrawsAndEnds PushesAnew m n result

-- ---- behind a poll

-- a drawing behind its poll, of a client to which the board is closed, or is not
abbrev pub DrawsAs : Bool → ℕ → EditSpec → Moment → Moment → Result Outcome CommandFault → Type 0
DrawsAs true after spec m n result = IsPrinted outcome.Refused (refusal_line 30) m n result
DrawsAs false after spec m n result = DrawsBy (IsDrawingSaid after spec) m m n result

-- the same by what the poll brought
abbrev pub DrawsBehind : ℕ → EditSpec → News → Moment → Moment → Result Outcome CommandFault → Type 0
DrawsBehind after spec news.Edits m n result = DrawsAs m.workspace.closed after spec m n result
DrawsBehind after spec news.Whole m n result = DrawsAs m.workspace.closed after spec m n result
DrawsBehind after spec news.Refused m n result = Leaves outcome.Refused m n result

-- ---- behind a poll that waits: the push is said behind it, and both replies are heard then

-- the plane in pieces is fetched and told; where it is refused, the client ends by 21
abbrev pub FetchesPlane : {A : Type 0} → Moment → Moment → Result A CommandFault → Type 0
FetchesPlane m n (Ok done) = (heard : Polling) × IsPollToldBy IsFallenBack m n (Ok heard)
FetchesPlane m n (Err fault) = EndsPollingBy IsFallenBack fault m n

-- the push of an edit that was said is answered, and what came of it told; then the plane is fetched
pub record FetchesBehind (pushed : PushedEdit) (came : Outcome) (m n : Moment) (result : Result (Unit {0}) CommandFault) : Type 0 where
  pub mid : Moment
  pub drawn : IsDrawingTold pushed m mid (Ok came)
  pub fetched : FetchesPlane mid n result

-- or the client ends at the push
abbrev pub EndsAndFetches : PushedEdit → Moment → Moment → Result Outcome CommandFault → Type 0
EndsAndFetches pushed m n (Ok came) = FetchesBehind pushed came m n (Ok tt)
EndsAndFetches pushed m n (Err fault) = IsDrawingTold pushed m n (Err fault) ⊎ ((came : Outcome) × FetchesBehind pushed came m n (Err fault))

-- the reply to the poll that waited is heard and told, if it is no refusal, and then the push is answered
pub record EndsBehindReply (pushed : PushedEdit) (m n : Moment) (result : Result Outcome CommandFault) : Type 0 where
  pub heard : Polling
  pub mid : Moment
  pub reply : IsPollToldBy IsReplyHeard m mid (Ok heard)
  pub ends : IsDrawingTold pushed mid n result

-- that reply is refused by 21: what the board had to hand out is lost, and the plane fetched once the push is answered
pub record EndsBehindLoss (pushed : PushedEdit) (m n : Moment) (result : Result Outcome CommandFault) : Type 0 where
  pub mid : Moment
  pub lost : PollsBy IsReplyHeard (polling.Refused 21) m mid
  pub ends : EndsAndFetches pushed mid n result

abbrev pub EndsDrawing : PushedEdit → Moment → Moment → Result Outcome CommandFault → Type 0
EndsDrawing pushed m n result = EndsBehindReply pushed m n result ⊎ EndsBehindLoss pushed m n result

-- the client ends at that reply, by no refusal, and the edit is in doubt
abbrev pub EndsAtReply : PushedEdit → CommandFault → Moment → Moment → Type 0
EndsAtReply pushed (faults.Refused number) m n = ⊥
EndsAtReply pushed fault m n = (mid : Moment) × EndsPollingBy IsReplyHeard fault m mid × (n ≡ doubting pushed mid)

abbrev pub HearsDrawing : PushedEdit → Moment → Moment → Result Outcome CommandFault → Type 0
HearsDrawing pushed m n (Ok came) = EndsDrawing pushed m n (Ok came)
HearsDrawing pushed m n (Err fault) = EndsAtReply pushed fault m n ⊎ EndsDrawing pushed m n (Err fault)

-- the push of the edit that is meant was said, and no poll waits any more
pub record SaysDrawing (after : ℕ) (spec : EditSpec) (m n : Moment) (result : Result Outcome CommandFault) : Type 0 where
  pub line : LineState
  pub pushed : PushedEdit
  pub said : IsDrawingSaid after spec m.line line m.workspace.replica (Ok (saying.Said pushed))
  pub hears : HearsDrawing pushed (answered line m) n result

-- there is no such edit, which is told: nothing is said, and the poll waits on
abbrev pub RefusesDrawing : ℕ → EditSpec → Moment → Moment → Result Outcome CommandFault → Type 0
RefusesDrawing after spec m n result = RefusesSaying (IsDrawingSaid after spec) m m n result

-- of a client to which the board is closed, or is not
abbrev pub DrawsWaiting : Bool → ℕ → EditSpec → Moment → Moment → Result Outcome CommandFault → Type 0
DrawsWaiting true after spec m n result = IsPrinted outcome.Refused (refusal_line 30) m n result
DrawsWaiting false after spec m n (Ok came) = RefusesDrawing after spec m n (Ok came) ⊎ SaysDrawing after spec m n (Ok came)
DrawsWaiting false after spec m n (Err fault) = IsUnsaidBy (IsDrawingSaid after spec) fault m n ⊎ (RefusesDrawing after spec m n (Err fault) ⊎ SaysDrawing after spec m n (Err fault))

-- ---- commands

-- with a counter above a given one too; by whether a poll waits
abbrev pub DrawsFrom : Option ℕ → ℕ → EditSpec → Moment → Moment → Result Outcome CommandFault → Type 0
DrawsFrom None after spec m n result = BehindPoll (DrawsBehind after spec) m n result
DrawsFrom (Some milliseconds) after spec m n result = DrawsWaiting m.workspace.closed after spec m n result

abbrev pub IsDrawCommand : ℕ → EditSpec → Moment → Moment → Result Outcome CommandFault → Type 0
IsDrawCommand after spec m n result = DrawsFrom m.workspace.awaited after spec m n result

-- a paste is the drawing of what the name's pattern makes; a name that stands for none is refused, and nothing said on the line
abbrev pub PastesAs : Option EditSpec → Moment → Moment → Result Outcome CommandFault → Type 0
PastesAs (Some spec) m n result = IsDrawCommand 0 spec m n result
PastesAs None m n result = IsPrinted outcome.Refused nameless_line m n result

-- or memory for a copy of the name's pattern is wanting before anything is done
abbrev pub IsPasteOf : Option EditSpec → Moment → Moment → Result Outcome CommandFault → Type 0
IsPasteOf spec m n (Ok came) = PastesAs spec m n (Ok came)
IsPasteOf spec m n (Err fault) = ((fault ≡ faults.Memory) × IsSome spec × (n ≡ m)) ⊎ PastesAs spec m n (Err fault)

-- what is drawn of a pattern whose box has its upper left corner there
abbrev pub paste_spec : PasteMode → Corner → RlePattern → EditSpec
paste_spec mode.Copy corner pattern = spec.Copy pattern corner.x corner.y
paste_spec mode.Or corner pattern = spec.Or pattern corner.x corner.y

-- the paste of the pattern that a name stands for
abbrev pub IsPaste : PasteMode → List ℕ → Corner → Moment → Moment → Result Outcome CommandFault → Type 0
IsPaste mode name corner m n result = IsPasteOf (option_map (paste_spec mode corner) (pattern_in m.workspace.patterns name)) m n result
