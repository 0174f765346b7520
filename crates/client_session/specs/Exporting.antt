-- What is told of later generations, and what is saved.
use Rattle.std.specs.Prelude.{◌≡◌, ⊤, ℕ, List, ◌++◌, Option, Some, None, Result, Ok, Err}
use mathlib.Core.List.{IsPrefix}
use Rattle.square_store.specs.Limits.{usual_room}
use Rattle.delta_exchange.specs.StateText.{IsStateText}
use Rattle.generation_engine.specs.Universe.{states_in_writes}
use Rattle.export.specs.Export.{IsRoomWanted}
use Rattle.replica_core.specs.Exporting.{Tells, generation_of}
use Rattle.replica_core.specs.declared.event.Question.{Question}
use Rattle.replica_core.specs.declared.event.Reply.{Reply}
use Rattle.replica_core.specs.declared.event.Stop.{Stop}
use Rattle.replica_core.specs.declared.event.Stop.TheVariants as stops
use Rattle.replica_core.specs.declared.event.Reply.TheVariants as reply
use Rattle.stamped_tree.specs.Plane.{map_of}
use Rattle.genedit_lib.specs.Output.{reply_line}
use Rattle.client_session.specs.declared.fault.CommandFault.{CommandFault}
use Rattle.client_session.specs.declared.fault.CommandFault.TheVariants.{Memory, StoreFull}
use Rattle.client_session.specs.declared.polling.News.{News}
use Rattle.client_session.specs.declared.polling.News.TheVariants as news
use Rattle.client_session.specs.declared.workspace.Workspace.{Workspace}
use Rattle.client_session.specs.Moment.{Moment}
use Rattle.client_session.specs.News.{BehindPoll, Leaves}

-- a want of a replica, as a client's
abbrev pub fault_of_stop : Stop → CommandFault
fault_of_stop stops.Memory = Memory
fault_of_stop stops.StoreFull = StoreFull

-- the reply to a question about what the replica holds
abbrev pub IsReplyTold : Question → Workspace → Reply → Type 0
IsReplyTold question s told = Tells s.replica.rule (states_in_writes (map_of s.replica.plane)) question told

-- it is printed
pub record PrintsReply (question : Question) (s : Workspace) (out out' : List ℕ) : Type 0 where
  pub reply : Reply
  pub told : IsReplyTold question s reply
  pub printed : out' ≡ out ++ reply_line reply

-- memory is wanting, and what was printed before stands; or room for the run of a universe, and nothing is printed
abbrev pub IsTellingWant : Question → Workspace → List ℕ → List ℕ → CommandFault → Type 0
IsTellingWant question s out out' Memory = IsPrefix out out'
IsTellingWant question s out out' StoreFull = IsRoomWanted s.replica.rule s.replica.plane (generation_of question) usual_room × (out' ≡ out)
IsTellingWant question s out out' fault = ⊥

-- the reply is printed; or memory or room is wanting
abbrev pub IsReplyPrint : {A : Type 0} → Question → Workspace → List ℕ → List ℕ → Result A CommandFault → Type 0
IsReplyPrint question s out out' (Ok done) = PrintsReply question s out out'
IsReplyPrint question s out out' (Err fault) = IsTellingWant question s out out' fault

-- a reply is no text
abbrev pub HasNoText : Reply → Type 0
HasNoText (reply.Text text) = ⊥
HasNoText _ = ⊤

-- the text that is told is given, and nothing printed; or none is told, and what is told is printed
abbrev pub IsTextGiven : {B : Type 0} → (B → List ℕ) → Question → Workspace → List ℕ → List ℕ → Option B → Type 0
IsTextGiven bytes_of question s out out' (Some text) = IsReplyTold question s (reply.Text (bytes_of text)) × (out' ≡ out)
IsTextGiven bytes_of question s out out' None = (told : Reply) × IsReplyTold question s told × HasNoText told × (out' ≡ out ++ reply_line told)

-- the same, or memory or room is wanting
abbrev pub IsTextAnswer : {B : Type 0} → (B → List ℕ) → Question → Workspace → List ℕ → List ℕ → Result (Option B) CommandFault → Type 0
IsTextAnswer bytes_of question s out out' (Ok text) = IsTextGiven bytes_of question s out out' text
IsTextAnswer bytes_of question s out out' (Err fault) = IsTellingWant question s out out' fault

-- the text of a message of the replica's map, or memory is wanting
abbrev pub IsStateAnswer : {B : Type 0} → (B → List ℕ) → Workspace → Result (Option B) CommandFault → Type 0
IsStateAnswer bytes_of s (Ok (Some text)) = IsStateText s.replica.rule (map_of s.replica.plane) (bytes_of text)
IsStateAnswer bytes_of s (Ok None) = ⊥
IsStateAnswer bytes_of s (Err fault) = fault ≡ Memory

-- ---- commands: what the last poll brought is in what is made

-- the line and what the client works with are as they were
abbrev pub StaysAt : Moment → Moment → Type 0
StaysAt m n = (n.line ≡ m.line) × (n.workspace ≡ m.workspace)

-- what is told is printed, and nothing else done
abbrev pub TellsNow : Question → Moment → Moment → Result (Unit {0}) CommandFault → Type 0
TellsNow question m n result = StaysAt m n × IsReplyPrint question m.workspace m.out n.out result

abbrev pub TellsBehind : Question → News → Moment → Moment → Result (Unit {0}) CommandFault → Type 0
TellsBehind question news.Edits m n result = TellsNow question m n result
TellsBehind question news.Whole m n result = TellsNow question m n result
TellsBehind question news.Refused m n result = Leaves tt m n result

abbrev pub IsTellCommand : Question → Moment → Moment → Result (Unit {0}) CommandFault → Type 0
IsTellCommand question m n result = BehindPoll (TellsBehind question) m n result

-- the text that is told is given, or what is told printed, and nothing else done
abbrev pub GivesTextNow : {B : Type 0} → (B → List ℕ) → Question → Moment → Moment → Result (Option B) CommandFault → Type 0
GivesTextNow bytes_of question m n result = StaysAt m n × IsTextAnswer bytes_of question m.workspace m.out n.out result

abbrev pub GivesTextBehind : {B : Type 0} → (B → List ℕ) → Question → News → Moment → Moment → Result (Option B) CommandFault → Type 0
GivesTextBehind bytes_of question news.Edits m n result = GivesTextNow bytes_of question m n result
GivesTextBehind bytes_of question news.Whole m n result = GivesTextNow bytes_of question m n result
GivesTextBehind bytes_of question news.Refused m n result = Leaves None m n result

abbrev pub IsTextCommand : {B : Type 0} → (B → List ℕ) → Question → Moment → Moment → Result (Option B) CommandFault → Type 0
IsTextCommand bytes_of question m n result = BehindPoll (GivesTextBehind bytes_of question) m n result

-- the text of a message of the replica's map is given, and nothing else done
abbrev pub SavesNow : {B : Type 0} → (B → List ℕ) → Moment → Moment → Result (Option B) CommandFault → Type 0
SavesNow bytes_of m n result = (n ≡ m) × IsStateAnswer bytes_of m.workspace result

abbrev pub SavesBehind : {B : Type 0} → (B → List ℕ) → News → Moment → Moment → Result (Option B) CommandFault → Type 0
SavesBehind bytes_of news.Edits m n result = SavesNow bytes_of m n result
SavesBehind bytes_of news.Whole m n result = SavesNow bytes_of m n result
SavesBehind bytes_of news.Refused m n result = Leaves None m n result

abbrev pub IsSaveCommand : {B : Type 0} → (B → List ℕ) → Moment → Moment → Result (Option B) CommandFault → Type 0
IsSaveCommand bytes_of m n result = BehindPoll (SavesBehind bytes_of) m n result
