-- What the clients of a served board are told: all of it is of one list.
use Rattle.std.specs.Prelude.{◌≡◌, ◌⊎◌, ⊤, ℕ, ◌+◌, ◌≤◌, ◌^◌, List, [], ◌∷◌, ◌++◌, length, map, Some, Result, Ok, Err, slice_get}
use Rattle.std.specs.Int.{w16, to_be_bytes}
use Rattle.std.specs.Io.KnownBytes.{Consumes}
use mathlib.Core.List.{IsPrefix}
use Rattle.generations_rule.specs.Rule.{GenerationsRule}
use Rattle.edit_stamps.specs.Edit.{PlaneEdit, greatest}
use Rattle.stamped_writes.specs.Write.{AreSame, Writes}
use Rattle.generation_engine.specs.Universe.{states_in_writes}
use Rattle.export.specs.declared.fault.ExportFault.{ExportFault}
use Rattle.export.specs.Asking.{IsCut, IsCutRefused}
use Rattle.export.specs.Export.{IsExport, IsExportRefused, most_cells}
use Rattle.pattern_cells.specs.declared.window.Window.{Window}
use Rattle.delta_exchange.specs.StateText.{IsStateText}
use Rattle.message_frames.specs.FrameLaws.{IsTakenTo}
use Rattle.frame_service.specs.Exchanges.{Exchange, frames_of, requests_of}
use Rattle.frame_service.specs.Service.{EndsAs}
use Rattle.board.specs.declared.entry.Entry.{Entry}
use Rattle.board.specs.Entries.{edits_of}
use Rattle.board.specs.Origins.{list_of}
use Rattle.board.specs.Showing.{Origin}
use Rattle.relay_board.specs.Seating.{Seating}
use Rattle.session_hub.specs.Request.{Request, Await, Cut, Export, Hello, Many, Pieces, Poll, Push, Whole, request_of}
use Rattle.session_hub.specs.Replies.{IsInPieces, done, edits_frames, export_body, hello_body, most_edits, pieces_reply, pushed_of, refusal, text_body, whole_frames}
use Rattle.seat_server.specs.Serving.{FinishedValue, IsServed}
use Rattle.seat_server.specs.Sessions.{VisitValue, number_of, rule_of}

-- what a reply tells of a board
pub data Telling : Type 0 where
  Nothing : Telling
  -- the last edits of a list, in order
  Edits : (edits : List PlaneEdit) → Telling
  -- a map of writes
  Plane : (map : Writes) → Telling
  -- a map of writes, and how many edits it is of
  Counted : (map : Writes) (count : ℕ) → Telling
  -- of each of some generations the text, or why there is none
  Texts : (generations : List ℕ) (answers : List (Result (List ℕ) ExportFault)) → Telling
  -- the text of the cells in a window at a generation, or why there is none
  CutText : (window : Window) (generation : ℕ) (answer : Result (List ℕ) ExportFault) → Telling

-- ---- of which list it is

-- the answer is the export of the greatest-stamped writes of these edits, the rule being applied cell by cell
abbrev pub IsTextOf : GenerationsRule → List PlaneEdit → ℕ → Result (List ℕ) ExportFault → Type 0
IsTextOf r edits g (Ok text) = IsExport r (states_in_writes (greatest edits)) g most_cells (Ok text)
IsTextOf r edits g (Err fault) = IsExportRefused r (states_in_writes (greatest edits)) g most_cells fault

abbrev pub AreTextsOf : GenerationsRule → List PlaneEdit → List ℕ → List (Result (List ℕ) ExportFault) → Type 0
AreTextsOf r edits [] [] = ⊤
AreTextsOf r edits (g ∷ gs) (answer ∷ answers) = IsTextOf r edits g answer × AreTextsOf r edits gs answers
AreTextsOf r edits [] (answer ∷ answers) = ⊥
AreTextsOf r edits (g ∷ gs) [] = ⊥

-- the answer is a cut of them
abbrev pub IsCutTextOf : GenerationsRule → List PlaneEdit → Window → ℕ → Result (List ℕ) ExportFault → Type 0
IsCutTextOf r edits w g (Ok text) = IsCut r (states_in_writes (greatest edits)) w g most_cells (Ok text)
IsCutTextOf r edits w g (Err fault) = IsCutRefused r (states_in_writes (greatest edits)) w g most_cells fault

-- this is told of a board on which these edits were published, and no other
abbrev pub IsToldOf : GenerationsRule → List PlaneEdit → Telling → Type 0
IsToldOf r all Nothing = ⊤
IsToldOf r all (Edits edits) = (before : List PlaneEdit) × (all ≡ before ++ edits)
IsToldOf r all (Plane map) = AreSame map (greatest all)
IsToldOf r all (Counted map count) = AreSame map (greatest all) × (count ≡ length all)
IsToldOf r all (Texts gs answers) = AreTextsOf r all gs answers
IsToldOf r all (CutText w g answer) = IsCutTextOf r all w g answer

-- ---- by which frames it is told

-- a greeting where one was asked for, or one byte
abbrev pub TellsNothing : GenerationsRule → ℕ → Request → List (List ℕ) → Type 0
TellsNothing r seat request frames = ((number : ℕ) × (frames ≡ refusal number)) ⊎ ((request ≡ Hello) × (frames ≡ hello_body r seat ∷ []))

-- the frames of a reply to a request tell this
abbrev pub Tells : GenerationsRule → ℕ → Request → Telling → List (List ℕ) → Type 0
Tells r seat request Nothing frames = TellsNothing r seat request frames
Tells r seat Poll (Edits edits) frames = (length edits ≤ most_edits) × (frames ≡ edits_frames r edits)
Tells r seat Poll (Plane map) frames = (text : List ℕ) × IsStateText r map text × (frames ≡ whole_frames text)
-- one that waits tells what a poll does
Tells r seat (Await milliseconds) (Edits edits) frames = (length edits ≤ most_edits) × (frames ≡ edits_frames r edits)
Tells r seat (Await milliseconds) (Plane map) frames = (text : List ℕ) × IsStateText r map text × (frames ≡ whole_frames text)
Tells r seat Pieces (Counted map count) frames = (text : List ℕ) × (pieces : List (List ℕ)) × IsStateText r map text × IsInPieces text pieces × (frames ≡ pieces_reply count pieces)
Tells r seat Whole (Plane map) frames = (text : List ℕ) × IsStateText r map text × (frames ≡ text_body text ∷ [])
Tells r seat (Export g) (Texts gs answers) frames = (gs ≡ g ∷ []) × (frames ≡ map export_body answers)
Tells r seat (Cut w g) (CutText v n answer) frames = (v ≡ w) × (n ≡ g) × (frames ≡ export_body answer ∷ [])
Tells r seat (Many asked) (Texts gs answers) frames = (gs ≡ asked) × (frames ≡ (0 ∷ to_be_bytes w16 (length gs)) ∷ map export_body answers)
Tells r seat request told frames = ⊥

-- ---- edits that were pushed

-- an edit was pushed, and answered 0
pub record IsAccepted (r : GenerationsRule) (x : Exchange) (e : PlaneEdit) : Type 0 where
  pub text : List ℕ
  pub push : request_of x.request ≡ Push text
  pub edit : pushed_of r text ≡ Ok e
  pub answer : frames_of x.reply ≡ done

-- each edit that was pushed and answered 0 is one of these
abbrev pub HasAccepted : GenerationsRule → List PlaneEdit → List Exchange → Type 0
HasAccepted r edits [] = ⊤
HasAccepted r edits (x ∷ xs) = ((e : PlaneEdit) → IsAccepted r x e → (at : ℕ) × (slice_get edits at ≡ Some e)) × HasAccepted r edits xs

-- a request for what was not handed out yet: a poll, one that waits, or one for the plane in pieces
abbrev pub IsForNews : Request → Type 0
IsForNews Poll = ⊤
IsForNews (Await milliseconds) = ⊤
IsForNews Pieces = ⊤
IsForNews _ = ⊥

-- the first of these exchanges is such a request, which wanted memory for its reply
abbrev pub BeginsWithWant : List Exchange → Type 0
BeginsWithWant [] = ⊥
BeginsWithWant (x ∷ xs) = IsForNews (request_of x.request) × (frames_of x.reply ≡ refusal 255)

-- ---- sessions

-- Behind earlier exchanges of its session, what is replied tells of the beginning of a list. That has each edit that was
-- pushed and answered 0 before; or, where a whole plane is told for which an earlier request wanted memory, before that request.
pub record IsToldBehind (r : GenerationsRule) (seat : ℕ) (list : List Entry) (earlier : List Exchange) (x : Exchange) : Type 0 where
  pub told : Telling
  pub tells : Tells r seat (request_of x.request) told (frames_of x.reply)
  pub seen : List Entry
  pub published : IsPrefix seen list
  pub of : IsToldOf r (edits_of seen) told
  pub counted : List Exchange
  pub later : List Exchange
  pub parts : earlier ≡ counted ++ later
  pub why : (later ≡ []) ⊎ BeginsWithWant later
  pub has : HasAccepted r (edits_of seen) counted

-- so it is of each of these exchanges
abbrev pub AreToldBehind : GenerationsRule → ℕ → List Entry → List Exchange → List Exchange → Type 0
AreToldBehind r seat list earlier [] = ⊤
AreToldBehind r seat list earlier (x ∷ xs) = IsToldBehind r seat list earlier x × AreToldBehind r seat list (earlier ++ x ∷ []) xs

-- The requests in the bytes that a session pulled were answered, their replies pushed, up to the end of the session; and
-- all that was replied is told of the one list.
pub record IsToldVisit (r : GenerationsRule) (seat : ℕ) (list : List Entry) (v : VisitValue) : Type 0 where
  pub pulled : List ℕ
  pub exchanges : List Exchange
  pub left : List ℕ
  pub bytes : Consumes v.source.left v.source'.left pulled
  pub cut : IsTakenTo pulled (requests_of exchanges) left
  pub ends : EndsAs (2 ^ 32) v.source v.source' v.from v.to exchanges left v.end
  pub told : AreToldBehind r seat list [] exchanges
  -- and in the end the list has each edit that was pushed and answered 0
  pub has : HasAccepted r (edits_of list) exchanges

abbrev pub AreToldVisits : GenerationsRule → ℕ → List Entry → List VisitValue → Type 0
AreToldVisits r seat list [] = ⊤
AreToldVisits r seat list (v ∷ visits) = IsToldVisit r seat list v × AreToldVisits r seat list visits

-- the sessions of all seats
abbrev pub AreToldSeats : List Entry → List Seating → List (List VisitValue) → Type 0
AreToldSeats list [] [] = ⊤
AreToldSeats list (s ∷ seats) (visits ∷ all) = AreToldVisits (rule_of s) (number_of s) list visits × AreToldSeats list seats all
AreToldSeats list _ _ = ⊥

-- none was handed more than it has seen
abbrev pub HaveSeenHanded : List Seating → Type 0
HaveSeenHanded [] = ⊤
HaveSeenHanded (s ∷ seats) = (s.handed ≤ length s.seen) × HaveSeenHanded seats

-- Whatever the clients of a served board are told, on any connection, is of the beginning of one list; how long that is in
-- the end, the account says.
pub record IsToldOfOneList (seats : List Seating) (visits : List (List VisitValue)) (f : FinishedValue) : Type 0 where
  pub long : f.account.before + length f.account.published ≡ length (list_of f.account.front)
  pub told : AreToldSeats (list_of f.account.front) seats visits

abbrev pub TellsOfOneList : Type 0
TellsOfOneList = (board : Origin) (seats : List Seating) (f : FinishedValue) → HaveSeenHanded seats → (s : IsServed board seats f) → IsToldOfOneList seats s.served.visits f
