-- The replies of a session: the bodies of its frames.
use Rattle.std.specs.Prelude.{◌≡◌, ◌≢◌, ◌⊎◌, ℕ, ◌+◌, ◌-◌, ◌^◌, nat_le, nat_lt, if◌then◌else◌, List, [], ◌∷◌, ◌++◌, map, length, take, drop, Option, Some, None, Result, Ok, Err}
use Rattle.std.specs.Int.{w16, w32, w64, to_be_bytes}
use Rattle.square_store.specs.Limits.{usual_room}
use Rattle.generations_rule.specs.Refusal.{◌>>=◌}
use Rattle.generations_rule.specs.Rule.{GenerationsRule}
use Rattle.generations_rule.specs.RuleText.{text_of}
use Rattle.edit_stamps.specs.Edit.{PlaneEdit}
use Rattle.stamped_tree.specs.Plane.{StampedPlane, map_of}
use Rattle.export.specs.declared.fault.ExportFault.{ExportFault}
use Rattle.export.specs.ExportFault.{export_fault_number}
use Rattle.export.specs.Asking.{IsCut, IsCutRefused}
use Rattle.export.specs.Export.{most_cells}
use Rattle.generation_engine.specs.Universe.{states_in_writes}
use Rattle.pattern_cells.specs.declared.window.Window.{Window}
use Rattle.export_workers.specs.Exports.{AreExportAnswers, IsExportAnswer, TellsRoom}
use Rattle.delta_exchange.specs.declared.fault.ReadFault.{ReadFault}
use Rattle.delta_exchange.specs.Fault.{read_fault_number}
use Rattle.message_frames.specs.Frames.{most_body}
use Rattle.delta_exchange.specs.MessageReading.{Told, ToldEdits, ToldMap, message_of, MayWantRoom}
use Rattle.delta_exchange.specs.Spelling.{delta_text}
use Rattle.delta_exchange.specs.Room.{IsMapTooLargeFor}
use Rattle.delta_exchange.specs.State.{IsTellableMap}
use Rattle.delta_exchange.specs.StateText.{IsStateText}
use Rattle.delta_exchange.specs.Versions.{IsReadableStateText}
use Rattle.stamped_writes.specs.Write.{Writes}
use Rattle.poll_news.specs.declared.news.News.{News}
use Rattle.poll_news.specs.declared.news.News.TheVariants as news
use Rattle.session_hub.specs.HubFault.{hub_fault_number}
use Rattle.session_hub.specs.HubCall.{HubCall, Pushes, Polls, Shows, Hands}
use Rattle.session_hub.specs.Request.{Request, Hello, Push, Poll, Whole, Export, Cut, Bye, Many, Await, Pieces, Faulty}

-- what is kept of what the hub handed out where the reply found no memory: edits in order, or a whole plane
pub record Kept : Type 0 where
  pub edits : List PlaneEdit
  pub plane : Option StampedPlane

abbrev pub nothing_kept : Kept
nothing_kept = record { edits = []; plane = None }

-- newer edits stand behind older ones
abbrev pub with_edits : Kept → List PlaneEdit → Kept
with_edits kept edits = record { edits = kept.edits ++ edits; plane = None }

-- a whole plane stands in the place of edits
abbrev pub with_plane : StampedPlane → Kept
with_plane plane = record { edits = []; plane = Some plane }

-- ---- bodies

-- one frame with one byte
abbrev pub refusal : ℕ → List (List ℕ)
refusal number = (number ∷ []) ∷ []

-- done, and nothing to tell
abbrev pub done : List (List ℕ)
done = refusal 0

abbrev pub hello_body : GenerationsRule → ℕ → List ℕ
hello_body r seat = 0 ∷ (to_be_bytes w16 seat ++ length (text_of r) ∷ text_of r)

-- a text behind a 0, unless it is too long for a frame
abbrev pub text_body : List ℕ → List ℕ
text_body text = if nat_le (length text + 1) most_body then 0 ∷ text else 21 ∷ []

-- ---- pushes

-- the edit of a message of just one; else it is no request
abbrev pub one_edit : Told → Result PlaneEdit ℕ
one_edit (ToldEdits (e ∷ [])) = Ok e
one_edit (ToldEdits []) = Err 33
one_edit (ToldEdits (e ∷ f ∷ edits)) = Err 33
one_edit (ToldMap tree) = Err 33

-- what was read, or the number of the fault
abbrev pub numbered : Result Told ReadFault → Result Told ℕ
numbered (Ok told) = Ok told
numbered (Err fault) = Err (read_fault_number fault)

-- the edit of a pushed text, or the number of its refusal
abbrev pub pushed_of : GenerationsRule → List ℕ → Result PlaneEdit ℕ
pushed_of r text = numbered (message_of r text) >>= one_edit

-- a text of one edit is pushed, and the hub's refusal is replied; another text is refused without a call
abbrev pub IsPushReply : GenerationsRule → List ℕ → Option HubCall → List (List ℕ) → Type 0
IsPushReply r text None out = (number : ℕ) × (pushed_of r text ≡ Err number) × (out ≡ refusal number)
IsPushReply r text (Some (Pushes e (Ok done_))) out = (pushed_of r text ≡ Ok e) × (out ≡ done)
IsPushReply r text (Some (Pushes e (Err fault))) out = (pushed_of r text ≡ Ok e) × (out ≡ refusal (hub_fault_number fault))
IsPushReply r text _ out = ⊥

-- ---- polls

-- the most edits of a reply; one more would be the mark of a whole plane
abbrev pub most_edits : ℕ
most_edits = 2 ^ 32 - 2

abbrev pub whole_mark : ℕ
whole_mark = 2 ^ 32 - 1

-- how many edits, and each in a frame of its own
abbrev pub edits_frames : GenerationsRule → List PlaneEdit → List (List ℕ)
edits_frames r edits = (0 ∷ to_be_bytes w32 (length edits)) ∷ map (λ e. delta_text r (e ∷ [])) edits

-- edits handed out, unless they are too many for a reply
abbrev pub edits_reply : GenerationsRule → List PlaneEdit → List (List ℕ)
edits_reply r edits = if nat_le (length edits) most_edits then edits_frames r edits else refusal 21

-- which are then kept
abbrev pub edits_left : List PlaneEdit → Kept
edits_left edits = if nat_le (length edits) most_edits then nothing_kept else record { edits = edits; plane = None }

-- the mark and the state text, unless that is too long for a frame
abbrev pub whole_frames : List ℕ → List (List ℕ)
whole_frames text = if nat_le (length text) most_body then (0 ∷ to_be_bytes w32 whole_mark) ∷ text ∷ [] else refusal 21

-- a whole plane handed out
pub record IsWholeReply (r : GenerationsRule) (p : StampedPlane) (out : List (List ℕ)) : Type 0 where
  pub text : List ℕ
  pub is_text : IsStateText r (map_of p) text
  pub frames : out ≡ whole_frames text

-- what a poll without a kept plane replies, and what is kept then
abbrev pub IsPollReply : GenerationsRule → Kept → Option HubCall → List (List ℕ) → Kept → Type 0
IsPollReply r kept (Some (Polls (Ok (news.Edits edits)))) out left = (out ≡ edits_reply r (kept.edits ++ edits)) × (left ≡ edits_left (kept.edits ++ edits))
IsPollReply r kept (Some (Polls (Ok (news.Whole plane count)))) out left = IsWholeReply r plane out × (left ≡ nothing_kept)
IsPollReply r kept (Some (Polls (Err fault))) out left = (out ≡ refusal (hub_fault_number fault)) × (left ≡ kept)
IsPollReply r kept _ out left = ⊥

-- a kept plane is the reply, without a call
abbrev pub IsKeptReply : GenerationsRule → Kept → Option StampedPlane → Option HubCall → List (List ℕ) → Kept → Type 0
IsKeptReply r kept None call out left = IsPollReply r kept call out left
IsKeptReply r kept (Some plane) None out left = IsWholeReply r plane out × (left ≡ nothing_kept)
IsKeptReply r kept (Some plane) (Some call) out left = ⊥

-- ---- pieces

-- a text in pieces, in order: each is as long as a frame may be, but for the last, and none is empty
abbrev pub IsInPieces : List ℕ → List (List ℕ) → Type 0
IsInPieces text [] = text ≡ []
IsInPieces text (piece ∷ pieces) = (piece ≢ []) × (piece ≡ take most_body text) × IsInPieces (drop most_body text) pieces

-- of how many edits the plane is, how many pieces follow, and each in a frame of its own
abbrev pub pieces_frames : ℕ → List (List ℕ) → List (List ℕ)
pieces_frames count pieces = (0 ∷ (to_be_bytes w64 count ++ to_be_bytes w32 (length pieces))) ∷ pieces

-- unless they are too many for a reply
abbrev pub pieces_reply : ℕ → List (List ℕ) → List (List ℕ)
pieces_reply count pieces = if nat_lt (length pieces) (2 ^ 32) then pieces_frames count pieces else refusal 21

-- a whole plane handed out in pieces
pub record IsInPiecesReply (r : GenerationsRule) (p : StampedPlane) (count : ℕ) (out : List (List ℕ)) : Type 0 where
  pub text : List ℕ
  pub is_text : IsStateText r (map_of p) text
  pub pieces : List (List ℕ)
  pub cut : IsInPieces text pieces
  pub frames : out ≡ pieces_reply count pieces

-- what is replied to who asks for the plane in pieces, and what is kept then: what was kept is of that plane too
abbrev pub IsPiecesReply : GenerationsRule → Kept → Option HubCall → List (List ℕ) → Kept → Type 0
IsPiecesReply r kept (Some (Hands (Ok given))) out left = IsInPiecesReply r given.0 given.1 out × (left ≡ nothing_kept)
IsPiecesReply r kept (Some (Hands (Err fault))) out left = (out ≡ refusal (hub_fault_number fault)) × (left ≡ kept)
IsPiecesReply r kept _ out left = ⊥

-- ---- planes and exports

-- the state text of the hub's plane
pub record IsPlaneReply (r : GenerationsRule) (p : StampedPlane) (out : List (List ℕ)) : Type 0 where
  pub text : List ℕ
  pub is_text : IsStateText r (map_of p) text
  pub frames : out ≡ text_body text ∷ []

-- an export as a body
abbrev pub export_body : Result (List ℕ) ExportFault → List ℕ
export_body (Ok text) = text_body text
export_body (Err fault) = export_fault_number fault ∷ []

-- one export
pub record IsExportReply (r : GenerationsRule) (p : StampedPlane) (g : ℕ) (out : List (List ℕ)) : Type 0 where
  pub answer : Result (List ℕ) ExportFault
  pub is_export : IsExportAnswer r p g answer
  pub frames : out ≡ export_body answer ∷ []

-- the answer of a cut of a plane: its text, its refusal, or a want
abbrev pub IsCutAnswer : GenerationsRule → StampedPlane → Window → ℕ → Result (List ℕ) ExportFault → Type 0
IsCutAnswer r p w g (Ok text) = IsCut r (states_in_writes (map_of p)) w g most_cells (Ok text)
IsCutAnswer r p w g (Err fault) = IsCutRefused r (states_in_writes (map_of p)) w g most_cells fault × TellsRoom r p g fault

-- one cut
pub record IsCutReply (r : GenerationsRule) (p : StampedPlane) (w : Window) (g : ℕ) (out : List (List ℕ)) : Type 0 where
  pub answer : Result (List ℕ) ExportFault
  pub is_cut : IsCutAnswer r p w g answer
  pub frames : out ≡ export_body answer ∷ []

-- how many exports, and each in a frame of its own
pub record AreExportReplies (r : GenerationsRule) (p : StampedPlane) (gs : List ℕ) (out : List (List ℕ)) : Type 0 where
  pub answers : List (Result (List ℕ) ExportFault)
  pub are_exports : AreExportAnswers r p gs answers
  pub frames : out ≡ (0 ∷ to_be_bytes w16 (length gs)) ∷ map export_body answers

-- what is replied of a plane
abbrev pub IsReplyOf : GenerationsRule → Request → StampedPlane → List (List ℕ) → Type 0
IsReplyOf r Whole p out = IsPlaneReply r p out
IsReplyOf r (Export g) p out = IsExportReply r p g out
IsReplyOf r (Cut w g) p out = IsCutReply r p w g out
IsReplyOf r (Many gs) p out = AreExportReplies r p gs out
IsReplyOf r _ p out = ⊥

-- a request that needs the hub's plane
abbrev pub IsShownReply : GenerationsRule → Request → Option HubCall → List (List ℕ) → Type 0
IsShownReply r request (Some (Shows (Ok p))) out = IsReplyOf r request p out
IsShownReply r request (Some (Shows (Err fault))) out = out ≡ refusal (hub_fault_number fault)
IsShownReply r request _ out = ⊥

-- ---- replies

-- The reply to a request of the hub of a rule and a seat, with what is kept before and after, and the call that was made
-- with its answer. A request that needs no call has none; a pair that is not named here is no reply.
abbrev pub IsReply : GenerationsRule → ℕ → Kept → Request → Option HubCall → List (List ℕ) → Kept → Type 0
IsReply r seat kept Faulty None out left = (out ≡ refusal 33) × (left ≡ kept)
IsReply r seat kept Hello None out left = (out ≡ hello_body r seat ∷ []) × (left ≡ kept)
IsReply r seat kept Bye None out left = (out ≡ done) × (left ≡ kept)
IsReply r seat kept (Push text) call out left = IsPushReply r text call out × (left ≡ kept)
IsReply r seat kept Poll call out left = IsKeptReply r kept kept.plane call out left
IsReply r seat kept (Await milliseconds) call out left = IsKeptReply r kept kept.plane call out left
IsReply r seat kept Pieces call out left = IsPiecesReply r kept call out left
IsReply r seat kept Whole call out left = IsShownReply r Whole call out × (left ≡ kept)
IsReply r seat kept (Export g) call out left = IsShownReply r (Export g) call out × (left ≡ kept)
IsReply r seat kept (Cut w g) call out left = IsShownReply r (Cut w g) call out × (left ≡ kept)
IsReply r seat kept (Many gs) call out left = IsShownReply r (Many gs) call out × (left ≡ kept)
IsReply r seat kept _ _ out left = ⊥

-- ---- wants

-- what is kept where a poll's answer found no memory for its reply
abbrev pub KeepsNews : Kept → News → Kept → Type 0
KeepsNews kept (news.Edits edits) left = left ≡ with_edits kept edits
KeepsNews kept (news.Whole plane count) left = left ≡ with_plane plane

-- Which replies may be a want, and what is kept then. An edit that a hub took is never answered so.
abbrev pub KeepsAll : Kept → Request → Option HubCall → Kept → Type 0
KeepsAll kept Hello None left = left ≡ kept
KeepsAll kept (Push text) None left = left ≡ kept
KeepsAll kept Poll None left = left ≡ kept
KeepsAll kept Poll (Some (Polls (Ok given))) left = (kept.plane ≡ None) × KeepsNews kept given left
KeepsAll kept (Await milliseconds) None left = left ≡ kept
KeepsAll kept (Await milliseconds) (Some (Polls (Ok given))) left = (kept.plane ≡ None) × KeepsNews kept given left
KeepsAll kept Pieces (Some (Hands (Ok given))) left = left ≡ with_plane given.0
KeepsAll kept Whole (Some (Shows (Ok p))) left = left ≡ kept
KeepsAll kept (Export g) (Some (Shows (Ok p))) left = left ≡ kept
KeepsAll kept (Cut w g) (Some (Shows (Ok p))) left = left ≡ kept
KeepsAll kept (Many gs) None left = left ≡ kept
KeepsAll kept (Many gs) (Some (Shows (Ok p))) left = left ≡ kept
KeepsAll kept _ _ left = ⊥

-- a pushed text that begins as a state, is not short, and is of no map that fits into 2^26 squares
pub record IsTooLargePush (r : GenerationsRule) (text : List ℕ) : Type 0 where
  pub room : MayWantRoom usual_room text
  pub large : (meant : Writes) → IsTellableMap r.states meant → IsReadableStateText r meant text → IsMapTooLargeFor usual_room meant

-- the want itself: of memory; or of room, for a pushed state
abbrev pub IsWanting : GenerationsRule → Request → List (List ℕ) → Type 0
IsWanting r (Push text) out = (out ≡ refusal 255) ⊎ ((out ≡ refusal 13) × IsTooLargePush r text)
IsWanting r _ out = out ≡ refusal 255

-- a reply, or a want
abbrev pub RepliesOrWants : GenerationsRule → ℕ → Kept → Request → Option HubCall → List (List ℕ) → Kept → Type 0
RepliesOrWants r seat kept request call out left = IsReply r seat kept request call out left ⊎ (IsWanting r request out × KeepsAll kept request call left)
