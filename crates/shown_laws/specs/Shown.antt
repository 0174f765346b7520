-- What the clients of a served board show is of edits of its one list.
use Rattle.std.specs.Prelude.{◌≡◌, ◌⊎◌, ℕ, List, [], Ok}
use Rattle.std.specs.List.{Contains}
use mathlib.Core.List.{IsPrefix}
use Rattle.generations_rule.specs.Rule.{GenerationsRule, IsRule}
use Rattle.edit_stamps.specs.Edit.{PlaneEdit}
use Rattle.message_frames.specs.Frames.{stream_of}
use Rattle.frame_service.specs.Exchanges.{pushed_of}
use Rattle.board.specs.declared.entry.Entry.{Entry}
use Rattle.board.specs.Entries.{edits_of}
use Rattle.replica_core.specs.Exporting.{IsExportOf}
use Rattle.replica_core.specs.Peers.{HoldsEdits}
use Rattle.replica_core.specs.Replica.{ReplicaState}
use Rattle.replica_core.specs.World.{IsEditUnder}
use Rattle.board_client.specs.declared.publishing.Drawing.TheVariants.{Drawn, Unpublished}
use Rattle.board_client.specs.declared.publishing.Saying.TheVariants.{Said}
use Rattle.board_client.specs.declared.polling.Polling.{Polling}
use Rattle.board_client.specs.declared.polling.Polling.TheVariants as polls
use Rattle.board_client.specs.declared.pushing.Pushing.{Pushing}
use Rattle.client_protocol.specs.declared.greeting.Greeting.TheVariants.{Seat}
use Rattle.board_client.specs.Client.{LineState, IsTalk}
use Rattle.board_client.specs.Drawing.{IsPublishing, IsPublishingEnd}
use Rattle.board_client.specs.Greeting.{IsGreeting, IsLeaving}
use Rattle.board_client.specs.Hearing.{IsSaidOrWanting}
use Rattle.board_client.specs.Pieces.{IsPieces}
use Rattle.board_client.specs.Polling.{IsFallenBack, IsNewsHeard, IsPoll, IsReplyTaken}
use Rattle.board_client.specs.Pushed.{PushedEdit}
use Rattle.board_client.specs.Pushing.{IsAnswering}
use Rattle.board_client.specs.Saying.{SaysPush}
use Rattle.seat_server.specs.OneList.{IsTextOf, IsToldVisit}
use Rattle.seat_server.specs.Sessions.{VisitValue}
use Rattle.shown_laws.specs.Turns.{AreTurns, Asking, Await, Farewell, Poll, Push, Turn, heard_by, request_in, said_by}

-- ---- what clients do is turns

-- turns that were said and heard on a line
pub record AreTurnsOn (r : GenerationsRule) (a b : LineState) (old new : ReplicaState) : Type 0 where
  pub turns : List Turn
  pub talk : IsTalk a b (said_by r turns) (heard_by turns)
  pub turned : AreTurns r turns old new

-- a poll, waiting or not
abbrev pub IsPollRequest : Asking → Type 0
IsPollRequest Poll = Unit {0}
IsPollRequest (Await milliseconds) = Unit {0}
IsPollRequest asking = ⊥

-- a request was said, and nothing heard
abbrev pub IsSaidAlone : GenerationsRule → Asking → LineState → LineState → Type 0
IsSaidAlone r (Push e) a b = (pushed : PushedEdit) × SaysPush r (Ok e) a b (Ok (Said pushed))
IsSaidAlone r asking a b = IsSaidOrWanting {A = Unit {0}} (request_in r asking) a b (Ok tt)

-- a poll was said, another request behind it, and then the reply to the poll was heard, and taken
pub record IsHeardBefore (r : GenerationsRule) (poll asking : Asking) (a b : LineState) (old new : ReplicaState) : Type 0 where
  pub news : IsPollRequest poll
  pub first : LineState
  pub polled : IsSaidAlone r poll a first
  pub second : LineState
  pub asked : IsSaidAlone r asking first second
  pub polling : Polling
  pub heard : IsReplyTaken [] second b old new (Ok polling)

-- a request was said, and the reply to it comes next: it was said alone; or behind a poll, whose reply was heard
abbrev pub IsDue : GenerationsRule → Asking → LineState → LineState → ReplicaState → ReplicaState → Type 0
IsDue r asking a b old new = (IsSaidAlone r asking a b × (new ≡ old)) ⊎ ((poll : Asking) × IsHeardBefore r poll asking a b old new)

-- Greeting, polling, drawing and leaving, where they end well, are turns, and turns behind turns are turns. So is what a client does
-- from its first request on. It may say a request first, and hear the reply later; and say one while a poll is open. The answer to a
-- push may be heard so late that the edit is left to a poll.
pub record AreTurnsOfClients : Type 0 where
  pub nothing : (r : GenerationsRule) (a : LineState) (s : ReplicaState) → AreTurnsOn r a a s s
  pub onwards : (r : GenerationsRule) (a b c : LineState) (old mid new : ReplicaState) → AreTurnsOn r a b old mid → AreTurnsOn r b c mid new → AreTurnsOn r a c old new
  pub greeting : (r rule : GenerationsRule) (number : ℕ) (a b : LineState) (s : ReplicaState) → IsGreeting a b (Ok (Seat number rule)) → AreTurnsOn r a b s s
  pub edits : (r : GenerationsRule) (count : ℕ) (a b : LineState) (old new : ReplicaState) → IsPoll a b old new (Ok (polls.Edits count)) → AreTurnsOn r a b old new
  pub plane : (r : GenerationsRule) (a b : LineState) (old new : ReplicaState) → IsPoll a b old new (Ok polls.Whole) → AreTurnsOn r a b old new
  pub refused : (r : GenerationsRule) (number : ℕ) (a b : LineState) (old new : ReplicaState) → IsPoll a b old new (Ok (polls.Refused number)) → AreTurnsOn r a b old new
  pub drawn : (r : GenerationsRule) (counter : ℕ) (e : PlaneEdit) (a b : LineState) (old new : ReplicaState) → old.rule ≡ r → IsEditUnder r e → IsPublishing e a b old new (Ok (Drawn counter)) → AreTurnsOn r a b old new
  pub unpublished : (r : GenerationsRule) (number : ℕ) (e : PlaneEdit) (a b : LineState) (old new : ReplicaState) → old.rule ≡ r → IsEditUnder r e → IsPublishing e a b old new (Ok (Unpublished number)) → AreTurnsOn r a b old new
  pub pieces : (r : GenerationsRule) (polling : Polling) (a b : LineState) (old new : ReplicaState) → IsPieces a b old new (Ok polling) → AreTurnsOn r a b old new
  pub fallen_back : (r : GenerationsRule) (polling : Polling) (a b : LineState) (old new : ReplicaState) → IsFallenBack a b old new (Ok polling) → AreTurnsOn r a b old new
  pub leaving : (r : GenerationsRule) (pushing : Pushing) (a b : LineState) (s : ReplicaState) → IsLeaving a b (Ok pushing) → AreTurnsOn r a b s s
  pub news_due : (r : GenerationsRule) (asking : Asking) (polling : Polling) (a mid b : LineState) (old between new : ReplicaState) → IsPollRequest asking → IsDue r asking a mid old between
      → IsNewsHeard [] mid b between new (Ok polling) → AreTurnsOn r a b old new
  pub drawn_due : (r : GenerationsRule) (counter : ℕ) (e : PlaneEdit) (a mid b : LineState) (old between new : ReplicaState) → old.rule ≡ r → IsEditUnder r e → IsDue r (Push e) a mid old between
      → IsPublishingEnd e mid b between new (Ok (Drawn counter)) → AreTurnsOn r a b old new
  pub unpublished_due : (r : GenerationsRule) (number : ℕ) (e : PlaneEdit) (a mid b : LineState) (old between new : ReplicaState) → old.rule ≡ r → IsEditUnder r e → IsDue r (Push e) a mid old between
      → IsPublishingEnd e mid b between new (Ok (Unpublished number)) → AreTurnsOn r a b old new
  pub answered_late : (r : GenerationsRule) (pushing : Pushing) (e : PlaneEdit) (a mid b : LineState) (old new : ReplicaState) → IsEditUnder r e → IsDue r (Push e) a mid old new → IsAnswering [] mid b (Ok pushing)
      → AreTurnsOn r a b old new
  pub left_due : (r : GenerationsRule) (pushing : Pushing) (a mid b : LineState) (old new : ReplicaState) → IsDue r Farewell a mid old new → IsAnswering [] mid b (Ok pushing) → AreTurnsOn r a b old new

-- ---- one line

-- Nothing was heard on the client's line before. What the session pulled was said by the client, and what the client heard was pushed
-- by the session; neither need have come to its end.
pub record IsOneLine {r : GenerationsRule} {seat : ℕ} {list : List Entry} {v : VisitValue} (visit : IsToldVisit r seat list v) {a b : LineState} {said heard : List (List ℕ)} (talk : IsTalk a b said heard) : Type 0 where
  pub fresh : a.frames.pending ≡ []
  pub said_first : IsPrefix visit.pulled (stream_of said)
  pub heard_first : IsPrefix talk.pulled (stream_of (pushed_of visit.exchanges))

-- ---- what is shown

-- A replica of a rule holds edits that are all of a list, so that at each place it shows the greatest-stamped write of those; and what
-- it exports is what the rule, applied cell by cell, makes of them.
pub record ShowsOf (r : GenerationsRule) (all : List PlaneEdit) (s : ReplicaState) : Type 0 where
  pub edits : List PlaneEdit
  pub of : (e : PlaneEdit) → Contains edits e → Contains all e
  pub holds : HoldsEdits r edits s
  pub exports : (g : ℕ) (text : List ℕ) → IsExportOf s g (Ok text) → IsTextOf r edits g (Ok text)

-- Over the line of a session whose client is told of one list, a client's replica that held nothing holds edits of that list alone,
-- whatever it asked for and heard.
abbrev pub ShowsOfOneList : Type 0
ShowsOfOneList = (r : GenerationsRule) (seat : ℕ) (list : List Entry) (v : VisitValue) (visit : IsToldVisit r seat list v) (a b : LineState) (old new : ReplicaState)
    → IsRule r → ((e : PlaneEdit) → Contains (edits_of list) e → IsEditUnder r e) → HoldsEdits r [] old → (turned : AreTurnsOn r a b old new) → IsOneLine visit turned.talk
    → ShowsOf r (edits_of list) new
