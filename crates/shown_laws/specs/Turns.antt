-- What a client asks of a board and hears, one request after another, and what its replica holds then.
use Rattle.std.specs.Prelude.{◌≡◌, ℕ, ◌<◌, ◌≤◌, ◌^◌, List, [], ◌∷◌, length, map, flat_map, Ok}
use Rattle.generations_rule.specs.Rule.{GenerationsRule}
use Rattle.edit_stamps.specs.Edit.{PlaneEdit}
use Rattle.client_protocol.specs.Spelling.{pieced_body, polled_body}
use Rattle.session_hub.specs.Replies.{most_edits, whole_mark}
use Rattle.replica_core.specs.Exchange.{IsTakingOf}
use Rattle.replica_core.specs.Replica.{ReplicaState}
use Rattle.replica_core.specs.World.{IsEditUnder}
use Rattle.board_client.specs.Awaiting.{await_request}
use Rattle.board_client.specs.Drawing.{IsEditAlone, push_bytes}
use Rattle.board_client.specs.Greeting.{bye_request, hello_request}
use Rattle.board_client.specs.Hearing.{AreTaken, IsTaken}
use Rattle.board_client.specs.Pieces.{pieces_request}
use Rattle.board_client.specs.Polling.{poll_request}

-- what a client asks for
pub data Asking : Type 0 where
  Greeting : Asking
  Poll : Asking
  -- the same, but that the reply waits for news, for so many milliseconds at most
  Await : (milliseconds : ℕ) → Asking
  -- the whole plane, in pieces
  Pieces : Asking
  -- that an edit be published
  Push : (edit : PlaneEdit) → Asking
  Farewell : Asking

-- what it hears for that
pub data Hearing : Type 0 where
  -- the number of a refusal
  Refused : (number : ℕ) → Hearing
  -- one body, which offers a seat
  Offered : (body : List ℕ) → Hearing
  -- so many texts of edits
  Edits : (texts : List (List ℕ)) → Hearing
  -- the text of a whole plane
  Plane : (text : List ℕ) → Hearing
  -- of how many edits a whole plane is, and its text in pieces
  Pieced : (count : ℕ) (pieces : List (List ℕ)) → Hearing
  Done : Hearing
  -- that an edit's push is done, too late for the replica to take the edit, which comes with a poll
  Late : Hearing

pub record Turn : Type 0 where
  pub asking : Asking
  pub hearing : Hearing

-- ---- the bodies

abbrev pub request_in : GenerationsRule → Asking → List ℕ
request_in r Greeting = hello_request
request_in r Poll = poll_request
request_in r (Await milliseconds) = await_request milliseconds
request_in r Pieces = pieces_request
request_in r (Push e) = push_bytes r e
request_in r Farewell = bye_request

abbrev pub heard_in : Hearing → List (List ℕ)
heard_in (Refused number) = (number ∷ []) ∷ []
heard_in (Offered body) = body ∷ []
heard_in (Edits texts) = polled_body (length texts) ∷ texts
heard_in (Plane text) = polled_body whole_mark ∷ text ∷ []
heard_in (Pieced count pieces) = pieced_body count (length pieces) ∷ pieces
heard_in Done = (0 ∷ []) ∷ []
heard_in Late = (0 ∷ []) ∷ []

-- the bodies that are said, and those that are heard
abbrev pub said_by : GenerationsRule → List Turn → List (List ℕ)
said_by r turns = map (λ (t : Turn). request_in r t.asking) turns

abbrev pub heard_by : List Turn → List (List ℕ)
heard_by turns = flat_map (λ (t : Turn). heard_in t.hearing) turns

-- ---- the replica

-- the text that pieces are, put together in order
abbrev pub put_together : List (List ℕ) → List ℕ
put_together pieces = flat_map (λ (piece : List ℕ). piece) pieces

-- What a turn does to the replica: it takes what a poll brought, waiting or not, and a plane in pieces as the text that they are
-- together; and an edit whose push is done. A pair that is not named is no turn.
abbrev pub IsTurn : GenerationsRule → Asking → Hearing → ReplicaState → ReplicaState → Type 0
IsTurn r asking (Refused number) old new = (0 < number) × (new ≡ old)
IsTurn r Greeting (Offered body) old new = new ≡ old
IsTurn r Poll (Edits texts) old new = (length texts ≤ most_edits) × AreTaken old texts new
IsTurn r Poll (Plane text) old new = IsTaken old text new
IsTurn r (Await milliseconds) (Edits texts) old new = (length texts ≤ most_edits) × AreTaken old texts new
IsTurn r (Await milliseconds) (Plane text) old new = IsTaken old text new
IsTurn r Pieces (Pieced count pieces) old new = (length pieces < 2 ^ 32) × IsTaken old (put_together pieces) new
IsTurn r (Push e) Done old new = IsTakingOf {A = Unit {0}} old new (IsEditAlone e) (Ok tt)
IsTurn r (Push e) Late old new = new ≡ old
IsTurn r Farewell Done old new = new ≡ old
IsTurn r asking hearing old new = ⊥

-- each edit that is pushed is one of the rule
abbrev pub IsAskable : GenerationsRule → Asking → Type 0
IsAskable r (Push e) = IsEditUnder r e
IsAskable r asking = Unit {0}

-- turns one after another
abbrev pub AreTurns : GenerationsRule → List Turn → ReplicaState → ReplicaState → Type 0
AreTurns r [] old new = new ≡ old
AreTurns r (t ∷ turns) old new = IsAskable r t.asking × ((next : ReplicaState) × IsTurn r t.asking t.hearing old next × AreTurns r turns next new)
