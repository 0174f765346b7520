-- A plane in pieces.
use Rattle.std.specs.Prelude.{◌≡◌, ◌⊎◌, ℕ, ◌<◌, ◌≤◌, ◌^◌, List, [], ◌∷◌, length, Result, Ok, Err}
use Rattle.client_protocol.specs.Spelling.{SpellsPieced, pieced_body}
use Rattle.client_protocol.specs.declared.pieced.Pieced.TheVariants as pieced
use Rattle.frame_line.specs.declared.fault.LineFault.{LineFault}
use Rattle.frame_line.specs.Receiving.{bytes_in}
use Rattle.replica_core.specs.Replica.{ReplicaState}
use Rattle.board_client.specs.declared.fault.ClientFault.{ClientFault}
use Rattle.board_client.specs.declared.fault.ClientFault.TheVariants.{Line, NoReply, Text, Memory}
use Rattle.board_client.specs.declared.polling.Polling.{Polling}
use Rattle.board_client.specs.declared.polling.Polling.TheVariants.{Edits, Whole, Refused}
use Rattle.board_client.specs.declared.hearing.Announced.TheVariants.{Plane}
use Rattle.board_client.specs.Client.{LineState, IsTalk}
use Rattle.board_client.specs.Hearing.{IsAsAnnounced, IsNotTaken, IsTaken, IsUnheard}
use Rattle.board_client.specs.Refusal.{BringsRefusal, FailsBefore, IsMomentaryPollRefusal, IsPollRefusedForAMoment}
use Rattle.board_client.specs.Tries.{IsTried}

-- the body of the request
abbrev pub pieces_request : List ℕ
pieces_request = 11 ∷ []

-- so many pieces were heard, and P holds of the text that they are together, in order
pub record ArePiecesHeard (P : List ℕ → Type 0) (frames : ℕ) (a b : LineState) : Type 0 where
  pub pieces : List (List ℕ)
  pub number : length pieces ≡ frames
  pub talk : IsTalk a b [] pieces
  pub told : P (bytes_in pieces)

-- fewer than so many were heard, and the next one did not come
pub record ArePiecesCutShort (fault : LineFault) (frames : ℕ) (a b : LineState) : Type 0 where
  pub few : ℕ
  pub fewer : few < frames
  pub mid : LineState
  pub heard : ArePiecesHeard (λ text. Unit {0}) few a mid
  pub unheard : IsUnheard fault mid b

-- so many at most were heard, and for the last one memory was wanting
pub record ArePiecesWanting (frames : ℕ) (a b : LineState) : Type 0 where
  pub few : ℕ
  pub some : 0 < few
  pub most : few ≤ frames
  pub heard : ArePiecesHeard (λ text. Unit {0}) few a b

-- so many pieces were put together, or not
abbrev pub ArePutTogether : {B : Type 0} → (B → List ℕ) → ℕ → LineState → LineState → Result B ClientFault → Type 0
ArePutTogether bytes_of frames a b (Ok text) = ArePiecesHeard (λ whole. bytes_of text ≡ whole) frames a b
ArePutTogether bytes_of frames a b (Err (Line fault)) = ArePiecesCutShort fault frames a b
ArePutTogether bytes_of frames a b (Err Memory) = ArePiecesWanting frames a b
ArePutTogether bytes_of frames a b (Err fault) = ⊥

-- so many pieces were heard, and the plane that they are was taken; or not all came, or they are none, or it is not taken
abbrev pub IsPlaneHeard : {A : Type 0} → ℕ → LineState → LineState → ReplicaState → ReplicaState → Result A ClientFault → Type 0
IsPlaneHeard frames a b old new (Ok done) = ArePiecesHeard (λ text. IsAsAnnounced Plane text × IsTaken old text new) frames a b
IsPlaneHeard frames a b old new (Err (Line fault)) = ArePiecesCutShort fault frames a b × (new ≡ old)
IsPlaneHeard frames a b old new (Err Memory) = ArePiecesWanting frames a b × (new ≡ old)
IsPlaneHeard frames a b old new (Err NoReply) = ArePiecesHeard (λ text. IsAsAnnounced Plane text → ⊥) frames a b × (new ≡ old)
IsPlaneHeard frames a b old new (Err (Text fault)) = ArePiecesHeard (λ text. IsAsAnnounced Plane text × IsNotTaken old text new fault) frames a b

-- a plane in pieces was asked for; it was announced, its pieces heard, and it was taken
pub record BringsPieces (a b : LineState) (old new : ReplicaState) : Type 0 where
  pub edits : ℕ
  pub pieces : List (List ℕ)
  pub few : length pieces < 2 ^ 32
  pub talk : IsTalk a b (pieces_request ∷ []) (pieced_body edits (length pieces) ∷ pieces)
  pub plane : IsAsAnnounced Plane (bytes_in pieces)
  pub taken : IsTaken old (bytes_in pieces) new

-- what is no reply was heard
pub record BringsNoPieces (a b : LineState) (old new : ReplicaState) : Type 0 where
  pub body : List ℕ
  pub faulty : SpellsPieced body pieced.Faulty
  pub talk : IsTalk a b (pieces_request ∷ []) (body ∷ [])
  pub kept : new ≡ old

-- pieces were announced, and not all came, or they are no plane, or it was not taken
pub record FailsInPieces (fault : ClientFault) (a b : LineState) (old new : ReplicaState) : Type 0 where
  pub mid : LineState
  pub edits : ℕ
  pub frames : ℕ
  pub talk : IsTalk a mid (pieces_request ∷ []) (pieced_body edits frames ∷ [])
  pub fails : IsPlaneHeard {A = Unit {0}} frames mid b old new (Err fault)

-- what came of that, where it was said once
abbrev pub IsPiecesOnce : LineState → LineState → ReplicaState → ReplicaState → Result Polling ClientFault → Type 0
IsPiecesOnce a b old new (Ok (Edits count)) = ⊥
IsPiecesOnce a b old new (Ok Whole) = BringsPieces a b old new
IsPiecesOnce a b old new (Ok (Refused number)) = BringsRefusal (pieces_request ∷ []) number a b old new
IsPiecesOnce a b old new (Err Memory) = ((b ≡ a) × (new ≡ old)) ⊎ FailsInPieces Memory a b old new
IsPiecesOnce a b old new (Err NoReply) = BringsNoPieces a b old new ⊎ FailsInPieces NoReply a b old new
IsPiecesOnce a b old new (Err (Text fault)) = FailsInPieces (Text fault) a b old new
IsPiecesOnce a b old new (Err (Line fault)) = FailsBefore (pieces_request ∷ []) (Line fault) a b old new ⊎ FailsInPieces (Line fault) a b old new

-- and where it was tried
abbrev pub IsPieces : LineState → LineState → ReplicaState → ReplicaState → Result Polling ClientFault → Type 0
IsPieces a b old new result = IsTried 9 IsMomentaryPollRefusal IsPollRefusedForAMoment pieces_request (λ mid end. IsPiecesOnce mid end old new) a b result
