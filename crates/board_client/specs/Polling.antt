-- What a poll does, and the reply to it.
use Rattle.std.specs.Prelude.{◌≡◌, ◌≢◌, ◌⊎◌, ℕ, ◌<◌, ◌≤◌, List, [], ◌∷◌, length, Result, Ok, Err}
use Rattle.client_protocol.specs.Spelling.{SpellsPolled, polled_body}
use Rattle.client_protocol.specs.declared.polled.Polled.TheVariants as polled
use Rattle.session_hub.specs.Replies.{most_edits, whole_mark}
use Rattle.replica_core.specs.Replica.{ReplicaState}
use Rattle.board_client.specs.declared.fault.ClientFault.{ClientFault}
use Rattle.board_client.specs.declared.fault.ClientFault.TheVariants.{Line, NoReply, Text, Memory}
use Rattle.board_client.specs.declared.polling.Polling.{Polling}
use Rattle.board_client.specs.declared.polling.Polling.TheVariants.{Edits, Whole, Refused}
use Rattle.board_client.specs.Client.{LineState, IsTalk}
use Rattle.board_client.specs.Hearing.{AreDeltas, AreTaken, AreTextsHeard, IsAsAnnounced, IsTaken, IsTextHeard}
use Rattle.board_client.specs.declared.hearing.Announced.TheVariants.{Plane}
use Rattle.board_client.specs.Pieces.{IsPieces}
use Rattle.board_client.specs.Refusal.{BringsRefusal, FailsBefore, IsMomentaryPollRefusal, IsPollRefusedForAMoment}
use Rattle.board_client.specs.Tries.{IsTried}

-- the body of the request
abbrev pub poll_request : List ℕ
poll_request = 3 ∷ []

-- ---- the reply, where this was said: the request of a poll, or nothing, since it was said before

-- edits were announced, so many texts of edits heard, and each taken
pub record BringsEdits (said : List (List ℕ)) (count : ℕ) (a b : LineState) (old new : ReplicaState) : Type 0 where
  pub some : count ≤ most_edits
  pub texts : List (List ℕ)
  pub number : length texts ≡ count
  pub talk : IsTalk a b said (polled_body count ∷ texts)
  pub deltas : AreDeltas texts
  pub taken : AreTaken old texts new

-- the mark of a whole plane and its text were heard, and it was taken
pub record BringsWhole (said : List (List ℕ)) (a b : LineState) (old new : ReplicaState) : Type 0 where
  pub text : List ℕ
  pub talk : IsTalk a b said (polled_body whole_mark ∷ text ∷ [])
  pub plane : IsAsAnnounced Plane text
  pub taken : IsTaken old text new

-- what is no reply to a poll was heard
pub record BringsNothing (said : List (List ℕ)) (a b : LineState) (old new : ReplicaState) : Type 0 where
  pub body : List ℕ
  pub faulty : SpellsPolled body polled.Faulty
  pub talk : IsTalk a b said (body ∷ [])
  pub kept : new ≡ old

-- so many edits, or a whole plane, were announced, and not all that was announced came, or what came is none, or was not taken
pub record FailsBehind (said : List (List ℕ)) (fault : ClientFault) (a b : LineState) (old new : ReplicaState) : Type 0 where
  pub mid : LineState
  pub count : ℕ
  pub talk : IsTalk a mid said (polled_body count ∷ [])
  pub fails : ((count ≡ whole_mark) × IsTextHeard {A = Unit {0}} Plane mid b old new (Err fault)) ⊎ ((count ≤ most_edits) × AreTextsHeard {A = Unit {0}} count mid b old new (Err fault))

-- what was announced does not all come, or is none, or is not taken
pub record IsCutBehind (first : List ℕ) (fault : ClientFault) (a b : LineState) (old new : ReplicaState) : Type 0 where
  pub count : ℕ
  pub spelt : first ≡ polled_body count
  pub fails : ((count ≡ whole_mark) × IsTextHeard {A = Unit {0}} Plane a b old new (Err fault)) ⊎ ((count ≤ most_edits) × AreTextsHeard {A = Unit {0}} count a b old new (Err fault))

-- what a reply brings
abbrev pub IsReplyTaken : List (List ℕ) → LineState → LineState → ReplicaState → ReplicaState → Result Polling ClientFault → Type 0
IsReplyTaken said a b old new (Ok (Edits count)) = BringsEdits said count a b old new
IsReplyTaken said a b old new (Ok Whole) = BringsWhole said a b old new
IsReplyTaken said a b old new (Ok (Refused number)) = BringsRefusal said number a b old new
IsReplyTaken said a b old new (Err Memory) = ⊥
IsReplyTaken said a b old new (Err NoReply) = BringsNothing said a b old new ⊎ FailsBehind said NoReply a b old new
IsReplyTaken said a b old new (Err (Text fault)) = FailsBehind said (Text fault) a b old new
IsReplyTaken said a b old new (Err (Line fault)) = FailsBefore said (Line fault) a b old new ⊎ FailsBehind said (Line fault) a b old new

-- the same behind its first body: what was announced by it is heard and taken; or nothing is
abbrev pub IsReplyBehind : List ℕ → LineState → LineState → ReplicaState → ReplicaState → Result Polling ClientFault → Type 0
IsReplyBehind first a b old new (Ok (Edits count)) = (count ≤ most_edits) × (first ≡ polled_body count) × AreTextsHeard {A = Unit {0}} count a b old new (Ok tt)
IsReplyBehind first a b old new (Ok Whole) = (first ≡ polled_body whole_mark) × IsTextHeard {A = Unit {0}} Plane a b old new (Ok tt)
IsReplyBehind first a b old new (Ok (Refused number)) = ((0 < number) × (first ≡ number ∷ [])) × ((b ≡ a) × (new ≡ old))
IsReplyBehind first a b old new (Err fault) =
    ((fault ≡ NoReply) × SpellsPolled first polled.Faulty × ((b ≡ a) × (new ≡ old))) ⊎ IsCutBehind first fault a b old new

-- ---- a plane that is too long for a frame

-- what a poll answers by what came of the plane in pieces: where that is refused too, what the board had to hand out is lost
abbrev pub IsFallenBack : LineState → LineState → ReplicaState → ReplicaState → Result Polling ClientFault → Type 0
IsFallenBack a b old new (Ok (Refused number)) = (number ≡ 21) × ((other : ℕ) × IsPieces a b old new (Ok (Refused other)))
IsFallenBack a b old new result = IsPieces a b old new result

-- a poll was refused by 21, and the plane asked for in pieces
pub record FallsBack (said : List (List ℕ)) (a b : LineState) (old new : ReplicaState) (result : Result Polling ClientFault) : Type 0 where
  pub mid : LineState
  pub between : ReplicaState
  pub refused : BringsRefusal said 21 a mid old between
  pub pieces : IsFallenBack mid b between new result

-- what came of a reply that nothing else stands behind: it is taken, unless it is too long; then the plane in pieces
abbrev pub IsNewsHeard : List (List ℕ) → LineState → LineState → ReplicaState → ReplicaState → Result Polling ClientFault → Type 0
IsNewsHeard said a b old new (Ok (Edits count)) = BringsEdits said count a b old new
IsNewsHeard said a b old new (Ok Whole) = BringsWhole said a b old new ⊎ FallsBack said a b old new (Ok Whole)
IsNewsHeard said a b old new (Ok (Refused number)) = ((number ≢ 21) × BringsRefusal said number a b old new) ⊎ FallsBack said a b old new (Ok (Refused number))
IsNewsHeard said a b old new (Err fault) = IsReplyTaken said a b old new (Err fault) ⊎ FallsBack said a b old new (Err fault)

-- what came of a poll that was said once; or memory for the request was wanting, and nothing said
abbrev pub IsPollOnce : LineState → LineState → ReplicaState → ReplicaState → Result Polling ClientFault → Type 0
IsPollOnce a b old new (Err Memory) = ((b ≡ a) × (new ≡ old)) ⊎ IsNewsHeard (poll_request ∷ []) a b old new (Err Memory)
IsPollOnce a b old new result = IsNewsHeard (poll_request ∷ []) a b old new result

-- ---- tries

-- what came of a poll that was tried
abbrev pub IsPoll : LineState → LineState → ReplicaState → ReplicaState → Result Polling ClientFault → Type 0
IsPoll a b old new result = IsTried 9 IsMomentaryPollRefusal IsPollRefusedForAMoment poll_request (λ mid end. IsPollOnce mid end old new) a b result
