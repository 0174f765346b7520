-- What a push does.
use Rattle.std.specs.Prelude.{◌≡◌, ◌⊎◌, ℕ, ◌<◌, List, [], ◌∷◌, Result, Ok, Err}
use Rattle.generations_rule.specs.Rule.{GenerationsRule}
use Rattle.edit_stamps.specs.Edit.{PlaneEdit}
use Rattle.delta_exchange.specs.Spelling.{delta_text}
use Rattle.client_protocol.specs.Spelling.{SpellsAnswer}
use Rattle.client_protocol.specs.declared.answer.Answer.TheVariants as answer
use Rattle.board_client.specs.declared.fault.ClientFault.{ClientFault}
use Rattle.board_client.specs.declared.fault.ClientFault.TheVariants.{NoReply}
use Rattle.board_client.specs.declared.pushing.Pushing.{Pushing}
use Rattle.board_client.specs.declared.pushing.Pushing.TheVariants.{Done, Refused}
use Rattle.board_client.specs.Client.{LineState, IsTalk}
use Rattle.board_client.specs.Hearing.{IsAsked}
use Rattle.board_client.specs.Tries.{IsTried}

-- the request that an edit be published
abbrev pub push_bytes : GenerationsRule → PlaneEdit → List ℕ
push_bytes r e = 2 ∷ delta_text r (e ∷ [])

-- this was said, and what is no answer to it heard
pub record IsMisanswered (said : List (List ℕ)) (a b : LineState) : Type 0 where
  pub body : List ℕ
  pub faulty : SpellsAnswer body answer.Faulty
  pub talk : IsTalk a b said (body ∷ [])

-- what the body of an answer says
abbrev pub IsAnswerIn : List ℕ → Result Pushing ClientFault → Type 0
IsAnswerIn body (Ok Done) = SpellsAnswer body answer.Done
IsAnswerIn body (Ok (Refused number)) = SpellsAnswer body (answer.Refused number)
IsAnswerIn body (Err fault) = (fault ≡ NoReply) × SpellsAnswer body answer.Faulty

-- what came of a request, where this was said: the request, or nothing, since it was said before
abbrev pub IsAnswering : List (List ℕ) → LineState → LineState → Result Pushing ClientFault → Type 0
IsAnswering said a b (Ok Done) = IsTalk a b said ((0 ∷ []) ∷ [])
IsAnswering said a b (Ok (Refused number)) = (0 < number) × IsTalk a b said ((number ∷ []) ∷ [])
IsAnswering said a b (Err NoReply) = IsMisanswered said a b
IsAnswering said a b (Err fault) = IsAsked {B = List ℕ} (λ body. body) said a b (Err fault)

-- what came of a request that was said once
abbrev pub IsPushOnce : List ℕ → LineState → LineState → Result Pushing ClientFault → Type 0
IsPushOnce request a b result = IsAnswering (request ∷ []) a b result

-- ---- tries

-- a refusal that may pass in a moment, and that says that the board does not have the edit: the inbox is full, or memory was wanted
abbrev pub IsMomentaryPushRefusal : ℕ → Type 0
IsMomentaryPushRefusal number = (number ≡ 29) ⊎ (number ≡ 255)

abbrev pub IsPushRefusedForAMoment : Pushing → Type 0
IsPushRefusedForAMoment (Refused number) = IsMomentaryPushRefusal number
IsPushRefusedForAMoment Done = ⊥

-- what came of the same bytes, tried again and again, so often more at most
abbrev pub IsPushWithin : ℕ → List ℕ → LineState → LineState → Result Pushing ClientFault → Type 0
IsPushWithin most request a b result = IsTried most IsMomentaryPushRefusal IsPushRefusedForAMoment request (IsPushOnce request) a b result

-- ten times in all
abbrev pub IsPush : List ℕ → LineState → LineState → Result Pushing ClientFault → Type 0
IsPush request a b result = IsPushWithin 9 request a b result

-- ---- behind what was said

-- the answer that was heard first is the last
abbrev pub IsFinal : Result Pushing ClientFault → Type 0
IsFinal (Ok pushing) = ¬ IsPushRefusedForAMoment pushing
IsFinal (Err fault) = Unit {0}

-- the first answer was a refusal for a moment, and the same bytes were tried again
pub record IsPushedAgain (request : List ℕ) (a b : LineState) (result : Result Pushing ClientFault) : Type 0 where
  pub number : ℕ
  pub brief : IsMomentaryPushRefusal number
  pub mid : LineState
  pub talk : IsTalk a mid [] ((number ∷ []) ∷ [])
  pub again : IsPushWithin 8 request mid b result

-- what came of a push that was said before: the same as of a push behind its first saying
abbrev pub IsPushEnd : List ℕ → LineState → LineState → Result Pushing ClientFault → Type 0
IsPushEnd request a b result = (IsFinal result × IsAnswering [] a b result) ⊎ IsPushedAgain request a b result
