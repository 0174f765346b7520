-- Polls that are refused, and those that fail.
use Rattle.std.specs.Prelude.{◌≡◌, ◌⊎◌, ℕ, ◌<◌, List, [], ◌∷◌, Err}
use Rattle.replica_core.specs.Replica.{ReplicaState}
use Rattle.board_client.specs.declared.fault.ClientFault.{ClientFault}
use Rattle.board_client.specs.declared.polling.Polling.{Polling}
use Rattle.board_client.specs.declared.polling.Polling.TheVariants.{Refused}
use Rattle.board_client.specs.Client.{LineState, IsTalk}
use Rattle.board_client.specs.Hearing.{IsAsked}

-- this was said, and a refusal heard
pub record BringsRefusal (said : List (List ℕ)) (number : ℕ) (a b : LineState) (old new : ReplicaState) : Type 0 where
  pub some : 0 < number
  pub talk : IsTalk a b said ((number ∷ []) ∷ [])
  pub kept : new ≡ old

-- this could not be said, or nothing came
pub record FailsBefore (said : List (List ℕ)) (fault : ClientFault) (a b : LineState) (old new : ReplicaState) : Type 0 where
  pub failed : IsAsked {B = List ℕ} (λ body. body) said a b (Err fault)
  pub kept : new ≡ old

-- a refusal that may pass in a moment: reads are closed, or memory was wanted
abbrev pub IsMomentaryPollRefusal : ℕ → Type 0
IsMomentaryPollRefusal number = (number ≡ 30) ⊎ (number ≡ 255)

abbrev pub IsPollRefusedForAMoment : Polling → Type 0
IsPollRefusedForAMoment (Refused number) = IsMomentaryPollRefusal number
IsPollRefusedForAMoment _ = ⊥
