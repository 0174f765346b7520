-- Pastes.
use Rattle.std.proofs.Common.{◌≡◌, Option, Result, subst}
use Rattle.replica_events.specs.declared.edit_spec.EditSpec.{EditSpec}
use Rattle.client_session.specs.declared.outcome.Outcome.{Outcome}
use Rattle.client_session.specs.declared.fault.CommandFault.{CommandFault}
use Rattle.client_session.specs.Drawing.{IsPasteOf}
use Rattle.client_session.specs.Moment.{Moment}

-- a paste of what a name's pattern makes
pub pastes : (made spec : Option EditSpec) (m n : Moment) (result : Result Outcome CommandFault) → made ≡ spec → IsPasteOf made m n result → IsPasteOf spec m n result
pastes made spec m n result is p = subst (λ o. IsPasteOf o m n result) is p
