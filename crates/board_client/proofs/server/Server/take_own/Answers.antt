use Rattle.std.proofs.Common.{◌≡◌, ◌∷◌, [], ◌∙◌, ap, subst}
use Rattle.edit_stamps.specs.Edit.{PlaneEdit}
use Rattle.delta_exchange.specs.declared.message.Content.TheVariants.{Edits}
use Rattle.replica_core.specs.Replica.{MeetsWant}
use Rattle.board_client.proofs.server.Server.take_own.Goals as goal

pub returns-in-Err-clause-taken : goal.returns-in-Err-clause-taken
returns-in-Err-clause-taken g c =
    subst (λ edits. MeetsWant c.args.replica.now c.take_edits.new.self (λ content. content ≡ Edits edits) c.in-Err.fault) (c.from_ref.ensures.value ∙ ap (λ (e : PlaneEdit). e ∷ []) c.edit.ensures.edit) c.in-Err.ensures
