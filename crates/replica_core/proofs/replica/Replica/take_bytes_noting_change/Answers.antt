use Rattle.std.proofs.Common.{◌≡◌, List, ◌∙◌, Err, ap, sym, subst}
use Rattle.std.proofs.lemmas.Result.{err_from_is_err_and}
use Rattle.edit_stamps.specs.Edit.{PlaneEdit}
use Rattle.stamped_writes.specs.Write.{Writes}
use Rattle.delta_exchange.specs.declared.message.Content.TheVariants.{Edits}
use Rattle.delta_exchange.specs.Delta.{AreTellable}
use Rattle.delta_exchange.specs.Spelling.{delta_text}
use Rattle.square_store.specs.declared.limits.Limits.{Limits}
use Rattle.delta_exchange.specs.MessageReading.{HasMap, MayWantRoom, begins_as_delta, message_of}
use Rattle.delta_exchange.specs.Room.{IsMapTooLargeFor}
use Rattle.delta_exchange.specs.State.{IsTellableMap}
use Rattle.delta_exchange.specs.Versions.{IsReadableStateText}
use Rattle.replica_core.specs.Exchange.{IsTakingMap, IsTakingOf, IsTakingText}
use Rattle.replica_core.specs.Replica.{ReplicaState, IsTaking}
use Rattle.replica_core.proofs.ExchangeLaws.{edits_told, refuses_edits, refuses_map, refuses_text, takes_map, takes_some, takes_text}
use Rattle.replica_core.proofs.replica.Replica.take_bytes_noting_change.Goals as goal

pub returns-in_err-message-clause-told : goal.returns-in_err-message-clause-told
returns-in_err-message-clause-told c =
    let is = err_from_is_err_and c.from_residual.result c.from_residual.ensures.1 in
    let old : ReplicaState = record { rule = c.self.inside.rule; number = c.self.inside.number; plane = c.self.inside.plane; journal = c.self.inside.journal } in
    subst (λ r. IsTakingText r r c.args.text.now (message_of r.rule c.args.text.now) c.from_residual.result) c.self.view_is
    (subst (IsTakingText old old c.args.text.now (message_of old.rule c.args.text.now)) (sym (is.1 ∙ ap Err is.2))
    (refuses_text old old.rule c.args.text.now (message_of old.rule c.args.text.now) c.in_err-message.field-0.0 (λ full. subst (λ n. MayWantRoom n c.args.text.now) (ap (λ (l : Limits). l.room) c.of_key-limits.ensures) (c.in_err-message.ensures.full (ap Err full))) c.in_err-message.ensures.exact))

pub returns-in_err-message-clause-map : goal.returns-in_err-message-clause-map
returns-in_err-message-clause-map c =
    let is = err_from_is_err_and c.from_residual.result c.from_residual.ensures.1 in
    let old : ReplicaState = record { rule = c.self.inside.rule; number = c.self.inside.number; plane = c.self.inside.plane; journal = c.self.inside.journal } in
    subst (λ r. (meant : Writes) → IsTellableMap r.rule.states meant → IsReadableStateText r.rule meant c.args.text.now
    → IsTakingMap r r meant c.from_residual.result) c.self.view_is
    (λ meant tellable spelt. subst (IsTakingMap old old meant) (sym (is.1 ∙ ap Err is.2))
    (refuses_map old old.rule meant c.in_err-message.field-0.0 (λ full. subst (λ n. IsMapTooLargeFor n meant) (ap (λ (l : Limits). l.room) c.of_key-limits.ensures) (c.in_err-message.ensures.too_large meant tellable spelt (ap Err full))) (c.in_err-message.ensures.only_map meant tellable spelt)))

pub returns-clause-told : goal.returns-clause-told
returns-clause-told c =
    let old : ReplicaState = record { rule = c.self.inside.rule; number = c.self.inside.number; plane = c.self.inside.plane; journal = c.self.inside.journal } in
    subst (λ r. IsTakingText r c.take_noting_change.new.self c.args.text.now (message_of r.rule c.args.text.now) c.take_noting_change.result) c.self.view_is
    (takes_text old c.take_noting_change.new.self c.in_ok-message.message c.args.text.now (message_of old.rule c.args.text.now) c.take_noting_change.result
    c.in_ok-message.ensures.exact (subst (λ r. IsTaking r c.take_noting_change.new.self c.in_ok-message.message c.take_noting_change.result) (sym c.self.view_is) c.take_noting_change.ensures.taking))

pub returns-clause-map : goal.returns-clause-map
returns-clause-map c =
    let old : ReplicaState = record { rule = c.self.inside.rule; number = c.self.inside.number; plane = c.self.inside.plane; journal = c.self.inside.journal } in
    let taking = subst (λ r. IsTaking r c.take_noting_change.new.self c.in_ok-message.message c.take_noting_change.result) (sym c.self.view_is) c.take_noting_change.ensures.taking in
    subst (λ r. (meant : Writes) → IsTellableMap r.rule.states meant → IsReadableStateText r.rule meant c.args.text.now
    → IsTakingMap r c.take_noting_change.new.self meant c.take_noting_change.result) c.self.view_is
    (λ meant tellable spelt.
    let stands = c.in_ok-message.ensures.only_map meant tellable spelt in
    takes_map old c.take_noting_change.new.self meant c.take_noting_change.result
    (takes_some old c.take_noting_change.new.self c.in_ok-message.message (λ content. HasMap content meant) c.take_noting_change.result stands.0 stands.1 taking))

pub returns-in_err-message-clause-edits : goal.returns-in_err-message-clause-edits
returns-in_err-message-clause-edits c =
    let is = err_from_is_err_and c.from_residual.result c.from_residual.ensures.1 in
    let old : ReplicaState = record { rule = c.self.inside.rule; number = c.self.inside.number; plane = c.self.inside.plane; journal = c.self.inside.journal } in
    subst (λ r. (meant : List PlaneEdit) → AreTellable r.rule.states meant → c.args.text.now ≡ delta_text r.rule meant
    → IsTakingOf r r (λ content. content ≡ Edits meant) c.from_residual.result) c.self.view_is
    (λ meant tellable spelt. subst (IsTakingOf old old (λ content. content ≡ Edits meant)) (sym (is.1 ∙ ap Err is.2))
    (refuses_edits old old.rule meant c.in_err-message.field-0.0 (λ content. content ≡ Edits meant)
    (λ full. ap begins_as_delta (sym spelt) ∙ (let wants = c.in_err-message.ensures.full (ap Err full) in wants.state)) (c.in_err-message.ensures.only_edits meant tellable spelt)))

pub returns-clause-edits : goal.returns-clause-edits
returns-clause-edits c =
    let old : ReplicaState = record { rule = c.self.inside.rule; number = c.self.inside.number; plane = c.self.inside.plane; journal = c.self.inside.journal } in
    let taking = subst (λ r. IsTaking r c.take_noting_change.new.self c.in_ok-message.message c.take_noting_change.result) (sym c.self.view_is) c.take_noting_change.ensures.taking in
    subst (λ r. (meant : List PlaneEdit) → AreTellable r.rule.states meant → c.args.text.now ≡ delta_text r.rule meant
    → IsTakingOf r c.take_noting_change.new.self (λ content. content ≡ Edits meant) c.take_noting_change.result) c.self.view_is
    (λ meant tellable spelt.
    let stands = c.in_ok-message.ensures.only_edits meant tellable spelt in
    takes_some old c.take_noting_change.new.self c.in_ok-message.message (λ content. content ≡ Edits meant) c.take_noting_change.result stands.0
    (edits_told c.in_ok-message.message.content meant stands.1) taking)
