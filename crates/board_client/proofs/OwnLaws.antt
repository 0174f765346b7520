-- The text of an edit that a replica has is taken once more, and nothing changes.
use Rattle.std.proofs.Common.{◌≡◌, ◌∙◌, List, [], ◌∷◌, ℕ, Result, Ok, drop, refl, sym, ap, subst}
use Rattle.generations_rule.specs.Rule.{GenerationsRule, IsRule}
use Rattle.generations_rule.specs.Refusal.{◌>>=◌}
use Rattle.edit_stamps.specs.Edit.{PlaneEdit}
use Rattle.stamped_writes.specs.Write.{Writes}
use Rattle.delta_exchange.specs.declared.fault.ReadFault.{ReadFault}
use Rattle.delta_exchange.specs.declared.message.Content.TheVariants.{Edits}
use Rattle.delta_exchange.specs.Delta.{AreTellable}
use Rattle.delta_exchange.specs.MessageReading.{ToldEdits, begins_as_delta, message_of, told_as}
use Rattle.delta_exchange.specs.Reading.{delta_of}
use Rattle.delta_exchange.specs.Spelling.{delta_text}
use Rattle.delta_exchange.specs.Versions.{IsReadableStateText}
use Rattle.delta_exchange.proofs.DeltaLaws.{read_again}
use Rattle.delta_exchange.proofs.MessageLaws.{both_kinds, delta_begins}
use Rattle.delta_exchange.proofs.SecondReads.{either_begins}
use Rattle.replica_core.specs.Replica.{ReplicaState, Takes}
use Rattle.board_client.specs.Hearing.{IsTaken}
use Rattle.board_client.specs.Pushing.{push_bytes}

-- what the text of edits tells
told_so : (r : GenerationsRule) (edits : List PlaneEdit) → IsRule r → AreTellable r.states edits → message_of r (delta_text r edits) ≡ Ok (ToldEdits edits)
told_so r edits is are =
    ap (λ kind. kind >>= told_as r (delta_text r edits)) (delta_begins r edits) ∙ ap (λ read. read >>= λ es. Ok (ToldEdits es)) (read_again r edits is are)

same_edits : (a b : List PlaneEdit) → ◌≡◌ {A = Result (List PlaneEdit) ReadFault} (Ok a) (Ok b) → a ≡ b
same_edits a b is = cc

no_map : (r : ReplicaState) (edits : List PlaneEdit) (meant : Writes) → IsReadableStateText r.rule meant (delta_text r.rule edits) → ⊥
no_map r edits meant is = both_kinds (begins_as_delta (delta_text r.rule edits)) (delta_begins r.rule edits) (either_begins r.rule meant (delta_text r.rule edits) is)

taken_alone : (r : ReplicaState) (e : PlaneEdit) → IsRule r.rule → AreTellable r.rule.states (e ∷ []) → Takes r r (Edits (e ∷ [])) → IsTaken r (delta_text r.rule (e ∷ [])) r
taken_alone r e is are takes = record {
  told = (ToldEdits (e ∷ []), told_so r.rule (e ∷ []) is are, (Edits (e ∷ []), refl, takes));
  edits = λ meant tellable spelt.
      (Edits (e ∷ []), ap Edits (same_edits (e ∷ []) meant (sym (read_again r.rule (e ∷ []) is are) ∙ ap (delta_of r.rule) spelt ∙ read_again r.rule meant is tellable)), takes);
  map = λ meant tellable spelt. absurd (no_map r (e ∷ []) meant spelt);
}

-- the bytes behind the kind of an edit's push
pub taken_already : (r : ReplicaState) (rule : GenerationsRule) (e : PlaneEdit) (request body told text : List ℕ) → request ≡ push_bytes rule e → body ≡ request → told ≡ drop 1 body → told ≡ text
    → rule ≡ r.rule → IsRule rule → AreTellable r.rule.states (e ∷ []) → Takes r r (Edits (e ∷ [])) → IsTaken r text r
taken_already r rule e request body told text pushed same behind is rules is_rule are takes =
    let spelt : delta_text rule (e ∷ []) ≡ text = sym (behind ∙ ap (drop 1) (same ∙ pushed)) ∙ is in
    subst (λ t. IsTaken r t r) (ap (λ g. delta_text g (e ∷ [])) (sym rules) ∙ spelt) (taken_alone r e (subst IsRule rules is_rule) are takes)
