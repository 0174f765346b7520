-- What bodies are read as.
use Rattle.std.proofs.Common.{◌≡◌, List, [], ◌∷◌, Result, Ok, Err, inl, inr, ap, refl, subst}
use Rattle.generations_rule.specs.Refusal.{Answers}
use Rattle.edit_stamps.specs.Edit.{PlaneEdit}
use Rattle.delta_exchange.specs.Fault.{IsWant as IsReadWant}
use Rattle.delta_exchange.specs.declared.fault.ReadFault.{ReadFault}
use Rattle.document_bodies.specs.Reading.{IsWant, body_fault_of, of_message, single}

-- where a message of one edit was to be read, its edit is told
pub only_edit : (read : Result (List PlaneEdit) ReadFault) (meant : PlaneEdit) → Answers IsReadWant read (Ok (meant ∷ [])) → Answers IsWant (of_message read) (Ok meant)
only_edit (Ok edits) meant exact =
    let one : (meant ∷ []) ≡ edits = cc in
    subst (λ (es : List PlaneEdit). Answers IsWant (single es) (Ok meant)) one refl
only_edit (Err fault) meant (inl want) = inl (ap body_fault_of want)
only_edit (Err fault) meant (inr e) = absurd (cc)
