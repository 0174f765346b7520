-- What makes and changes documents leaves documents.
use Rattle.std.proofs.Common.{◌≡◌, inl, inr, ℕ, Bool, true, false, List, [], ◌∷◌, refl, sym, ap, subst}
use Rattle.std.specs.Prelude.{Result, Ok, Err}
use Rattle.generations_rule.specs.Rule.{GenerationsRule, IsRule}
use Rattle.edit_stamps.specs.Edit.{PlaneEdit}
use Rattle.delta_exchange.specs.Delta.{AreTellable}
use Rattle.document_bodies.specs.Bodies.{AreEditsUnder}
use Rattle.documents.specs.declared.fault.DocumentFault.{DocumentFault}
use Rattle.documents.specs.declared.fault.DocumentFault.TheVariants.{StateRange, OtherRule, SameStamp, NoDocument, Body, Memory}
use Rattle.documents.specs.Documents.{DocumentState, IsDocument}
use Rattle.documents.specs.Sets.{ClashesWithin}
use Rattle.documents.specs.Results.{IsInserted, IsMade, IsMadeOf, IsPut, IsSetOf}
use Rattle.documents.proofs.Under.{under_each, under_held}
use Rattle.documents.proofs.Unions.{held_by_either}

-- ---- of edits in any order

pub made_is : (r : GenerationsRule) (edits set : List PlaneEdit) → IsRule r → AreEditsUnder r edits → IsSetOf edits set → IsDocument (record { rule = r; edits = set })
made_is r edits set is under of = record { is_rule = is; under = under_each r set (λ e has. under_held r edits e under ((of.same e).0 has)); ascending = of.ascending }

pub made : (r : GenerationsRule) (edits set : List PlaneEdit) → IsRule r → AreEditsUnder r edits → IsSetOf edits set → IsMadeOf r edits (record { rule = r; edits = set })
made r edits set is under of = record { is = made_is r edits set is under of; rule = refl; set = of }

pub not_made : (r : GenerationsRule) (edits : List PlaneEdit) (stamp : ℕ) → AreEditsUnder r edits → ClashesWithin edits stamp → IsMade r edits (Err (SameStamp stamp))
not_made r edits stamp under clash = ((λ e has. (under_held r edits e under has).below.0), clash)

-- ---- with one edit more

changed_none : (a : DocumentState) (new : List PlaneEdit) → new ≡ a.edits → ◌≡◌ {A = DocumentState} (record { rule = a.rule; edits = new }) a
changed_none a new same = ap (λ (l : List PlaneEdit). record { rule = a.rule; edits = l }) same

kept_is : (a : DocumentState) (new : List PlaneEdit) → IsDocument a → new ≡ a.edits → IsDocument (record { rule = a.rule; edits = new })
kept_is a new is same = subst IsDocument (sym (changed_none a new same)) is

pub put_is : (a : DocumentState) (e : PlaneEdit) (new : List PlaneEdit) (result : Result Bool DocumentFault) → IsDocument a → AreTellable a.rule.states (e ∷ []) → IsPut a.edits e new result → IsDocument (record { rule = a.rule; edits = new })
put_is a e new (Ok true) is told put = record {
  is_rule = is.is_rule;
  under = under_each a.rule new (λ f has. elim (held_by_either a.edits (e ∷ []) new f put.0 put.2 has) [
    | inl here ↦ under_held a.rule a.edits f is.under here
    | inr there ↦ under_held a.rule (e ∷ []) f (told, tt) there
  ]);
  ascending = put.0;
}
put_is a e new (Ok false) is told put = kept_is a new is put.1
put_is a e new (Err (SameStamp stamp)) is told put = kept_is a new is put.2
put_is a e new (Err Memory) is told put = kept_is a new is put.1
put_is a e new (Err StateRange) is told put = absurd put
put_is a e new (Err OtherRule) is told put = absurd put
put_is a e new (Err NoDocument) is told put = absurd put
put_is a e new (Err (Body fault place)) is told put = absurd put

inserted_here : (a : DocumentState) (e : PlaneEdit) (new : List PlaneEdit) (result : Result Bool DocumentFault) → IsDocument a → AreTellable a.rule.states (e ∷ []) → IsPut a.edits e new result
    → IsInserted a e (record { rule = a.rule; edits = new }) result
inserted_here a e new (Ok true) is told put = record { is = put_is a e new (Ok true) is told put; rule = refl; none = put.1; union = put.2 }
inserted_here a e new (Ok false) is told put = (put.0, changed_none a new put.1)
inserted_here a e new (Err (SameStamp stamp)) is told put = (told.below.0, put.0, put.1, changed_none a new put.2)
inserted_here a e new (Err Memory) is told put = (told.below.0, put.0, changed_none a new put.1)
inserted_here a e new (Err StateRange) is told put = absurd put
inserted_here a e new (Err OtherRule) is told put = absurd put
inserted_here a e new (Err NoDocument) is told put = absurd put
inserted_here a e new (Err (Body fault place)) is told put = absurd put

pub inserted : (a b : DocumentState) (e : PlaneEdit) (new : List PlaneEdit) (result : Result Bool DocumentFault) → IsDocument a → a ≡ b → AreTellable a.rule.states (e ∷ []) → IsPut a.edits e new result
    → IsInserted b e (record { rule = a.rule; edits = new }) result
inserted a b e new result is same told put = subst (λ (d : DocumentState). IsInserted d e (record { rule = a.rule; edits = new }) result) same (inserted_here a e new result is told put)
