-- Lists of edits under a rule.
use Rattle.std.proofs.Common.{◌≡◌, inl, inr, List, [], ◌∷◌, ◌++◌, refl, sym, subst}
use Rattle.std.specs.Prelude.{Contains}
use Rattle.generations_rule.specs.Rule.{GenerationsRule}
use Rattle.edit_stamps.specs.Edit.{PlaneEdit}
use Rattle.delta_exchange.specs.Delta.{AreTellable}
use Rattle.document_bodies.specs.Bodies.{AreEditsUnder}
use Rattle.documents.specs.Documents.{DocumentState, IsDocument}
use Rattle.documents.specs.Results.{IsUnionOf, IsUnited}
use Rattle.documents.proofs.SetLaws.{has_behind, has_first, held_cases, none_held}
use Rattle.documents.proofs.Unions.{held_by_either}

pub under_held : (r : GenerationsRule) (edits : List PlaneEdit) (e : PlaneEdit) → AreEditsUnder r edits → Contains edits e → AreTellable r.states (e ∷ [])
under_held r [] e under has = absurd (none_held e has)
under_held r (x ∷ edits) e under has = elim (held_cases x edits e has) [
  | inl is ↦ subst (λ (f : PlaneEdit). AreTellable r.states (f ∷ [])) is under.0
  | inr there ↦ under_held r edits e under.1 there
]

pub under_each : (r : GenerationsRule) (edits : List PlaneEdit) → ((e : PlaneEdit) → Contains edits e → AreTellable r.states (e ∷ [])) → AreEditsUnder r edits
under_each r [] each = tt
under_each r (x ∷ edits) each = (each x (has_first x edits), under_each r edits (λ e has. each e (has_behind x edits e has)))

pub under_push : (r : GenerationsRule) (edits : List PlaneEdit) (e : PlaneEdit) → AreEditsUnder r edits → AreTellable r.states (e ∷ []) → AreEditsUnder r (edits ++ e ∷ [])
under_push r [] e under one = (one, tt)
under_push r (x ∷ edits) e under one = (under.0, under_push r edits e under.1 one)

-- ---- unions

united_under : (r : GenerationsRule) (a b all : List PlaneEdit) → AreEditsUnder r a → AreEditsUnder r b → IsUnited a b all → AreEditsUnder r all
united_under r a b all under also united = under_each r all (λ e has. elim (held_by_either a b all e united.ascending united.union has) [
  | inl here ↦ under_held r a e under here
  | inr there ↦ under_held r b e also there
])

-- the union of two documents under one rule is one
pub united_is : (a b : DocumentState) (all : List PlaneEdit) → IsDocument a → IsDocument b → a.rule ≡ b.rule → IsUnited a.edits b.edits all → IsDocument (record { rule = a.rule; edits = all })
united_is a b all is also same united = record {
  is_rule = is.is_rule;
  under = united_under a.rule a.edits b.edits all is.under (subst (λ (r : GenerationsRule). AreEditsUnder r b.edits) (sym same) also.under) united;
  ascending = united.ascending;
}

-- what a merge makes of two documents, whose edits it reads as x and y
pub merged_is : (a b : DocumentState) (x y all : List PlaneEdit) → IsDocument a → IsDocument b → a.rule ≡ b.rule → x ≡ a.edits → y ≡ b.edits → IsUnited x y all → IsDocument (record { rule = a.rule; edits = all })
merged_is a b x y all is also same e f united =
    united_is a b all is also same (subst (λ (l : List PlaneEdit). IsUnited a.edits l all) f (subst (λ (l : List PlaneEdit). IsUnited l y all) e united))

pub merged : (a b c d : DocumentState) (x y all : List PlaneEdit) → IsDocument a → IsDocument b → a ≡ c → b ≡ d → a.rule ≡ b.rule → x ≡ a.edits → y ≡ b.edits → IsUnited x y all
    → IsUnionOf c d (record { rule = a.rule; edits = all })
merged a b c d x y all is also g h same e f united =
    let here : IsUnionOf a b (record { rule = a.rule; edits = all }) = record {
      is = merged_is a b x y all is also same e f united;
      rule = refl;
      same_rule = same;
      united = subst (λ (l : List PlaneEdit). IsUnited a.edits l all) f (subst (λ (l : List PlaneEdit). IsUnited l y all) e united);
    } in
    subst (λ (s : DocumentState). IsUnionOf c s (record { rule = a.rule; edits = all })) h (subst (λ (s : DocumentState). IsUnionOf s b (record { rule = a.rule; edits = all })) g here)
