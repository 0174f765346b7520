-- What bodies obey.
use Rattle.std.proofs.Common.{◌≡◌, ℕ, List, [], ◌∷◌, ◌++◌, ◌⊎◌, inl, inr, refl, sym, ap, subst, ◌∙◌, lit<}
use mathlib.Core.List.{IsPrefix}
use Rattle.generations_rule.specs.Rule.{GenerationsRule, IsRule}
use Rattle.edit_stamps.specs.Edit.{PlaneEdit}
use Rattle.delta_exchange.specs.Delta.{AreTellable}
use Rattle.delta_exchange.proofs.DeltaLaws.{has_own_texts}
use Rattle.document_bodies.specs.Bodies.{AreBodyLaws, AreEditsUnder, bodies_of, edit_bodies, edit_body, head_body}
use Rattle.document_bodies.proofs.BodyTexts.{edit_is_short, head_is_short}

-- ---- one text each

none_is_told : (states : ℕ) → AreTellable states []
none_is_told states = record { edits_are = tt; below = tt; count = lit< tt }

pub same_rule : (q r : GenerationsRule) → IsRule q → IsRule r → head_body q ≡ head_body r → q ≡ r
same_rule q r is_q is_r e = (has_own_texts q r [] [] [] [] is_q is_r (none_is_told q.states) (none_is_told r.states) (ap (λ body. body ++ []) e)).0

pub same_edit : (r : GenerationsRule) (e f : PlaneEdit) → IsRule r → AreTellable r.states (e ∷ []) → AreTellable r.states (f ∷ []) → edit_body r e ≡ edit_body r f → e ≡ f
same_edit r e f is told_e told_f same =
    let one : (e ∷ []) ≡ (f ∷ []) = (has_own_texts r r (e ∷ []) (f ∷ []) [] [] is is told_e told_f (ap (λ body. body ++ []) same)).1.0 in
    cc

-- the bodies of the first edits of some tell them
begin_edits : (r : GenerationsRule) (a b : List PlaneEdit) (t : List (List ℕ)) → IsRule r → AreEditsUnder r a → AreEditsUnder r b → edit_bodies r a ++ t ≡ edit_bodies r b → IsPrefix a b
begin_edits r [] b t is told_a told_b e = (b, refl)
begin_edits r (x ∷ a) [] t is told_a told_b e = absurd (cc)
begin_edits r (x ∷ a) (y ∷ b) t is told_a told_b e =
    let head : edit_body r x ≡ edit_body r y = cc in
    let tail : edit_bodies r a ++ t ≡ edit_bodies r b = cc in
    let same : x ≡ y = same_edit r x y is told_a.0 told_b.0 head in
    let rest : IsPrefix a b = begin_edits r a b t is told_a.1 told_b.1 tail in
    let whole : a ++ rest.0 ≡ b = rest.1 in
    (rest.0, cc)

same_edits : (r : GenerationsRule) (a b : List PlaneEdit) → IsRule r → AreEditsUnder r a → AreEditsUnder r b → edit_bodies r a ≡ edit_bodies r b → a ≡ b
same_edits r [] [] is told_a told_b e = refl
same_edits r [] (y ∷ b) is told_a told_b e = absurd (cc)
same_edits r (x ∷ a) [] is told_a told_b e = absurd (cc)
same_edits r (x ∷ a) (y ∷ b) is told_a told_b e =
    let head : edit_body r x ≡ edit_body r y = cc in
    let tail : edit_bodies r a ≡ edit_bodies r b = cc in
    let same : x ≡ y = same_edit r x y is told_a.0 told_b.0 head in
    let rest : a ≡ b = same_edits r a b is told_a.1 told_b.1 tail in
    cc

-- ---- documents

one_document : (q r : GenerationsRule) (a b : List PlaneEdit) → IsRule q → IsRule r → AreEditsUnder q a → AreEditsUnder r b → bodies_of q a ≡ bodies_of r b → (q ≡ r) × (a ≡ b)
one_document q r a b is_q is_r told_a told_b e =
    let head : head_body q ≡ head_body r = cc in
    let tail : edit_bodies q a ≡ edit_bodies r b = cc in
    let rule : q ≡ r = same_rule q r is_q is_r head in
    let told : AreEditsUnder r a = subst (λ (p : GenerationsRule). AreEditsUnder p a) rule told_a in
    (rule, same_edits r a b is_r told told_b (sym (ap (λ (p : GenerationsRule). edit_bodies p a) rule) ∙ tail))

-- the first bodies of some edits are those of the first of them
first_edits : (r : GenerationsRule) (edits : List PlaneEdit) (got t : List (List ℕ)) → got ++ t ≡ edit_bodies r edits → (some : List PlaneEdit) × IsPrefix some edits × (got ≡ edit_bodies r some)
first_edits r edits [] t e = ([], (edits, refl), refl)
first_edits r [] (g ∷ got) t e = absurd (cc)
first_edits r (x ∷ edits) (g ∷ got) t e =
    let tail : got ++ t ≡ edit_bodies r edits = cc in
    let rest : (some : List PlaneEdit) × IsPrefix some edits × (got ≡ edit_bodies r some) = first_edits r edits got t tail in
    let whole : rest.0 ++ rest.1.0 ≡ edits = rest.1.1 in
    let bodies : got ≡ edit_bodies r rest.0 = rest.2 in
    (x ∷ rest.0, (rest.1.0, cc), cc)

first_bodies : (r : GenerationsRule) (edits : List PlaneEdit) (got : List (List ℕ)) → IsPrefix got (bodies_of r edits)
    → (got ≡ []) ⊎ ((some : List PlaneEdit) × IsPrefix some edits × (got ≡ bodies_of r some))
first_bodies r edits [] begins = inl refl
first_bodies r edits (g ∷ got) begins =
    let whole : (g ∷ got) ++ begins.0 ≡ bodies_of r edits = begins.1 in
    let tail : got ++ begins.0 ≡ edit_bodies r edits = cc in
    let rest : (some : List PlaneEdit) × IsPrefix some edits × (got ≡ edit_bodies r some) = first_edits r edits got begins.0 tail in
    let bodies : got ≡ edit_bodies r rest.0 = rest.2 in
    inr (rest.0, rest.1, cc)

begin_documents : (r : GenerationsRule) (a b : List PlaneEdit) → IsRule r → AreEditsUnder r a → AreEditsUnder r b → IsPrefix (bodies_of r a) (bodies_of r b) → IsPrefix a b
begin_documents r a b is told_a told_b begins =
    let whole : bodies_of r a ++ begins.0 ≡ bodies_of r b = begins.1 in
    let tail : edit_bodies r a ++ begins.0 ≡ edit_bodies r b = cc in
    begin_edits r a b begins.0 is told_a told_b tail

pub are_body_laws : AreBodyLaws
are_body_laws = record {
  one = one_document;
  first = first_bodies;
  begins = begin_documents;
  short = λ r e is told. edit_is_short r e is told.edits_are.0;
  short_head = head_is_short;
}
