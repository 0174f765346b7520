-- The bytes of documents tell their rules and edits.
use Rattle.std.proofs.Common.{◌≡◌, ◌<◌, ◌^◌, ℕ, List, [], ◌∷◌, ◌++◌, length, take, drop, refl, sym, ap, ◌∙◌, append_assoc, arith}
use Rattle.std.proofs.lemmas.List.{length-append, take_at, drop_at}
use Rattle.std.proofs.lemmas.Nat.{from_be_bytes-to_be_bytes_4}
use Rattle.generations_rule.specs.Rule.{GenerationsRule, IsRule}
use Rattle.edit_stamps.specs.Edit.{PlaneEdit}
use Rattle.kept_records.specs.Records.{record_text, records_text, head_text, size_at}
use Rattle.kept_records.proofs.FrontLaws.{head_length}
use Rattle.document_bodies.specs.Bodies.{AreEditsUnder, bodies_of, edit_bodies}
use Rattle.document_bodies.proofs.BodyLaws.{are_body_laws}
use Rattle.documents.specs.Documents.{document_text}

-- ---- records of bodies that are short enough tell these

size_told : (a more : List ℕ) → length a < 2 ^ 32 → size_at (record_text a ++ more) ≡ length a
unfolding size_at head_text
size_told a more small = from_be_bytes-to_be_bytes_4 (length a) small

one_front : (a b more rest : List ℕ) → length a < 2 ^ 32 → length b < 2 ^ 32 → record_text a ++ more ≡ record_text b ++ rest → (a ≡ b) × (more ≡ rest)
one_front a b more rest small also e =
    let long : length a ≡ length b = sym (size_told a more small) ∙ ap size_at e ∙ size_told b rest also in
    let whole : head_text a ++ (a ++ more) ≡ head_text b ++ (b ++ rest) = sym (append_assoc (head_text a) a more) ∙ e ∙ append_assoc (head_text b) b rest in
    let behind : a ++ more ≡ b ++ rest =
    sym (drop_at (head_text a) (a ++ more) 20 (head_length a)) ∙ ap (λ (l : List ℕ). drop 20 l) whole ∙ drop_at (head_text b) (b ++ rest) 20 (head_length b) in (
      sym (take_at a more (length a) refl) ∙ ap (λ (l : List ℕ). take (length a) l) behind ∙ take_at b rest (length a) (sym long),
      sym (drop_at a more (length a) refl) ∙ ap (λ (l : List ℕ). drop (length a) l) behind ∙ drop_at b rest (length a) (sym long),
    )

-- each body of a list is short
AreShort : List (List ℕ) → Type 0
AreShort [] = Unit {0}
AreShort (body ∷ bodies) = (length body < 2 ^ 32) × AreShort bodies

no_record : (body more : List ℕ) → [] ≡ record_text body ++ more → ⊥
no_record body more e = omega (arith, ap length e, length-append (record_text body) more, length-append (head_text body) body, head_length body)

bodies_told : (xs ys : List (List ℕ)) → AreShort xs → AreShort ys → records_text xs ≡ records_text ys → xs ≡ ys
unfolding AreShort
bodies_told [] [] short also e = refl
bodies_told [] (y ∷ ys) short also e = absurd (no_record y (records_text ys) e)
bodies_told (x ∷ xs) [] short also e = absurd (no_record x (records_text xs) (sym e))
bodies_told (x ∷ xs) (y ∷ ys) short also e =
    let fronts = one_front x y (records_text xs) (records_text ys) short.0 also.0 e in
    let head : x ≡ y = fronts.0 in
    let tail : xs ≡ ys = bodies_told xs ys short.1 also.1 fronts.1 in
    λ i. head i ∷ tail i

-- ---- those of a document are

edits_short : (r : GenerationsRule) (edits : List PlaneEdit) → IsRule r → AreEditsUnder r edits → AreShort (edit_bodies r edits)
unfolding AreShort
edits_short r [] is under = tt
edits_short r (e ∷ edits) is under = (omega (arith, are_body_laws.short r e is under.0), edits_short r edits is under.1)

bodies_short : (r : GenerationsRule) (edits : List PlaneEdit) → IsRule r → AreEditsUnder r edits → AreShort (bodies_of r edits)
unfolding AreShort
bodies_short r edits is under = (omega (arith, are_body_laws.short_head r is), edits_short r edits is under)

pub text_told : (q r : GenerationsRule) (a b : List PlaneEdit) → IsRule q → IsRule r → AreEditsUnder q a → AreEditsUnder r b → document_text q a ≡ document_text r b → (q ≡ r) × (a ≡ b)
text_told q r a b is_q is_r under also e =
    are_body_laws.one q r a b is_q is_r under also (bodies_told (bodies_of q a) (bodies_of r b) (bodies_short q a is_q under) (bodies_short r b is_r also) e)
