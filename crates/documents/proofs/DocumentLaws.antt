-- The laws of documents.
use Rattle.std.proofs.Common.{List, ap, ◌∙◌}
use Rattle.generations_rule.specs.Rule.{GenerationsRule}
use Rattle.edit_stamps.specs.Edit.{PlaneEdit}
use Rattle.documents.specs.Documents.{document_text}
use Rattle.documents.specs.Laws.{AreDocumentLaws}
use Rattle.documents.proofs.Renumbers.{renumbers_none}
use Rattle.documents.proofs.SetLaws.{set_has_one_list}
use Rattle.documents.proofs.TextLaws.{text_told}
use Rattle.documents.proofs.Unions.{antisymmetric, associative, commutative, has_one_union, idempotent, join_of_maps, least, left, right}

pub are_document_laws : AreDocumentLaws
are_document_laws = record {
  set = set_has_one_list;
  text = λ a b is also rule same.
      ap (λ (r : GenerationsRule). document_text r a.edits) rule
      ∙ ap (λ (edits : List PlaneEdit). document_text b.rule edits) (set_has_one_list a.edits b.edits is.ascending also.ascending same);
  told = λ a b is also same. text_told a.rule b.rule a.edits b.edits is.is_rule also.is_rule is.under also.under same;
  commutative = commutative;
  associative = associative;
  idempotent = idempotent;
  reflexive = λ a stamp e read. read;
  transitive = λ a b c first second stamp e read. second stamp e (first stamp e read);
  antisymmetric = antisymmetric;
  left = left;
  right = right;
  least = least;
  map = join_of_maps;
  exists = λ a b up also agree. has_one_union a b up also;
  renumbers_none = renumbers_none;
}
