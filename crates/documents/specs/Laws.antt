-- What documents and their unions obey.
use Rattle.std.specs.Prelude.{◌≡◌, ℕ, List}
use Rattle.edit_stamps.specs.Edit.{PlaneEdit, greatest}
use Rattle.stamped_writes.specs.Write.{AreSame, joined}
use Rattle.documents.specs.Sets.{Agree, AreOneSet, IsAscending, IsPartOf, IsUnion}
use Rattle.documents.specs.Documents.{DocumentState, IsDocument, document_text}
use Rattle.documents.specs.Renumber.{renumbered}

-- two sets have one union, and no other
pub record HasOneUnion (a b : List PlaneEdit) : Type 0 where
  pub union : List PlaneEdit
  pub ascending : IsAscending union
  pub is : IsUnion a b union
  pub one : (other : List PlaneEdit) → IsAscending other → IsUnion a b other → other ≡ union

pub record AreDocumentLaws : Type 0 where
  -- a set has one list in order
  pub set : (a b : List PlaneEdit) → IsAscending a → IsAscending b → AreOneSet a b → a ≡ b
  -- so equal sets under one rule have equal bytes, and equal bytes are those of one rule and one set
  pub text : (a b : DocumentState) → IsDocument a → IsDocument b → a.rule ≡ b.rule → AreOneSet a.edits b.edits → document_text a.rule a.edits ≡ document_text b.rule b.edits
  pub told : (a b : DocumentState) → IsDocument a → IsDocument b → document_text a.rule a.edits ≡ document_text b.rule b.edits → (a.rule ≡ b.rule) × (a.edits ≡ b.edits)
  -- the union of sets that agree does not ask which comes first
  pub commutative : (a b c : List PlaneEdit) → Agree a b → IsUnion a b c → IsUnion b a c
  -- nor how three are taken together
  pub associative : (a b c ab bc x y : List PlaneEdit) → IsAscending x → IsAscending y → IsUnion a b ab → IsUnion ab c x → IsUnion b c bc → IsUnion a bc y → x ≡ y
  -- with itself a set gives itself
  pub idempotent : (a : List PlaneEdit) → IsUnion a a a
  -- being part is an order
  pub reflexive : (a : List PlaneEdit) → IsPartOf a a
  pub transitive : (a b c : List PlaneEdit) → IsPartOf a b → IsPartOf b c → IsPartOf a c
  pub antisymmetric : (a b : List PlaneEdit) → IsAscending a → IsAscending b → IsPartOf a b → IsPartOf b a → a ≡ b
  -- and by it the union of sets that agree is the least set that both are part of
  pub left : (a b c : List PlaneEdit) → IsUnion a b c → IsPartOf a c
  pub right : (a b c : List PlaneEdit) → Agree a b → IsUnion a b c → IsPartOf b c
  pub least : (a b c d : List PlaneEdit) → IsUnion a b c → IsPartOf a d → IsPartOf b d → IsPartOf c d
  -- the map of a union is the join of the maps
  pub map : (a b c : List PlaneEdit) → IsAscending a → IsAscending b → IsAscending c → Agree a b → IsUnion a b c → AreSame (greatest c) (joined (greatest a) (greatest b))
  -- two sets that agree have one union
  pub exists : (a b : List PlaneEdit) → IsAscending a → IsAscending b → Agree a b → HasOneUnion a b
  -- and then none of the second is taken as another replica's: so taken it is merged as it is
  pub renumbers_none : (number : ℕ) (a b : List PlaneEdit) → IsAscending b → Agree a b → renumbered number a b ≡ b
