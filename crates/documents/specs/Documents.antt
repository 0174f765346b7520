-- Documents, and the bytes of one.
use Rattle.std.specs.Prelude.{Bool, ℕ, List, not, count_by}
use Rattle.std.specs.List.{list_any}
use Rattle.generations_rule.specs.Rule.{GenerationsRule, IsRule}
use Rattle.edit_stamps.specs.Edit.{PlaneEdit, is_edit}
use Rattle.kept_records.specs.Records.{records_text}
use Rattle.document_bodies.specs.Bodies.{AreEditsUnder, bodies_of}
use Rattle.documents.specs.Sets.{IsAscending}

-- a rule, and edits
pub record DocumentState : Type 0 where
  pub rule : GenerationsRule
  pub edits : List PlaneEdit

-- the edits are edits under the rule, in the order of their stamps, each stamp once
pub record IsDocument (d : DocumentState) : Type 0 where
  pub is_rule : IsRule d.rule
  pub under : AreEditsUnder d.rule d.edits
  pub ascending : IsAscending d.edits

-- the bytes of a document: a record that names the rule, and one for each edit
abbrev pub document_text : GenerationsRule → List PlaneEdit → List ℕ
document_text rule edits = records_text (bodies_of rule edits)

-- an edit stands in a list
abbrev pub has_edit : List PlaneEdit → PlaneEdit → Bool
has_edit edits e = list_any (λ f. is_edit f e) edits

-- how many edits of the second list do not stand in the first
abbrev pub count_of_new : List PlaneEdit → List PlaneEdit → ℕ
count_of_new edits others = count_by (λ e. not (has_edit edits e)) others
