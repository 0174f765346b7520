-- What reading a document finds.
use Rattle.std.proofs.Common.{◌≡◌, ◌-◌, ℕ, List, ◌++◌, length, subst}
use Rattle.std.specs.Prelude.{Option, Some, IfSome, Err}
use Rattle.generations_rule.specs.Rule.{GenerationsRule, IsRule}
use Rattle.edit_stamps.specs.Edit.{PlaneEdit}
use Rattle.kept_records.specs.Records.{IsBody, record_text}
use Rattle.document_bodies.specs.Bodies.{AreEditsUnder, head_body}
use Rattle.documents.specs.declared.fault.DocumentFault.{DocumentFault}
use Rattle.documents.specs.declared.fault.DocumentFault.TheVariants.{StateRange, OtherRule, SameStamp, NoDocument, Body, Memory}
use Rattle.documents.specs.Sets.{ClashesWithin}
use Rattle.documents.specs.Results.{IsSetOf}
use Rattle.documents.specs.declared.reading.ListedEdits.{ListedEdits}
use Rattle.documents.specs.Reading.{AreToldIn, HasClash, IsDocumentRead, IsFirstRefused, IsListRead, IsListedAs, IsReadAs}
use Rattle.documents.proofs.Bodies.{has_records, some_record}
use Rattle.documents.proofs.Made.{made}

-- the rule that was found
pub rule_found : (found : Option GenerationsRule) (r : GenerationsRule) (text : List ℕ) → found ≡ Some r → IfSome found (λ q. IsRule q × (text ≡ head_body q)) → IsRule r × (text ≡ head_body r)
rule_found found r text is told = subst (λ (o : Option GenerationsRule). IfSome o (λ q. IsRule q × (text ≡ head_body q))) is told

-- a head that was read, and what stands behind it
pub record IsHeaded (r : GenerationsRule) (bytes head behind : List ℕ) : Type 0 where
  pub is_rule : IsRule r
  pub is_head : head ≡ head_body r
  pub is : IsBody head
  pub spelt : bytes ≡ record_text head ++ behind

pub refused : (r : GenerationsRule) (bytes head behind : List ℕ) (fault : DocumentFault) → IsHeaded r bytes head behind → IsFirstRefused r behind fault → IsListRead bytes (Err fault)
refused r bytes head behind (Body fault place) h first = record {
  rule = r;
  behind = behind;
  is_rule = h.is_rule;
  head = subst IsBody h.is_head h.is;
  spelt = subst (λ (l : List ℕ). bytes ≡ record_text l ++ behind) h.is_head h.spelt;
  first = first;
}
refused r bytes head behind Memory h first = some_record bytes head behind h.is h.spelt
refused r bytes head behind StateRange h first = absurd first
refused r bytes head behind OtherRule h first = absurd first
refused r bytes head behind (SameStamp stamp) h first = absurd first
refused r bytes head behind NoDocument h first = absurd first

-- ---- lists

pub listed_as : (bytes head behind rest : List ℕ) (l : ListedEdits) → IsHeaded l.rule bytes head behind → AreToldIn l.rule behind l.edits.items rest → l.whole ≡ length bytes - length rest → IsListedAs bytes l
listed_as bytes head behind rest l h t counted = record {
  bodies = t.bodies;
  has = has_records l.rule bytes head behind rest t.bodies l.whole h.is_rule h.is_head h.is h.spelt t.read counted;
  told = t.told;
}

-- what refuses the list refuses the document
pub list_refused : (bytes : List ℕ) (fault : DocumentFault) → IsListRead bytes (Err fault) → IsDocumentRead bytes (Err fault)
list_refused bytes NoDocument none = none
list_refused bytes (Body fault place) first = first
list_refused bytes Memory some = some
list_refused bytes StateRange never = absurd never
list_refused bytes OtherRule never = absurd never
list_refused bytes (SameStamp stamp) never = absurd never

pub clashes : (bytes : List ℕ) (l : ListedEdits) (stamp : ℕ) → IsListedAs bytes l → ClashesWithin l.edits.items stamp → HasClash bytes stamp
clashes bytes l stamp is clash = record { rule = l.rule; bodies = is.bodies; whole = l.whole; edits = l.edits.items; has = is.has; told = is.told; clash = clash }

pub read_as : (bytes : List ℕ) (l : ListedEdits) (set : List PlaneEdit) (count : ℕ) → IsListedAs bytes l → AreEditsUnder l.rule l.edits.items → IsSetOf l.edits.items set → count ≡ length l.edits.items
    → IsReadAs bytes (record { document = record { rule = l.rule; edits = set }; whole = l.whole; count = count })
read_as bytes l set count is under set_of all = record {
  bodies = is.bodies;
  edits = l.edits.items;
  has = is.has;
  told = is.told;
  count = all;
  made = made l.rule l.edits.items set is.has.is_rule under set_of;
}
