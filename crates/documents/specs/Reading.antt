-- What bytes are read as.
use Rattle.std.specs.Prelude.{⊤, ◌≡◌, ◌≤◌, ◌+◌, ℕ, List, [], ◌∷◌, ◌++◌, length, drop, take, map, Result, Ok, Err}
use Rattle.generations_rule.specs.Rule.{GenerationsRule, IsRule}
use Rattle.edit_stamps.specs.Edit.{PlaneEdit}
use Rattle.kept_records.specs.Records.{AreBodies, AreRead, Begins, BeginsNone, IsBody, record_text, records_text}
use Rattle.document_bodies.specs.Bodies.{IsHead, head_body}
use Rattle.document_bodies.specs.Reading.{edit_of}
use Rattle.document_bodies.specs.declared.fault.BodyFault.{BodyFault}
use Rattle.documents.specs.declared.fault.DocumentFault.{DocumentFault}
use Rattle.documents.specs.declared.fault.DocumentFault.TheVariants.{StateRange, OtherRule, SameStamp, NoDocument, Body, Memory}
use Rattle.documents.specs.declared.reading.ListedEdits.{ListedEdits}
use Rattle.documents.specs.declared.reading.ReadDocument.{ReadDocument}
use Rattle.documents.specs.Sets.{ClashesWithin}
use Rattle.documents.specs.Results.{IsMadeOf}

-- ---- bodies

-- each body tells the edit at its place
abbrev pub AreEditsOf : GenerationsRule → List (List ℕ) → List PlaneEdit → Type 0
AreEditsOf r bodies edits = map (edit_of r) bodies ≡ map Ok edits

-- a body tells no edit, and why
abbrev pub IsBodyRefused : GenerationsRule → List ℕ → ℕ → DocumentFault → Type 0
IsBodyRefused r body place (Body fault at_place) = (edit_of r body ≡ Err fault) × (at_place ≡ place)
IsBodyRefused r body place Memory = ⊤
IsBodyRefused r body place StateRange = ⊥
IsBodyRefused r body place OtherRule = ⊥
IsBodyRefused r body place (SameStamp stamp) = ⊥
IsBodyRefused r body place NoDocument = ⊥

-- ---- the records of edits

-- bytes are read as records, up to where none begins, and each tells an edit
pub record AreToldIn (r : GenerationsRule) (bytes : List ℕ) (edits : List PlaneEdit) (rest : List ℕ) : Type 0 where
  pub bodies : List (List ℕ)
  pub read : AreRead bytes bodies rest
  pub told : AreEditsOf r bodies edits

-- the first record that tells no edit stands at a place, counted from 1
pub record IsFirstAt (r : GenerationsRule) (bytes : List ℕ) (fault : BodyFault) (place : ℕ) : Type 0 where
  pub before : List (List ℕ)
  pub body : List ℕ
  pub behind : List ℕ
  pub edits : List PlaneEdit
  pub are : AreBodies (before ++ body ∷ [])
  pub spelt : bytes ≡ records_text (before ++ body ∷ []) ++ behind
  pub told : AreEditsOf r before edits
  pub refused : edit_of r body ≡ Err fault
  pub counted : place ≡ length before + 1

abbrev pub IsFirstRefused : GenerationsRule → List ℕ → DocumentFault → Type 0
IsFirstRefused r bytes (Body fault place) = IsFirstAt r bytes fault place
IsFirstRefused r bytes Memory = ⊤
IsFirstRefused r bytes StateRange = ⊥
IsFirstRefused r bytes OtherRule = ⊥
IsFirstRefused r bytes (SameStamp stamp) = ⊥
IsFirstRefused r bytes NoDocument = ⊥

-- ---- bytes

-- no record stands in front that names a rule
abbrev pub HasNoDocument : List ℕ → Type 0
HasNoDocument bytes = (body : List ℕ) → Begins bytes body → IsHead body → ⊥

-- records are read whose first names a rule; the bodies of the others, and how many bytes all have
pub record HasRecords (bytes : List ℕ) (r : GenerationsRule) (bodies : List (List ℕ)) (whole : ℕ) : Type 0 where
  pub is_rule : IsRule r
  pub read : AreRead bytes (head_body r ∷ bodies) (drop whole bytes)
  pub within : whole ≤ length bytes
  pub spelt : records_text (head_body r ∷ bodies) ≡ take whole bytes

-- each record behind the first tells an edit, in order
pub record IsListedAs (bytes : List ℕ) (l : ListedEdits) : Type 0 where
  pub bodies : List (List ℕ)
  pub has : HasRecords bytes l.rule bodies l.whole
  pub told : AreEditsOf l.rule bodies l.edits.items

-- the document is made of the edits of all records
pub record IsReadAs (bytes : List ℕ) (d : ReadDocument) : Type 0 where
  pub bodies : List (List ℕ)
  pub edits : List PlaneEdit
  pub has : HasRecords bytes d.document.rule bodies d.whole
  pub told : AreEditsOf d.document.rule bodies edits
  pub count : d.count ≡ length edits
  pub made : IsMadeOf d.document.rule edits d.document

-- a record in front names a rule, one behind it tells no edit, and those between do
pub record HasBodyRefused (bytes : List ℕ) (fault : BodyFault) (place : ℕ) : Type 0 where
  pub rule : GenerationsRule
  pub behind : List ℕ
  pub is_rule : IsRule rule
  pub head : IsBody (head_body rule)
  pub spelt : bytes ≡ record_text (head_body rule) ++ behind
  pub first : IsFirstAt rule behind fault place

-- each record tells an edit, and two of these clash
pub record HasClash (bytes : List ℕ) (stamp : ℕ) : Type 0 where
  pub rule : GenerationsRule
  pub bodies : List (List ℕ)
  pub whole : ℕ
  pub edits : List PlaneEdit
  pub has : HasRecords bytes rule bodies whole
  pub told : AreEditsOf rule bodies edits
  pub clash : ClashesWithin edits stamp

abbrev pub IsListRead : List ℕ → Result ListedEdits DocumentFault → Type 0
IsListRead bytes (Ok l) = IsListedAs bytes l
IsListRead bytes (Err NoDocument) = HasNoDocument bytes
IsListRead bytes (Err (Body fault place)) = HasBodyRefused bytes fault place
IsListRead bytes (Err Memory) = BeginsNone bytes → ⊥
IsListRead bytes (Err (SameStamp stamp)) = ⊥
IsListRead bytes (Err StateRange) = ⊥
IsListRead bytes (Err OtherRule) = ⊥

abbrev pub IsDocumentRead : List ℕ → Result ReadDocument DocumentFault → Type 0
IsDocumentRead bytes (Ok d) = IsReadAs bytes d
IsDocumentRead bytes (Err NoDocument) = HasNoDocument bytes
IsDocumentRead bytes (Err (Body fault place)) = HasBodyRefused bytes fault place
IsDocumentRead bytes (Err (SameStamp stamp)) = HasClash bytes stamp
IsDocumentRead bytes (Err Memory) = BeginsNone bytes → ⊥
IsDocumentRead bytes (Err StateRange) = ⊥
IsDocumentRead bytes (Err OtherRule) = ⊥
