-- Records that are put into a document's file.
use Rattle.std.specs.Prelude.{⊤, ◌≡◌, ◌≢◌, ◌⊎◌, ℕ, true, false, List, [], ◌∷◌, ◌++◌, codes, decimal, Result, Ok, Err}
use Rattle.edit_stamps.specs.Edit.{PlaneEdit}
use Rattle.edit_stamps.specs.Stamp.{counter_in, replica_in}
use Rattle.kept_devices.specs.Keep.{KnownKeep}
use Rattle.kept_log.specs.Kept.{Always, Keeps, Leaves}
use Rattle.kept_log.specs.declared.log.LogState.{LogState}
use Rattle.kept_log.specs.declared.log.LogState.TheVariants.{Open}
use Rattle.kept_records.specs.Records.{BeginsNone, IsBody, record_text}
use Rattle.document_bodies.specs.Faults.{body_fault_number, body_fault_text}
use Rattle.document_bodies.specs.declared.fault.BodyFault.{BodyFault}
use Rattle.documents.specs.Documents.{DocumentState}
use Rattle.documents.specs.Gathering.{edits_told}
use Rattle.documents.specs.Results.{IsInserted}
use Rattle.documents.specs.declared.fault.DocumentFault.{DocumentFault}
use Rattle.documents.specs.declared.fault.DocumentFault.TheVariants as documents
use Rattle.document_pen.specs.declared.feeding.Fed.{Fed}
use Rattle.document_pen.specs.declared.feeding.Fed.TheVariants as fed
use Rattle.document_pen.specs.declared.feeding.FeedFault.{FeedFault}
use Rattle.document_pen.specs.declared.feeding.FeedFault.TheVariants as fault

-- the file that has the document, and what it takes; and the document
pub record FeedState : Type 0 where
  pub file : KnownKeep
  pub takes : LogState
  pub document : DocumentState

-- ---- the file

-- where the file keeps bodies, whatever a crash leaves at any moment are these, or these and one behind them
abbrev pub IsSafeFor : List ℕ → FeedState → FeedState → Type 0
IsSafeFor body m n = (bodies : List (List ℕ)) → Keeps bodies m.file → Always (Leaves bodies (bodies ++ body ∷ [])) m.file n.file

-- it keeps that one too, on the disk
pub record KeepsOneMore (body : List ℕ) (m n : FeedState) : Type 0 where
  pub kept : (bodies : List (List ℕ)) → Keeps bodies m.file → Keeps (bodies ++ body ∷ []) n.file
  pub safe : IsSafeFor body m n
  pub open_still : n.takes ≡ Open

-- it failed, now or before, and takes nothing more
pub record KeepsNoMore (body : List ℕ) (m n : FeedState) : Type 0 where
  pub safe : IsSafeFor body m n
  pub stopped : n.takes ≢ Open

-- it was not touched
abbrev pub IsFileLeft : FeedState → FeedState → Type 0
IsFileLeft m n = (n.file ≡ m.file) × (n.takes ≡ m.takes)

abbrev pub IsKeptOf : List ℕ → FeedState → FeedState → Result Fed FeedFault → Type 0
IsKeptOf body m n (Ok fed.New) = KeepsOneMore body m n
IsKeptOf body m n (Ok fed.Known) = ⊥
IsKeptOf body m n (Err fault.NoRecord) = ⊥
IsKeptOf body m n (Err (fault.Body why)) = ⊥
IsKeptOf body m n (Err (fault.SameStamp stamp)) = ⊥
IsKeptOf body m n (Err fault.Memory) = IsFileLeft m n
IsKeptOf body m n (Err fault.Write) = KeepsNoMore body m n

-- ---- an edit

-- memory is wanting for the document, which is as it was, or for the file, behind the document
abbrev pub LacksFor : PlaneEdit → FeedState → FeedState → Type 0
LacksFor e m n = IsInserted m.document e n.document (Err documents.Memory) ⊎ IsInserted m.document e n.document (Ok true)

-- a document refuses an edit that has its rule's states
abbrev pub RefusesPut : DocumentFault → Type 0
RefusesPut documents.StateRange = ⊥
RefusesPut documents.OtherRule = ⊥
RefusesPut (documents.SameStamp stamp) = ⊤
RefusesPut documents.NoDocument = ⊥
RefusesPut (documents.Body why place) = ⊥
RefusesPut documents.Memory = ⊤

-- which is told so
abbrev pub IsPutFault : DocumentFault → FeedFault → Type 0
IsPutFault documents.StateRange told = ⊥
IsPutFault documents.OtherRule told = ⊥
IsPutFault (documents.SameStamp stamp) told = told ≡ fault.SameStamp stamp
IsPutFault documents.NoDocument told = ⊥
IsPutFault (documents.Body why place) told = ⊥
IsPutFault documents.Memory told = told ≡ fault.Memory

-- it is put into the document, and its body into the file; or the document has it; or refuses it, and nothing is done
abbrev pub IsPutBy : List ℕ → PlaneEdit → FeedState → FeedState → Result Fed FeedFault → Type 0
IsPutBy body e m n (Ok fed.New) = IsInserted m.document e n.document (Ok true) × KeepsOneMore body m n
IsPutBy body e m n (Ok fed.Known) = IsInserted m.document e n.document (Ok false) × IsFileLeft m n
IsPutBy body e m n (Err fault.NoRecord) = ⊥
IsPutBy body e m n (Err (fault.Body why)) = ⊥
IsPutBy body e m n (Err (fault.SameStamp stamp)) = IsInserted m.document e n.document (Err (documents.SameStamp stamp)) × IsFileLeft m n
IsPutBy body e m n (Err fault.Memory) = LacksFor e m n × IsFileLeft m n
IsPutBy body e m n (Err fault.Write) = IsInserted m.document e n.document (Ok true) × KeepsNoMore body m n

-- ---- a record

-- no record begins the bytes, or more stands behind it
abbrev pub IsNoRecord : List ℕ → Type 0
IsNoRecord text = BeginsNone text ⊎ ((body : List ℕ) × (more : List ℕ) × IsBody body × (text ≡ record_text body ++ more) × (more ≢ []))

-- the text is the record of a body
pub record IsRecordOf (body text : List ℕ) : Type 0 where
  pub is_body : IsBody body
  pub spelt : text ≡ record_text body

-- the record tells this edit, which was put so
pub record IsFedEdit (text : List ℕ) (m n : FeedState) (result : Result Fed FeedFault) : Type 0 where
  pub body : List ℕ
  pub is_record : IsRecordOf body text
  pub edit : PlaneEdit
  pub told : edits_told m.document.rule body ≡ Ok (edit ∷ [])
  pub put : IsPutBy body edit m n result

-- it tells none, as the first of a document does, or neither, and why; nothing is done
pub record IsFedNone (told : Result (List PlaneEdit) BodyFault) (text : List ℕ) (m n : FeedState) : Type 0 where
  pub body : List ℕ
  pub is_record : IsRecordOf body text
  pub tells : edits_told m.document.rule body ≡ told
  pub left : n ≡ m

-- memory is wanting to read it, and nothing is done
abbrev pub LacksReading : List ℕ → FeedState → FeedState → Type 0
LacksReading text m n = (body : List ℕ) × IsRecordOf body text × (n ≡ m)

abbrev pub IsFed : List ℕ → FeedState → FeedState → Result Fed FeedFault → Type 0
IsFed text m n (Ok fed.New) = IsFedEdit text m n (Ok fed.New)
IsFed text m n (Ok fed.Known) = IsFedEdit text m n (Ok fed.Known) ⊎ IsFedNone (Ok []) text m n
IsFed text m n (Err fault.NoRecord) = IsNoRecord text × (n ≡ m)
IsFed text m n (Err (fault.Body why)) = IsFedNone (Err why) text m n
IsFed text m n (Err (fault.SameStamp stamp)) = IsFedEdit text m n (Err (fault.SameStamp stamp))
IsFed text m n (Err fault.Memory) = LacksReading text m n ⊎ IsFedEdit text m n (Err fault.Memory)
IsFed text m n (Err fault.Write) = IsFedEdit text m n (Err fault.Write)

-- ---- what is said

-- a body tells no edit, by the number and the name of its refusal
abbrev pub feed_refusal : BodyFault → List ℕ
feed_refusal why = codes "refused " ++ (decimal (body_fault_number why) ++ (codes " " ++ (body_fault_text why ++ codes ": its record tells no edit under the rule")))

-- another edit has a stamp
abbrev pub feed_clash : ℕ → List ℕ
feed_clash stamp = codes "refused 41 SameStamp " ++ (decimal (counter_in stamp) ++ (codes " " ++ (decimal (replica_in stamp) ++ codes ": another edit has that counter and replica")))

-- why a record is not put into a document, in words
abbrev pub feed_fault_text : FeedFault → List ℕ
feed_fault_text fault.NoRecord = codes "it is no record"
feed_fault_text (fault.Body why) = feed_refusal why
feed_fault_text (fault.SameStamp stamp) = feed_clash stamp
feed_fault_text fault.Memory = codes "out of memory"
feed_fault_text fault.Write = codes "the file failed"
