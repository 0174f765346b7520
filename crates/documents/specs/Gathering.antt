-- What the whole records in some bytes tell, wherever they begin.
use Rattle.std.specs.Prelude.{⊤, ◌≡◌, ◌≢◌, ◌≤◌, ◌+◌, ◌-◌, ℕ, List, [], ◌∷◌, ◌++◌, length, drop, Result, Ok, Err}
use Rattle.generations_rule.specs.Rule.{GenerationsRule}
use Rattle.edit_stamps.specs.Edit.{PlaneEdit}
use Rattle.kept_records.specs.Records.{BeginsNone, IsNextWhole, records_text}
use Rattle.delta_exchange.specs.Reading.{delta_of}
use Rattle.delta_exchange.specs.declared.fault.ReadFault.{ReadFault}
use Rattle.document_bodies.specs.declared.fault.BodyFault.{BodyFault}
use Rattle.document_bodies.specs.declared.fault.BodyFault.TheVariants as body
use Rattle.documents.specs.declared.fault.DocumentFault.{DocumentFault}
use Rattle.documents.specs.declared.fault.DocumentFault.TheVariants.{StateRange, OtherRule, SameStamp, NoDocument, Body, Memory}
use Rattle.documents.specs.declared.gathering.Gathered.{Gathered}
use Rattle.documents.specs.Sets.{ClashesWithin}
use Rattle.documents.specs.Results.{IsMadeOf}

-- ---- bodies

-- a message of one edit, or of none
abbrev pub at_most_one : List PlaneEdit → Result (List PlaneEdit) BodyFault
at_most_one [] = Ok []
at_most_one (e ∷ []) = Ok (e ∷ [])
at_most_one (e ∷ f ∷ edits) = Err body.NoDocument

abbrev pub told_by : Result (List PlaneEdit) ReadFault → Result (List PlaneEdit) BodyFault
told_by (Ok edits) = at_most_one edits
told_by (Err fault) = Err (body.Read fault)

-- the edit that a body tells under a rule, or none as the head of a document does; or why it tells neither
abbrev pub edits_told : GenerationsRule → List ℕ → Result (List PlaneEdit) BodyFault
edits_told r text = told_by (delta_of r text)

-- a body tells neither, and why
abbrev pub IsToldRefused : GenerationsRule → List ℕ → ℕ → DocumentFault → Type 0
IsToldRefused r text place (Body fault at_place) = (edits_told r text ≡ Err fault) × (at_place ≡ place)
IsToldRefused r text place Memory = ⊤
IsToldRefused r text place StateRange = ⊥
IsToldRefused r text place OtherRule = ⊥
IsToldRefused r text place (SameStamp stamp) = ⊥
IsToldRefused r text place NoDocument = ⊥

-- the edits that bodies tell, one after another
abbrev pub AreTold : GenerationsRule → List (List ℕ) → List PlaneEdit → Type 0
AreTold r [] edits = edits ≡ []
AreTold r (text ∷ texts) edits = (told : List PlaneEdit) × (rest : List PlaneEdit) × (edits_told r text ≡ Ok told) × AreTold r texts rest × (edits ≡ told ++ rest)

-- ---- records

-- From a place on, records of these bodies are found: each is the first that begins where the one before ends, or
-- further on. Behind the last is this place.
abbrev pub AreFoundTo : List ℕ → ℕ → List (List ℕ) → ℕ → Type 0
AreFoundTo bytes from [] to = to ≡ from
AreFoundTo bytes from (text ∷ texts) to = (start : ℕ) × IsNextWhole bytes from start text × AreFoundTo bytes (start + 20 + length text) texts to

-- from the first byte on these are found, and none behind them
pub record AreFound (bytes : List ℕ) (bodies : List (List ℕ)) : Type 0 where
  pub to : ℕ
  pub found : AreFoundTo bytes 0 bodies to
  pub none : (n : ℕ) → to ≤ n → BeginsNone (drop n bytes)

-- no record stands anywhere
abbrev pub HasNoRecord : List ℕ → Type 0
HasNoRecord bytes = (n : ℕ) → BeginsNone (drop n bytes)

-- ---- bytes

-- records are found and tell these edits; so many bytes are theirs
pub record AreGatheredIn (r : GenerationsRule) (bytes : List ℕ) (edits : List PlaneEdit) (read : ℕ) : Type 0 where
  pub bodies : List (List ℕ)
  pub some : bodies ≢ []
  pub found : AreFound bytes bodies
  pub told : AreTold r bodies edits
  pub count : read ≡ length (records_text bodies)

-- the document is made of what they tell; the other bytes are passed over
pub record IsGatheredAs (r : GenerationsRule) (bytes : List ℕ) (g : Gathered) : Type 0 where
  pub edits : List PlaneEdit
  pub read : ℕ
  pub gathered : AreGatheredIn r bytes edits read
  pub made : IsMadeOf r edits g.document
  pub passed : g.passed ≡ length bytes - read

-- the first record that tells neither an edit nor none stands at a place among those found, counted from 1
pub record IsFirstAmong (r : GenerationsRule) (bytes : List ℕ) (fault : BodyFault) (place : ℕ) : Type 0 where
  pub before : List (List ℕ)
  pub to : ℕ
  pub found : AreFoundTo bytes 0 before to
  pub start : ℕ
  pub text : List ℕ
  pub next : IsNextWhole bytes to start text
  pub edits : List PlaneEdit
  pub told : AreTold r before edits
  pub refused : edits_told r text ≡ Err fault
  pub counted : place ≡ length before + 1

-- two of the edits that records tell clash
pub record HasClashAmong (r : GenerationsRule) (bytes : List ℕ) (stamp : ℕ) : Type 0 where
  pub edits : List PlaneEdit
  pub read : ℕ
  pub gathered : AreGatheredIn r bytes edits read
  pub clash : ClashesWithin edits stamp

-- why the records tell no edits
abbrev pub IsLeftAt : GenerationsRule → List ℕ → DocumentFault → Type 0
IsLeftAt r bytes NoDocument = HasNoRecord bytes
IsLeftAt r bytes (Body fault place) = IsFirstAmong r bytes fault place
IsLeftAt r bytes Memory = HasNoRecord bytes → ⊥
IsLeftAt r bytes (SameStamp stamp) = ⊥
IsLeftAt r bytes StateRange = ⊥
IsLeftAt r bytes OtherRule = ⊥

abbrev pub IsGathered : GenerationsRule → List ℕ → Result Gathered DocumentFault → Type 0
IsGathered r bytes (Ok g) = IsGatheredAs r bytes g
IsGathered r bytes (Err NoDocument) = HasNoRecord bytes
IsGathered r bytes (Err (Body fault place)) = IsFirstAmong r bytes fault place
IsGathered r bytes (Err (SameStamp stamp)) = HasClashAmong r bytes stamp
IsGathered r bytes (Err Memory) = HasNoRecord bytes → ⊥
IsGathered r bytes (Err StateRange) = ⊥
IsGathered r bytes (Err OtherRule) = ⊥
