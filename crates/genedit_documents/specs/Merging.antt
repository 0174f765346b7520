-- A document and the bytes of another, put together.
use Rattle.std.specs.Prelude.{◌≡◌, ◌⊎◌, ℕ, true, false, List, Result, Ok, Err}
use Rattle.documents.specs.declared.fault.DocumentFault.{DocumentFault}
use Rattle.documents.specs.declared.gathering.Gathered.{Gathered}
use Rattle.documents.specs.Documents.{DocumentState}
use Rattle.documents.specs.Gathering.{IsGathered, IsGatheredAs}
use Rattle.documents.specs.Results.{IsMerged, IsUnionOf}
use Rattle.documents.specs.Renumber.{IsRenumbered, has_replica}
use Rattle.genedit_documents.specs.declared.merging.Merged.{Merged}
use Rattle.genedit_documents.specs.declared.merging.RenumberFault.{RenumberFault}
use Rattle.genedit_documents.specs.declared.merging.RenumberFault.TheVariants.{Document, Taken}

-- the union of the document and of what the bytes tell under its rule
pub record IsMergedAs (d : DocumentState) (bytes : List ℕ) (m : Merged) : Type 0 where
  pub gathered : Gathered
  pub told : IsGatheredAs d.rule bytes gathered
  pub union : IsUnionOf d gathered.document m.document
  pub passed : m.passed ≡ gathered.passed

-- what they tell has no union with it, and why
pub record IsUnmerged (d : DocumentState) (bytes : List ℕ) (fault : DocumentFault) : Type 0 where
  pub gathered : Gathered
  pub told : IsGatheredAs d.rule bytes gathered
  pub refused : IsMerged d gathered.document (Err fault)

abbrev pub IsMergedWith : DocumentState → List ℕ → Result Merged DocumentFault → Type 0
IsMergedWith d bytes (Ok m) = IsMergedAs d bytes m
IsMergedWith d bytes (Err fault) = IsGathered d.rule bytes (Err fault) ⊎ IsUnmerged d bytes fault

-- ---- taken by another number

-- the union of the document and of what the bytes tell, of which each edit whose stamp stands for another is a replica's of this number; of
-- that replica neither has an edit
pub record IsRenumberedAs (number : ℕ) (d : DocumentState) (bytes : List ℕ) (m : Merged) : Type 0 where
  pub gathered : Gathered
  pub told : IsGatheredAs d.rule bytes gathered
  pub free : has_replica number d.edits ≡ false
  pub free_there : has_replica number gathered.document.edits ≡ false
  pub others : DocumentState
  pub renumbered : IsRenumbered number d.edits gathered.document (Ok others)
  pub union : IsUnionOf d others m.document
  pub passed : m.passed ≡ gathered.passed

-- one of the two has an edit of the replica
abbrev pub IsTaken : ℕ → DocumentState → List ℕ → Type 0
IsTaken number d bytes = (g : Gathered) × IsGatheredAs d.rule bytes g × ((has_replica number d.edits ≡ true) ⊎ (has_replica number g.document.edits ≡ true))

-- neither has an edit of the replica; but they are not taken by that number, or have no union with the document then, and why
pub record IsNotRenumbered (number : ℕ) (d : DocumentState) (bytes : List ℕ) (fault : DocumentFault) : Type 0 where
  pub gathered : Gathered
  pub told : IsGatheredAs d.rule bytes gathered
  pub free : has_replica number d.edits ≡ false
  pub free_there : has_replica number gathered.document.edits ≡ false
  pub refused : IsRenumbered number d.edits gathered.document (Err fault)
      ⊎ ((others : DocumentState) × IsRenumbered number d.edits gathered.document (Ok others) × IsMerged d others (Err fault))

abbrev pub IsRenumberedWith : ℕ → DocumentState → List ℕ → Result Merged RenumberFault → Type 0
IsRenumberedWith number d bytes (Ok m) = IsRenumberedAs number d bytes m
IsRenumberedWith number d bytes (Err Taken) = IsTaken number d bytes
IsRenumberedWith number d bytes (Err (Document fault)) = IsGathered d.rule bytes (Err fault) ⊎ IsNotRenumbered number d bytes fault
