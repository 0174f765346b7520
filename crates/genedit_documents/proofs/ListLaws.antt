-- Parts of lists of edits.
use Rattle.std.proofs.Common.{ℕ, zero, suc, List, [], ◌∷◌, take}
use Rattle.std.specs.Prelude.{Option, Some, None}
use Rattle.generations_rule.specs.Rule.{GenerationsRule}
use Rattle.edit_stamps.specs.Edit.{PlaneEdit}
use Rattle.document_bodies.specs.Bodies.{AreEditsUnder}
use Rattle.genedit_documents.specs.Listing.{first_of}

-- the first edits of those under a rule are under it
under_take : (r : GenerationsRule) (n : ℕ) (edits : List PlaneEdit) → AreEditsUnder r edits → AreEditsUnder r (take n edits)
under_take r zero edits under = tt
under_take r (suc n) [] under = tt
under_take r (suc n) (e ∷ edits) under = (under.0, under_take r n edits under.1)

pub under_first : (r : GenerationsRule) (most : Option ℕ) (edits : List PlaneEdit) → AreEditsUnder r edits → AreEditsUnder r (first_of most edits)
under_first r None edits under = under
under_first r (Some n) edits under = under_take r n edits under
