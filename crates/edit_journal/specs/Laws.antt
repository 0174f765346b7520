-- What a journal obeys.
use Rattle.std.specs.Prelude.{◌≡◌, ◌↔◌, List, ◌++◌, Contains}
use Rattle.std.specs.List.{IsDistinct}
use Rattle.edit_stamps.specs.Edit.{PlaneEdit, is_edit}
use Rattle.edit_journal.specs.Journal.{noted}

-- a noted journal has the edits of both lists; noting again changes nothing; and where no edit stands twice, none does after
pub record NotesEdits : Type 0 where
  pub members : (journal edits : List PlaneEdit) (e : PlaneEdit) → Contains (noted journal edits) e ↔ Contains (journal ++ edits) e
  pub again : (journal edits : List PlaneEdit) → noted (noted journal edits) edits ≡ noted journal edits
  pub once : (journal edits : List PlaneEdit) → IsDistinct is_edit journal → IsDistinct is_edit (noted journal edits)
