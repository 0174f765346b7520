-- A journal: the edits that a replica drew or was given in messages, in order, each once.
use Rattle.std.specs.Prelude.{if◌then◌else◌, List, [], ◌∷◌, ◌++◌}
use Rattle.std.specs.List.{list_any}
use Rattle.edit_stamps.specs.Edit.{PlaneEdit, is_edit}

-- edits behind a journal one by one, each that is in it by then left out
abbrev pub noted : List PlaneEdit → List PlaneEdit → List PlaneEdit
noted journal [] = journal
noted journal (e ∷ edits) = noted (if list_any (is_edit e) journal then journal else journal ++ e ∷ []) edits
