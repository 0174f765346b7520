-- Lists of entries.
use Rattle.std.specs.Prelude.{ℕ, Bool, List, map}
use Rattle.std.specs.List.{list_all}
use Rattle.edit_stamps.specs.Edit.{PlaneEdit, has_states_below}
use Rattle.circular_buffer.specs.Buffer.{keep_last}
use Rattle.board.specs.declared.entry.Entry.{Entry}

-- the edits of some entries, in order
abbrev pub edits_of : List Entry → List PlaneEdit
edits_of es = map (λ (e : Entry). e.edit) es

-- each listed state of each edit is below a number
abbrev pub all_below : ℕ → List Entry → Bool
all_below states es = list_all (λ (e : Entry). has_states_below states e.edit) es

-- the last edits, at most 1,024
abbrev pub last_of : List PlaneEdit → List PlaneEdit
last_of es = keep_last 1024 es
