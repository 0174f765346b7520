-- What a front is of, and what it has seen.
use Rattle.std.specs.Prelude.{◌≡◌, List}
use mathlib.Core.List.{IsPrefix}
use Rattle.board.specs.declared.entry.Entry.{Entry}
use Rattle.board.specs.declared.front.Front.{Front}
use Rattle.board.specs.Showing.{Origin}

-- which board it is: its history, and its rule's number of states
abbrev pub origin : Front → Origin
origin f = record { book = f.prefix.seen.book; states = f.states }

-- the entries that were seen
abbrev pub list_of : Front → List Entry
list_of f = f.prefix.seen.log

-- the second is of the same board, and its list begins with the first one's
abbrev pub GoesOn : Front → Front → Type 0
GoesOn f g = IsPrefix (list_of f) (list_of g) × (origin g ≡ origin f)
