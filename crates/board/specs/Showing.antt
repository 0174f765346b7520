-- What a contract sees of the board's value.
use Rattle.std.specs.Prelude.{ℕ, List}
use Rattle.logbook.specs.Pages.{Book}
use Rattle.board.specs.declared.entry.Entry.{Entry}

-- which board it is: the history of its list, and its rule's number of states
pub record Origin : Type 0 where
  pub book : Book
  pub states : ℕ

-- the list for which the plane and the last edits stand; the list of the front that was published with it, and that front's origin
pub record Showing : Type 0 where
  pub list : List Entry
  pub log : List Entry
  pub origin : Origin
