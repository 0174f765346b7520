-- What a contract sees of a relay.
use Rattle.std.specs.Prelude.{ℕ, Bool, List}
use Rattle.atomic_table.specs.Seated.{TableId}
use Rattle.board.specs.declared.entry.Entry.{Entry}
use Rattle.board.specs.Showing.{Origin}
use Rattle.receipts.specs.Topics.{Topic}

-- The published list; the entries that were taken and are not published yet, in order, and how many of these, from the
-- first on, are ready to be published; the last one that was answered, what was taken in all, and what the inbox knows; how
-- often the inbox was empty; the squares of the relay's own store, and its room.
pub record Relaying : Type 0 where
  pub list : List Entry
  pub kept : List Entry
  pub ready : ℕ
  pub answered : List Topic
  pub out : List Entry
  pub known : List (List Entry)
  pub made : ℕ
  pub origin : Origin
  pub inbox : TableId
  pub closed : Bool
  pub empties : ℕ
  pub stored : ℕ
  pub room : ℕ
