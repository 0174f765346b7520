-- What an answer is of: an entry, and the board that the entry is for.
use Rattle.std.specs.Prelude.{None, []}
use Rattle.board.specs.declared.entry.Entry.{Entry}
use Rattle.board.specs.Showing.{Origin}
use Rattle.board.specs.Sights.{no_origin}

-- an entry, and which board it is for
pub record Topic : Type 0 where
  pub entry : Entry
  pub origin : Origin

-- the topic of an entry and an origin
abbrev pub topic : Entry → Origin → Topic
topic e h = record { entry = e; origin = h }

-- an entry that stands for none
abbrev pub no_entry : Entry
no_entry = record { seat = 0; number = 0; edit = record { stamp = 0; area = None; cells = [] } }

-- a topic that stands for none
abbrev pub no_topic : Topic
no_topic = topic no_entry no_origin
