-- A relay whose list stands in a file, and what a crash leaves of it.
use Rattle.std.specs.Prelude.{◌≡◌, ◌≤◌, ℕ, List, ◌++◌, take}
use Rattle.generations_rule.specs.Rule.{GenerationsRule}
use Rattle.board.specs.declared.entry.Entry.{Entry}
use Rattle.board.specs.Entries.{edits_of}
use Rattle.document_bodies.specs.Bodies.{bodies_of}
use Rattle.kept_devices.specs.Keep.{KnownKeep}
use Rattle.kept_log.specs.Kept.{Keeps, LeavesNow}
use Rattle.kept_log.specs.declared.log.LogState.{LogState}
use Rattle.relay_board.specs.Relaying.{Relaying}

-- The relay, and the rule of its board; the file, and what it takes; and how many of the ready entries stand in it.
pub record Keeping : Type 0 where
  pub relay : Relaying
  pub rule : GenerationsRule
  pub file : KnownKeep
  pub takes : LogState
  pub committed : ℕ

-- the bodies of the document that has the edits of these entries
abbrev pub bodies_in : GenerationsRule → List Entry → List (List ℕ)
bodies_in r entries = bodies_of r (edits_of entries)

-- the file has what is published, and the ready entries that were committed
abbrev pub IsInFile : Keeping → Type 0
IsInFile k = Keeps (bodies_in k.rule (k.relay.list ++ take k.committed k.relay.kept)) k.file

-- Whatever a crash leaves now is read as the document of a list that begins with what is published, and begins what was
-- taken: what a reader saw is there, and nothing that nobody submitted.
abbrev pub IsSafe : Keeping → Type 0
IsSafe k = LeavesNow (bodies_in k.rule k.relay.list) (bodies_in k.rule k.relay.out) k.file
