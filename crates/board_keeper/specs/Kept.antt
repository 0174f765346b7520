-- Which keepers there are.
use Rattle.std.specs.Prelude.{◌≡◌, ◌≢◌, ◌<◌, ◌≤◌, ◌^◌, ℕ, List, [], ◌++◌, length, map, take, Vec}
use Rattle.std.specs.List.{All}
use Rattle.std.specs.declared.alloc.Global.{Global}
use Rattle.generations_rule.specs.Rule.{GenerationsRule}
use Rattle.board.specs.declared.entry.Entry.{Entry}
use Rattle.board.specs.Entries.{edits_of}
use Rattle.document_bodies.specs.Bodies.{edit_bodies}
use Rattle.kept_log.specs.declared.log.LogState.TheVariants.{Empty, Failed, Open}
use Rattle.board_keeper.specs.Keeping.{IsInFile, IsSafe, Keeping}

-- These are the bodies of the first of some entries, in order, each short enough for a record; of the ready ones alone.
pub record AreMade (rule : GenerationsRule) (kept : List Entry) (ready : ℕ) (bodies : List (Vec ℕ Global)) : Type 0 where
  pub few : length bodies ≤ ready
  pub are : map (λ v. v.items) bodies ≡ edit_bodies rule (edits_of (take (length bodies) kept))
  pub short : All (λ v. length v.items ≤ 2 ^ 24) bodies

-- What was taken is the published list and then what is kept. While the file takes bodies, and while committed entries are
-- not published yet, it has just what is published and what was committed. No body is held while some are. Where it
-- failed, what it was to take is ready still.
pub record IsKeeper (k : Keeping) (bodies : List (Vec ℕ Global)) : Type 0 where
  pub out : k.relay.out ≡ k.relay.list ++ k.relay.kept
  pub ready : k.relay.ready ≤ length k.relay.kept
  pub within : k.committed ≤ k.relay.ready
  pub in_file : k.takes ≡ Open → IsInFile k
  pub takes : 0 < k.committed → k.takes ≡ Open
  pub begun : k.takes ≢ Empty
  pub failed : k.takes ≡ Failed → 0 < k.relay.ready
  pub safe : IsSafe k
  pub made : AreMade k.rule k.relay.kept k.relay.ready bodies
  pub none : 0 < k.committed → bodies ≡ []
