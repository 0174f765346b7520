-- What a contract sees of a publisher, and what a publication does.
use Rattle.std.specs.Prelude.{◌≡◌, List, Result, MatchResult}
use Rattle.std.specs.declared.alloc.AllocError.{AllocError}
use Rattle.board.specs.declared.entry.Entry.{Entry}
use Rattle.board.specs.Showing.{Origin}

-- the published list, the list once what was announced is published, and which board it is
pub record Publishing : Type 0 where
  pub list : List Entry
  pub announced : List Entry
  pub origin : Origin

-- from a to b by a publication: what was announced is published then, or, without memory, nothing more than before
pub record Publishes (a : Publishing) (done : Result (Unit {0}) AllocError) (b : Publishing) : Type 0 where
  pub origin : b.origin ≡ a.origin
  pub announced : b.announced ≡ a.announced
  pub list : MatchResult done (λ _. b.list ≡ a.announced) (λ _. b.list ≡ a.list)
