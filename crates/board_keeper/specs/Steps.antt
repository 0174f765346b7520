-- What is done to a relay and to its file, one after another.
use Rattle.std.specs.Prelude.{◌≡◌, ◌⊎◌, ◌<◌, ◌≤◌, ◌-◌, ℕ, zero, suc, List, Ok}
use Rattle.std.specs.declared.alloc.AllocError.{AllocError}
use Rattle.kept_log.specs.Kept.{Always, Leaves}
use Rattle.kept_log.specs.declared.log.LogState.TheVariants.{Failed, Open}
use Rattle.relay_board.specs.Same.{Same}
use Rattle.relay_board.specs.Turns.{Readies, Shows}
use Rattle.relay_board.specs.declared.relay.Readiness.{Readiness}
use Rattle.board_keeper.specs.Keeping.{IsSafe, Keeping, bodies_in}

-- an entry is made ready, or none could be; nothing is published, and the file is left alone
pub record MakesReady (a b : Keeping) : Type 0 where
  pub readiness : Readiness
  pub same : Same a.relay b.relay
  pub readied : Readies a.relay readiness b.relay
  pub left : b ≡ record a { relay = b.relay }

-- the first ready entry, which was committed, is published and answered; the file is left alone
pub record ShowsKept (a b : Keeping) : Type 0 where
  pub kept : 0 < a.committed
  pub stamp : ℕ
  pub shown : Shows {E = AllocError} a.relay (Ok stamp) b.relay
  pub left : b ≡ record a { relay = b.relay; committed = a.committed - 1 }

-- at each moment of it a crash leaves a list between what is published and what was taken
abbrev pub IsSafeThroughout : Keeping → Keeping → Type 0
IsSafeThroughout a b = Always (Leaves (bodies_in a.rule a.relay.list) (bodies_in a.rule a.relay.out)) a.file b.file

-- some of the ready entries are committed, where none is that was not published; the relay is left alone
pub record Commits (a b : Keeping) : Type 0 where
  pub none : a.committed ≡ 0
  pub takes : a.takes ≡ Open
  pub some : 0 < b.committed
  pub ready : b.committed ≤ a.relay.ready
  pub safe : IsSafeThroughout a b
  pub left : b ≡ record a { file = b.file; committed = b.committed }

-- the file failed as they were to be committed: it takes nothing more
pub record FailsCommit (a b : Keeping) : Type 0 where
  pub none : a.committed ≡ 0
  pub takes : a.takes ≡ Open
  pub safe : IsSafeThroughout a b
  pub left : b ≡ record a { file = b.file; takes = Failed }

abbrev pub IsStep : Keeping → Keeping → Type 0
IsStep a b = (MakesReady a b ⊎ ShowsKept a b) ⊎ (Commits a b ⊎ FailsCommit a b)

-- So many steps, and behind each a crash leaves what it may. So it does at each moment: a file is only changed by a commit.
abbrev pub AreSteps : ℕ → Keeping → Keeping → Type 0
AreSteps zero a b = b ≡ a
AreSteps (suc steps) a b = (mid : Keeping) × AreSteps steps a mid × IsStep mid b × IsSafe b
