-- A run of a keeper: its turns, and that it is closed once.
use Rattle.std.specs.Prelude.{◌≡◌, ◌⊎◌, ℕ, zero, suc, true}
use Rattle.board_keeper.specs.Keeping.{IsSafe, Keeping}
use Rattle.board_keeper.specs.Steps.{IsStep}

-- new submissions are refused from now on
abbrev pub ClosesNow : Keeping → Keeping → Type 0
ClosesNow a b = b ≡ record a { relay = record a.relay { closed = true } }

-- So many steps and closes. Before each, and behind the last, a crash leaves a document between what is published and what
-- was taken; a file is only changed by a commit, and at each moment of that it is so too.
abbrev pub AreRunSteps : ℕ → Keeping → Keeping → Type 0
AreRunSteps zero a b = (b ≡ a) × IsSafe a
AreRunSteps (suc steps) a b = (mid : Keeping) × AreRunSteps steps a mid × (IsStep mid b ⊎ ClosesNow mid b) × IsSafe b

-- from the one to the other by some of them
abbrev pub Runs : Keeping → Keeping → Type 0
Runs a b = (steps : ℕ) × AreRunSteps steps a b

-- a run of the same board under the same rule
pub record IsAmid (a b : Keeping) : Type 0 where
  pub run : Runs a b
  pub made : b.relay.made ≡ a.relay.made
  pub origin : b.relay.origin ≡ a.relay.origin
  pub rule : b.rule ≡ a.rule
