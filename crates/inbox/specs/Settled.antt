-- What is known once all posts were taken in.
use Rattle.std.specs.Prelude.{◌≡◌, ℕ, ◌<◌, ◌≤◌, List, [], length, slice_index_or}
use Rattle.board.specs.declared.entry.Entry.{Entry}
use Rattle.inbox.specs.Hands.{of}

-- restricted to each seat, a list is what that seat put, in order, each once, and it has nothing else
pub record IsOf (list : List Entry) (puts : List (List Entry)) : Type 0 where
  pub each : (k : ℕ) → k < length puts → of k list ≡ slice_index_or puts k []
  pub none : (p : ℕ) → length puts ≤ p → of p list ≡ []

-- of each seat a list has as many entries as that seat put, or more
abbrev pub HasAsMany : List Entry → List (List Entry) → Type 0
HasAsMany list puts = (k : ℕ) → k < length puts → length (slice_index_or puts k []) ≤ length (of k list)
