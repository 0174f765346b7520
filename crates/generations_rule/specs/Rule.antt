-- A rule of Golly's Generations family: a set of survival counts, a set of birth counts, and a number of states.
-- State 0 is dead, 1 is live, and the others are dying. Only live neighbours are counted.
use Rattle.std.specs.Prelude.{◌≡◌, ℕ, ◌+◌, ◌%◌, ◌≤◌, Bool, false, List, length, ◌==◌, if◌then◌else◌, slice_index_or}

-- each set is nine tests, for the counts 0 to 8
pub record GenerationsRule : Type 0 where
  pub survival : List Bool
  pub birth : List Bool
  pub states : ℕ

-- the set has the count
abbrev pub has : List Bool → ℕ → Bool
has counts n = slice_index_or counts n false

-- which rules there are: nothing is born where no neighbour is live, and there are 2 to 256 states
pub record IsRule (r : GenerationsRule) : Type 0 where
  pub survival : length r.survival ≡ 9
  pub birth : length r.birth ≡ 9
  pub no_birth_on_none : has r.birth 0 ≡ false
  pub least : 2 ≤ r.states
  pub most : r.states ≤ 256

-- the state of a cell in state s, n of whose neighbours are live, one generation later
abbrev pub next_state : GenerationsRule → ℕ → ℕ → ℕ
next_state r s n =
    if s == 0 then (if has r.birth n then 1 else 0)
    else (if s == 1 then (if has r.survival n then 1 else 2 % r.states) else (s + 1) % r.states)
