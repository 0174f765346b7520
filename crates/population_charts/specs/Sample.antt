-- How many cells of each state there are at a generation.
use Rattle.std.specs.Prelude.{◌≡◌, ℕ, ◌-◌, ◌<◌, ◌==◌, Bool, List, [], ◌∷◌, count_by, length, map, max, not, slice_index, if◌then◌else◌}
use Rattle.std.specs.List.{list_any}
use Rattle.pattern_cells.specs.declared.cell.Cell.{Cell}

-- a generation, and the numbers of cells of the states 1, 2, .. there
pub record SampleValue : Type 0 where
  pub generation : ℕ
  pub counts : List ℕ

-- how many cells of a state a sample has; dead cells are not counted, nor a state behind its last
abbrev pub count_of : ℕ → SampleValue → ℕ
count_of state s = if state == 0 then 0 else slice_index s.counts (state - 1)

-- the sampled generations
abbrev pub generations_of : List SampleValue → List ℕ
generations_of samples = map (λ s. s.generation) samples

-- the numbers of cells of a state, one for each sample
abbrev pub counts_of : ℕ → List SampleValue → List ℕ
counts_of state samples = map (λ s. count_of state s) samples

-- whether a state has cells in some sample
abbrev pub has_cells : ℕ → List SampleValue → Bool
has_cells state samples = list_any (λ s. not (count_of state s == 0)) samples

-- the greatest of some numbers; 0 of none
abbrev pub greatest : List ℕ → ℕ
greatest [] = 0
greatest (n ∷ ns) = max n (greatest ns)

-- the greatest number of cells of one state in one sample
abbrev pub most_cells : List SampleValue → ℕ
most_cells samples = greatest (map (λ s. greatest s.counts) samples)

-- under a rule of so many states a sample has of each state but the dead one how many of some cells have it
pub record IsSampleOf (states g : ℕ) (cells : List Cell) (s : SampleValue) : Type 0 where
  pub generation : s.generation ≡ g
  pub some : length s.counts ≡ states - 1
  pub counts : (state : ℕ) → 0 < state → state < states → count_of state s ≡ count_by (λ c. c.state == state) cells
