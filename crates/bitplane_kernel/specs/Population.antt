-- How many cells of a square of states are not dead.
use Rattle.std.specs.Prelude.{◌≡◌, ℕ, zero, suc, ◌+◌, ◌<◌, ◌==◌, if◌then◌else◌, List, slice_index}

-- the sum of f over n numbers, from s on
unfoldable pub sum_from : ℕ → ℕ → (ℕ → ℕ) → ℕ
sum_from s zero f = 0
sum_from s (suc n) f = f s + sum_from (suc s) n f

-- 1 for a state that is not 0
abbrev pub one_unless_dead : ℕ → ℕ
one_unless_dead state = if state == 0 then 0 else 1

-- how many cells in the first n columns and rows are not dead
abbrev pub population : ℕ → (ℕ → ℕ → ℕ) → ℕ
population n states = sum_from 0 n (λ y. sum_from 0 n (λ x. one_unless_dead (states x y)))

-- all 64 states are 0
abbrev pub AreDead : List ℕ → Type 0
AreDead states = (i : ℕ) → i < 64 → slice_index states i ≡ 0
