-- Results of squares, which HashLife keeps (Gosper, Physica D 10, 1984).
use Rattle.std.specs.Prelude.{◌≡◌, ℕ, ◌+◌, ◌*◌, ◌<◌, ◌≤◌, ℤ, pos}
use Rattle.generations_rule.specs.Place.{Place, moved}
use Rattle.generations_rule.specs.Rule.{GenerationsRule, IsRule}
use Rattle.generations_rule.specs.Evolution.{at}
use Rattle.square_store.specs.Grid.{Grid, quartered}

-- the map has the states of a square of side n, whose corner is here
abbrev pub LiesAt : (Place → ℕ) → Place → ℕ → Grid → Type 0
LiesAt f corner n c = (u v : ℕ) → u < n → v < n → f (moved corner (pos u) (pos v)) ≡ (c u v).state

-- the square d is the result of the square c of side 4 n after t generations: whatever map c lies in, d is its middle then
pub record IsResult (r : GenerationsRule) (n t : ℕ) (c d : Grid) : Type 0 where
  pub later : (f : Place → ℕ) (corner : Place) → ((place : Place) → f place < r.states) → LiesAt f corner (4 * n) c → LiesAt (at r f t) (moved corner (pos n) (pos n)) (2 * n) d

-- what a square has from a column and a row on
abbrev pub part_from : Grid → ℕ → ℕ → Grid
part_from c left top u v = c (left + u) (top + v)

-- ---- laws

-- a map that is moved evolves as it did, moved
abbrev pub MovesAlong : Type 0
MovesAlong = (r : GenerationsRule) (f : Place → ℕ) (right down : ℤ) (g : ℕ) (c : Place) → at r (λ d. f (moved d right down)) g c ≡ at r f g (moved c right down)

-- the middle of a square after t generations, t being a quarter of its side at most, does not depend on the map that it lies in, nor on where
abbrev pub HasOneResult : Type 0
HasOneResult = (r : GenerationsRule) (n t : ℕ) (c : Grid) (f h : Place → ℕ) (here there : Place) → t ≤ n → LiesAt f here (4 * n) c → LiesAt h there (4 * n) c
    → (u v : ℕ) → u < 2 * n → v < 2 * n → at r f t (moved (moved here (pos n) (pos n)) (pos u) (pos v)) ≡ at r h t (moved (moved there (pos n) (pos n)) (pos u) (pos v))

-- the middle of a square is its result after no generation
abbrev pub CentreIsResult : Type 0
CentreIsResult = (r : GenerationsRule) (n : ℕ) (c : Grid) → IsResult r n 0 c (part_from c n n)

-- a square of side 8 n has nine overlapping squares of side 4 n; their results after t generations, put together by fours, are four squares of side 4 n, whose results after t' more are the quarters of its own after t + t'
abbrev pub IsComputedInTwoPasses : Type 0
IsComputedInTwoPasses = (r : GenerationsRule) → IsRule r → (n t t' : ℕ) (c : Grid) (d z : ℕ → ℕ → Grid)
    → ((a b : ℕ) → a < 3 → b < 3 → IsResult r n t (part_from c (2 * n * a) (2 * n * b)) (d a b))
    → ((a b : ℕ) → a < 2 → b < 2 → IsResult r n t' (quartered (2 * n) (d a b) (d (a + 1) b) (d a (b + 1)) (d (a + 1) (b + 1))) (z a b))
    → IsResult r (2 * n) (t + t') c (quartered (2 * n) (z 0 0) (z 1 0) (z 0 1) (z 1 1))
