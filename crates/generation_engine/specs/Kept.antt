-- Squares, and the results that are kept of them.
use Rattle.std.specs.Prelude.{◌≡◌, ℕ, ◌+◌, ◌-◌, ◌*◌, ◌^◌, ◌<◌, ◌==◌, ◌&&◌, Bool, List, length, slice_get, slice_index_or, Option, Some}
use Rattle.std.specs.HashMap.{HashMap, get}
use Rattle.generations_rule.specs.Rule.{GenerationsRule, IsRule}
use Rattle.square_store.specs.Grid.{Grid, quartered}
use Rattle.square_store.specs.Squares.{Held, side_at, IsAt, grid_at, Draws}
use Rattle.square_store.specs.Store.{IsGrown}
use Rattle.generation_engine.specs.declared.leaf_kind.EngineLeaf.{EngineLeaf}
use Rattle.square_store.specs.declared.first_result.FirstResult.{FirstResult}
use Rattle.generation_engine.specs.declared.results.ResultKey.{ResultKey}
use Rattle.generation_engine.specs.EngineLeaf.{leaf_grid}
use Rattle.generation_engine.specs.Results.{IsResult}

-- what contracts see of a store that keeps results: the rule that they are under, and the squares
pub record RuledSquares : Type 0 where
  pub rule : GenerationsRule
  pub store : Held EngineLeaf

-- at q stands the result, t generations later, of the square of level k that stood at p
pub record IsLater (r : GenerationsRule) (old new : Held EngineLeaf) (k t p q : ℕ) : Type 0 where
  pub stands : IsAt new (k - 1) q
  pub result : IsResult r (side_at 4 (k - 1)) t (grid_at leaf_grid 8 old k p) (grid_at leaf_grid 8 new (k - 1) q)

-- when two keys are one
abbrev pub is_result_key : ResultKey → ResultKey → Bool
is_result_key x y = (x.level == y.level) && ((x.part == y.part) && (x.exponent == y.exponent))

-- the square that the key names stands, and q is its result
pub record IsKept (r : GenerationsRule) (s : Held EngineLeaf) (key : ResultKey) (q : ℕ) : Type 0 where
  pub stands : IsAt s key.level key.part
  pub later : IsLater r s s key.level (2 ^ key.exponent) key.part q

-- the rule is one, and each result that is kept is that of its square: the first of each at the place of the square, the others under their keys
pub record AreKept {S : Type 0} (r : GenerationsRule) (s : Held EngineLeaf) (firsts : List (Option FirstResult)) (others : HashMap ResultKey ℕ S) : Type 0 where
  pub rule : IsRule r
  pub first : (p : ℕ) (x : FirstResult) → slice_get firsts p ≡ Some (Some x) → IsKept r s (record { level = x.level; part = p; exponent = x.exponent }) x.later
  pub other : (key : ResultKey) (q : ℕ) → get is_result_key others key ≡ Some q → IsKept r s key q

-- no result is kept of any square
abbrev pub HasNoneKept : Held EngineLeaf → Type 0
HasNoneKept s = (p : ℕ) (x : FirstResult) → slice_get s.firsts p ≡ Some (Some x) → ⊥

-- the squares that stood stand, under the same rule
pub record HasGrown (old new : RuledSquares) : Type 0 where
  pub rule : new.rule ≡ old.rule
  pub store : IsGrown leaf_grid 8 old.store new.store

-- ---- squares side by side

-- these are w by w squares of level k, row by row, with these writes
pub record AreDrawn (s : Held EngineLeaf) (k w : ℕ) (f : ℕ → ℕ → Grid) (parts : List ℕ) : Type 0 where
  pub count : length parts ≡ w * w
  pub draws : (a b : ℕ) → a < w → b < w → Draws leaf_grid 8 s k (f a b) (slice_index_or parts (w * b + a) 0)

-- each square of side n with its right, its lower and its lower right neighbour
abbrev pub neighbours_joined : ℕ → (ℕ → ℕ → Grid) → ℕ → ℕ → Grid
neighbours_joined n f a b = quartered n (f a b) (f (a + 1) b) (f a (b + 1)) (f (a + 1) (b + 1))

-- these are the results of those squares of level k, t generations later
pub record AreLater (r : GenerationsRule) (old new : Held EngineLeaf) (k t : ℕ) (parts later : List ℕ) : Type 0 where
  pub count : length later ≡ length parts
  pub each : (i : ℕ) → i < length parts → IsLater r old new k t (slice_index_or parts i 0) (slice_index_or later i 0)

-- squares of level k stand at these parts
abbrev pub AllStand : Held EngineLeaf → ℕ → List ℕ → Type 0
AllStand s k parts = (i : ℕ) → i < length parts → IsAt s k (slice_index_or parts i 0)

-- a square of every level, all whose states are 0, stands there
pub record IsDeadAt (s : Held EngineLeaf) (p : ℕ) : Type 0 where
  pub stands : (k : ℕ) → IsAt s k p
  pub dead : (k u v : ℕ) → u < side_at 8 k → v < side_at 8 k → (grid_at leaf_grid 8 s k p u v).state ≡ 0
