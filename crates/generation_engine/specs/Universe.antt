-- A universe of states as squares, each once, and what holds of every engine.
use Rattle.std.specs.Prelude.{◌≡◌, ℕ, ◌-◌, ◌^◌, ◌<◌, ◌≤◌, ℤ, pos, negsuc, ◌-ℤ◌, ◌+ℤ◌, nat_abs, Bool, false, ◌&&◌, int_le, int_lt, if◌then◌else◌}
use Rattle.generations_rule.specs.Place.{Place, moved}
use Rattle.generations_rule.specs.Rule.{GenerationsRule}
use Rattle.stamped_writes.specs.Write.{Writes}
use Rattle.bitplane_kernel.specs.Population.{population}
use Rattle.square_store.specs.Squares.{Held, IsAt, grid_at}
use Rattle.generation_engine.specs.declared.leaf_kind.EngineLeaf.{EngineLeaf}
use Rattle.generation_engine.specs.EngineLeaf.{leaf_grid, unstamped}

-- what contracts see of an engine: its rule, the squares that it stores, with their room, the part that is the whole universe, and the generation
pub record EngineValue : Type 0 where
  pub rule : GenerationsRule
  pub store : Held EngineLeaf
  pub root : ℕ
  pub generation : ℕ

-- ---- the universe: x and y from -2^32 to 2^32 - 1, a square of level 33, which is 30 levels above a leaf

-- its upper left corner
abbrev pub universe_corner : Place
universe_corner = record { x = negsuc (2 ^ 32 - 1); y = negsuc (2 ^ 32 - 1) }

abbrev pub is_coordinate_in_universe : ℤ → Bool
is_coordinate_in_universe n = int_le (negsuc (2 ^ 32 - 1)) n && int_lt n (pos (2 ^ 32))

abbrev pub is_in_universe : Place → Bool
is_in_universe c = is_coordinate_in_universe c.x && is_coordinate_in_universe c.y

-- how many columns a coordinate is from the left edge of the universe, or rows from the upper one
abbrev pub from_universe_edge : ℤ → ℕ
from_universe_edge n = nat_abs (n -ℤ negsuc (2 ^ 32 - 1))

-- the state at each place: the root's in its column and row, and 0 outside the universe
abbrev pub states_of : EngineValue → Place → ℕ
states_of e c = if is_in_universe c then (grid_at leaf_grid 8 e.store 30 e.root (from_universe_edge c.x) (from_universe_edge c.y)).state else 0

-- two maps of states are the same
abbrev pub AreSameStates : (Place → ℕ) → (Place → ℕ) → Type 0
AreSameStates f h = (c : Place) → f c ≡ h c

-- the states of a map of writes
abbrev pub states_in_writes : Writes → Place → ℕ
states_in_writes p c = (p c).state

-- a map of states, as writes that were never stamped
abbrev pub unstamped_writes : (Place → ℕ) → Writes
unstamped_writes f c = unstamped (f c)

-- how many cells of the universe are not dead
abbrev pub population_of : EngineValue → ℕ
population_of e = population (2 ^ 33) (λ u v. states_of e (moved universe_corner (pos u) (pos v)))

-- ---- what holds of every engine

-- the coordinate is at most g from the plane's
abbrev pub is_coordinate_in_reach : ℕ → ℤ → Bool
is_coordinate_in_reach g n = int_le (negsuc (2 ^ 30 - 1) -ℤ pos g) n && int_lt n (pos (2 ^ 30) +ℤ pos g)

abbrev pub is_in_reach : ℕ → Place → Bool
is_in_reach g c = is_coordinate_in_reach g c.x && is_coordinate_in_reach g c.y

-- the root is of level 33, states are below the rule's number of states, and a cell comes no further from the plane than there were generations, which are 2^29 at most
pub record IsEngine (e : EngineValue) : Type 0 where
  pub root : IsAt e.store 30 e.root
  pub below : (c : Place) → states_of e c < e.rule.states
  pub generations : e.generation ≤ 2 ^ 29
  pub reach : (c : Place) → is_in_reach e.generation c ≡ false → states_of e c ≡ 0
