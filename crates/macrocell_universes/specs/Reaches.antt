-- How far the live cells of a square reach.
use Rattle.std.specs.Prelude.{◌≡◌, ◌≢◌, ℕ, suc, ◌+◌, ◌-◌, ◌^◌, ◌<◌, ◌≤◌, ◌==◌, Bool, ◌&&◌, nat_le, List, length, max, if◌then◌else◌, slice_get, Some}
use Rattle.macrocell_lines.specs.Squares.{StateSquare, level_of, state_in}
use Rattle.macrocell_text.specs.declared.entry.Entry.{Entry}
use Rattle.macrocell_text.specs.Macrocells.{squares_of}
use Rattle.macrocell_universes.specs.declared.reach.Reach.{Reach}

-- a square of level k has a state in a column and a row
pub record IsCellOf (k : ℕ) (q : StateSquare) (u v s : ℕ) : Type 0 where
  pub column : u < 2 ^ k
  pub row : v < 2 ^ k
  pub is : state_in q u v ≡ s

-- how far a cell of a square of level k is from its right edge, its left, its lower and its upper one, itself counted
abbrev pub to_west : (k u v : ℕ) → ℕ
to_west k u v = 2 ^ k - u

abbrev pub to_east : (k u v : ℕ) → ℕ
to_east k u v = suc u

abbrev pub to_north : (k u v : ℕ) → ℕ
to_north k u v = 2 ^ k - v

abbrev pub to_south : (k u v : ℕ) → ℕ
to_south k u v = suc v

-- a cell of a state is so far
pub record HasCellAt (far : (k u v : ℕ) → ℕ) (k : ℕ) (q : StateSquare) (s d : ℕ) : Type 0 where
  pub u : ℕ
  pub v : ℕ
  pub cell : IsCellOf k q u v s
  pub distance : far k u v ≡ d

-- the farthest live cell is so far; 0 where none is live
pub record IsFarthest (far : (k u v : ℕ) → ℕ) (k : ℕ) (q : StateSquare) (r : ℕ) : Type 0 where
  pub most : (s d : ℕ) → s ≢ 0 → HasCellAt far k q s d → d ≤ r
  pub has : 0 < r → (s : ℕ) × ((s ≢ 0) × HasCellAt far k q s r)

-- the greatest state, and how far live cells reach
pub record IsReach (k : ℕ) (q : StateSquare) (r : Reach) : Type 0 where
  pub most : (u v s : ℕ) → IsCellOf k q u v s → s ≤ r.state
  pub has : 0 < r.state → (u : ℕ) × ((v : ℕ) × IsCellOf k q u v r.state)
  pub west : IsFarthest to_west k q r.west
  pub east : IsFarthest to_east k q r.east
  pub north : IsFarthest to_north k q r.north
  pub south : IsFarthest to_south k q r.south

-- that of a cell
abbrev pub cell_reach : ℕ → Reach
cell_reach s = let far = if s == 0 then 0 else 1 in record { state = s; west = far; east = far; north = far; south = far }

-- how far something reaches of two halves of so many columns: in the far one, else in the near one
abbrev pub farther : (half near far : ℕ) → ℕ
farther half near far = if far == 0 then near else half + far

-- that of four squares put together, each of so many columns and rows
abbrev pub joined : ℕ → (nw ne sw se : Reach) → Reach
joined n nw ne sw se = record {
  state = max (max nw.state ne.state) (max sw.state se.state);
  west = farther n (max ne.west se.west) (max nw.west sw.west);
  east = farther n (max nw.east sw.east) (max ne.east se.east);
  north = farther n (max sw.north se.north) (max nw.north ne.north);
  south = farther n (max nw.south ne.south) (max sw.south se.south);
}

-- no further than so many columns and rows
pub record Fits (n : ℕ) (r : Reach) : Type 0 where
  pub west : r.west ≤ n
  pub east : r.east ≤ n
  pub north : r.north ≤ n
  pub south : r.south ≤ n

-- the live cells of a root of level k, one row further down, are in the plane
abbrev pub is_within_plane : ℕ → Reach → Bool
is_within_plane k r =
    let most = 2 ^ (k - 1) + 2 ^ 30 in
    (nat_le r.west most && nat_le r.east most) && (nat_le r.north (most + 1) && nat_le r.south (most - 1))

-- how far those of the first squares of entries reach
abbrev pub AreReached : List Entry → List Reach → Type 0
AreReached es rs = (i : ℕ) (q : StateSquare) (r : Reach) → slice_get (squares_of es) i ≡ Some q → slice_get rs i ≡ Some r → IsReach (level_of q) q r
