-- The one tree of a map: blanks, leaves of 8 by 8 writes, and squares of four quarters.
use Rattle.std.specs.Prelude.{◌≡◌, ℕ, zero, suc, ◌+◌, ◌*◌, ◌<◌, pos, List, length, slice_index_or, IsTrue}
use Rattle.generations_rule.specs.Place.{Place, moved, at_place}
use Rattle.stamped_writes.specs.declared.write.Write.{Write}
use Rattle.stamped_writes.specs.Write.{Writes}
use Rattle.edit_stamps.specs.Plane.{least, is_in}
use Rattle.edit_stamps.specs.PlaneMap.{square}
use Rattle.leaf_merge_lanes.specs.Leaf.{write_of}
use Rattle.square_store.specs.Squares.{side_at}

pub data Tree : Type 0 where
  Blank : (stamp : ℕ) → Tree
  Leaf : (writes : List Write) → Tree
  Four : (nw ne sw se : Tree) → Tree

-- the side of a square so many levels above a leaf
abbrev pub side : ℕ → ℕ
side above = side_at 8 above

-- the places of the square of a side at a corner
abbrev pub IsInSquare : Place → ℕ → Place → Type 0
IsInSquare corner n c = IsTrue (is_in (square corner n) c)

-- each write of the square is (t, 0)
abbrev pub IsBlank : Writes → Place → ℕ → ℕ → Type 0
IsBlank p corner n t = (c : Place) → IsInSquare corner n c → p c ≡ write_of t 0

-- the square is not blank with any stamp
abbrev pub IsMixed : Writes → Place → ℕ → Type 0
IsMixed p corner n = (t : ℕ) → IsBlank p corner n t → ⊥

-- the corners of the other three quarters of side n
abbrev pub east : ℕ → Place → Place
east n corner = moved corner (pos n) (pos 0)

abbrev pub south : ℕ → Place → Place
south n corner = moved corner (pos 0) (pos n)

abbrev pub south_east : ℕ → Place → Place
south_east n corner = moved corner (pos n) (pos n)

-- the 64 writes of a leaf's square, row by row
pub record AreLeafWrites (p : Writes) (corner : Place) (writes : List Write) : Type 0 where
  pub count : length writes ≡ 64
  pub each : (column row : ℕ) → column < 8 → row < 8 → (d : Write) → slice_index_or writes (8 * row + column) d ≡ p (moved corner (pos column) (pos row))

-- the tree of the square at a corner, so many levels above a leaf: no square that is blank is spelt out
abbrev pub IsTreeOf : Writes → ℕ → Place → Tree → Type 0
IsTreeOf p above corner (Blank t) = IsBlank p corner (side above) t
IsTreeOf p zero corner (Leaf writes) = IsMixed p corner (side 0) × AreLeafWrites p corner writes
IsTreeOf p (suc above) corner (Four nw ne sw se) =
    IsMixed p corner (side (suc above)) × IsTreeOf p above corner nw × IsTreeOf p above (east (side above) corner) ne
    × IsTreeOf p above (south (side above) corner) sw × IsTreeOf p above (south_east (side above) corner) se
IsTreeOf p zero corner (Four nw ne sw se) = ⊥
IsTreeOf p (suc above) corner (Leaf writes) = ⊥

-- the upper left corner of the plane
abbrev pub plane_corner : Place
plane_corner = at_place least least

-- the tree of the whole plane, which has level 31
abbrev pub IsPlaneTree : Writes → Tree → Type 0
IsPlaneTree p tree = IsTreeOf p 28 plane_corner tree

abbrev pub AreSameIn : Place → ℕ → Writes → Writes → Type 0
AreSameIn corner n p q = (c : Place) → IsInSquare corner n c → p c ≡ q c

-- a map has one tree
abbrev pub OneTree : Type 0
OneTree = (p q : Writes) (above : ℕ) (corner : Place) (a b : Tree) → IsTreeOf p above corner a → IsTreeOf q above corner b → AreSameIn corner (side above) p q → a ≡ b

-- a tree has one map
abbrev pub OneMap : Type 0
OneMap = (p q : Writes) (above : ℕ) (corner : Place) (a : Tree) → IsTreeOf p above corner a → IsTreeOf q above corner a → AreSameIn corner (side above) p q
