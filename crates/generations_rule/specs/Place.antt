-- The coordinates of a plane without an edge: x grows to the right, y downwards.
use Rattle.std.specs.Prelude.{ℕ, ℤ, pos, negsuc, ◌+ℤ◌, ◌-ℤ◌, ◌≤ℤ◌, Bool, ◌||◌, ◌&&◌, List, [], ◌∷◌, int_lt}
use Rattle.std.specs.Ordering.{int_eq}

pub record Place : Type 0 where
  pub x : ℤ
  pub y : ℤ

abbrev pub at_place : ℤ → ℤ → Place
at_place x y = record { x = x; y = y }

-- so far to the right and down
abbrev pub moved : Place → ℤ → ℤ → Place
moved c right down = record { x = c.x +ℤ right; y = c.y +ℤ down }

-- the eight neighbours of a place, row by row
abbrev pub around : Place → List Place
around c =
    moved c (negsuc 0) (negsuc 0) ∷ moved c (pos 0) (negsuc 0) ∷ moved c (pos 1) (negsuc 0)
    ∷ moved c (negsuc 0) (pos 0) ∷ moved c (pos 1) (pos 0)
    ∷ moved c (negsuc 0) (pos 1) ∷ moved c (pos 0) (pos 1) ∷ moved c (pos 1) (pos 1) ∷ []

-- d is within n of c in both coordinates
pub record IsWithin (n : ℕ) (c d : Place) : Type 0 where
  pub left : (c.x -ℤ pos n) ≤ℤ d.x
  pub right : d.x ≤ℤ (c.x +ℤ pos n)
  pub above : (c.y -ℤ pos n) ≤ℤ d.y
  pub below : d.y ≤ℤ (c.y +ℤ pos n)

-- by y, then by x
abbrev pub is_before : Place → Place → Bool
is_before c d = int_lt c.y d.y || (int_eq c.y d.y && int_lt c.x d.x)

-- the two are one place
abbrev pub is_place : Place → Place → Bool
is_place c d = int_eq c.x d.x && int_eq c.y d.y
