-- The eight ways to lay the plane on itself with its origin and its neighbours kept: the symmetries of a square. y grows downwards.
use Rattle.std.specs.Prelude.{ℕ, neg_ℤ}
use Rattle.generations_rule.specs.Place.{Place, at_place}
use Rattle.pattern_turns.specs.declared.turn.Turn.{Turn}
use Rattle.pattern_turns.specs.declared.turn.Turn.TheVariants.{Left, Right, Half, Mirror, Flip}

-- as it is; a quarter turn to the left or to the right, a half turn; mirrored in the vertical axis, in the horizontal one, in the diagonal that goes down to the right, in the one that goes up to the right
pub data Way : Type 0 where
  Unturned : Way
  TurnedLeft : Way
  TurnedRight : Way
  TurnedHalf : Way
  Mirrored : Way
  Flipped : Way
  Transposed : Way
  Antitransposed : Way

abbrev pub way_of : Turn → Way
way_of Left = TurnedLeft
way_of Right = TurnedRight
way_of Half = TurnedHalf
way_of Mirror = Mirrored
way_of Flip = Flipped

-- where a way puts a place
abbrev pub put : Way → Place → Place
put Unturned c = c
put TurnedLeft c = at_place c.y (neg_ℤ c.x)
put TurnedRight c = at_place (neg_ℤ c.y) c.x
put TurnedHalf c = at_place (neg_ℤ c.x) (neg_ℤ c.y)
put Mirrored c = at_place (neg_ℤ c.x) c.y
put Flipped c = at_place c.x (neg_ℤ c.y)
put Transposed c = at_place c.y c.x
put Antitransposed c = at_place (neg_ℤ c.y) (neg_ℤ c.x)

-- the way back
abbrev pub inverse : Way → Way
inverse Unturned = Unturned
inverse TurnedLeft = TurnedRight
inverse TurnedRight = TurnedLeft
inverse TurnedHalf = TurnedHalf
inverse Mirrored = Mirrored
inverse Flipped = Flipped
inverse Transposed = Transposed
inverse Antitransposed = Antitransposed

-- a map of states, laid so: at a place is what stood where the way back puts it
abbrev pub laid : Way → (Place → ℕ) → Place → ℕ
laid w f c = f (put (inverse w) c)

-- the one way that does what the second does, and then what the first does
abbrev pub after : Way → Way → Way
after Unturned Unturned = Unturned
after Unturned TurnedLeft = TurnedLeft
after Unturned TurnedRight = TurnedRight
after Unturned TurnedHalf = TurnedHalf
after Unturned Mirrored = Mirrored
after Unturned Flipped = Flipped
after Unturned Transposed = Transposed
after Unturned Antitransposed = Antitransposed
after TurnedLeft Unturned = TurnedLeft
after TurnedLeft TurnedLeft = TurnedHalf
after TurnedLeft TurnedRight = Unturned
after TurnedLeft TurnedHalf = TurnedRight
after TurnedLeft Mirrored = Transposed
after TurnedLeft Flipped = Antitransposed
after TurnedLeft Transposed = Flipped
after TurnedLeft Antitransposed = Mirrored
after TurnedRight Unturned = TurnedRight
after TurnedRight TurnedLeft = Unturned
after TurnedRight TurnedRight = TurnedHalf
after TurnedRight TurnedHalf = TurnedLeft
after TurnedRight Mirrored = Antitransposed
after TurnedRight Flipped = Transposed
after TurnedRight Transposed = Mirrored
after TurnedRight Antitransposed = Flipped
after TurnedHalf Unturned = TurnedHalf
after TurnedHalf TurnedLeft = TurnedRight
after TurnedHalf TurnedRight = TurnedLeft
after TurnedHalf TurnedHalf = Unturned
after TurnedHalf Mirrored = Flipped
after TurnedHalf Flipped = Mirrored
after TurnedHalf Transposed = Antitransposed
after TurnedHalf Antitransposed = Transposed
after Mirrored Unturned = Mirrored
after Mirrored TurnedLeft = Antitransposed
after Mirrored TurnedRight = Transposed
after Mirrored TurnedHalf = Flipped
after Mirrored Mirrored = Unturned
after Mirrored Flipped = TurnedHalf
after Mirrored Transposed = TurnedRight
after Mirrored Antitransposed = TurnedLeft
after Flipped Unturned = Flipped
after Flipped TurnedLeft = Transposed
after Flipped TurnedRight = Antitransposed
after Flipped TurnedHalf = Mirrored
after Flipped Mirrored = TurnedHalf
after Flipped Flipped = Unturned
after Flipped Transposed = TurnedLeft
after Flipped Antitransposed = TurnedRight
after Transposed Unturned = Transposed
after Transposed TurnedLeft = Mirrored
after Transposed TurnedRight = Flipped
after Transposed TurnedHalf = Antitransposed
after Transposed Mirrored = TurnedLeft
after Transposed Flipped = TurnedRight
after Transposed Transposed = Unturned
after Transposed Antitransposed = TurnedHalf
after Antitransposed Unturned = Antitransposed
after Antitransposed TurnedLeft = Flipped
after Antitransposed TurnedRight = Mirrored
after Antitransposed TurnedHalf = Transposed
after Antitransposed Mirrored = TurnedRight
after Antitransposed Flipped = TurnedLeft
after Antitransposed Transposed = TurnedHalf
after Antitransposed Antitransposed = Unturned
