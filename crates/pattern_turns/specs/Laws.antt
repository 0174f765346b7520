-- What turns obey.
use Rattle.std.specs.Prelude.{◌≡◌, ◌≢◌, ℕ, ◌<◌, ℤ, pos, Contains}
use Rattle.generations_rule.specs.Place.{Place, at_place, moved}
use Rattle.generations_rule.specs.Rule.{GenerationsRule}
use Rattle.generations_rule.specs.Evolution.{at}
use Rattle.pattern_cells.specs.declared.pattern.PatternCell.{PatternCell}
use Rattle.pattern_cells.specs.Pattern.{RlePattern, IsPattern}
use Rattle.pattern_turns.specs.declared.turn.Turn.{Turn}
use Rattle.pattern_turns.specs.Turning.{IsTurned, turned_cell, turned_pattern}
use Rattle.pattern_turns.specs.Way.{Way, Unturned, after, inverse, laid, put, way_of}

-- The eight ways are a group under "after", which is the composition of what they do to places; no two do the same; and each is two turns.
pub record AreAGroup : Type 0 where
  pub composes : (v w : Way) (c : Place) → put (after v w) c ≡ put v (put w c)
  pub distinct : (v w : Way) → ((c : Place) → put v c ≡ put w c) → v ≡ w
  pub associates : (u v w : Way) → after (after u v) w ≡ after u (after v w)
  pub unit_left : (w : Way) → after Unturned w ≡ w
  pub unit_right : (w : Way) → after w Unturned ≡ w
  pub inverse_left : (w : Way) → after (inverse w) w ≡ Unturned
  pub inverse_right : (w : Way) → after w (inverse w) ≡ Unturned
  pub two_turns : (w : Way) → (second first : Turn) × (w ≡ after (way_of second) (way_of first))

-- where a cell of a box stands in a plane, the corner of the box being put at the origin
abbrev pub place_in_box : PatternCell → Place
place_in_box cell = at_place (pos cell.column) (pos cell.row)

-- a turn of a box does what its way does about the origin, and then moves all cells alike
abbrev pub AreTurnsOfThePlane : Type 0
AreTurnsOfThePlane = (turn : Turn) (width height : ℕ) → (right down : ℤ) × ((cell : PatternCell) → cell.column < width → cell.row < height
    → place_in_box (turned_cell turn width height cell) ≡ moved (put (way_of turn) (place_in_box cell)) right down)

-- the map of a pattern, the corner of its box being put at the origin: its cells stand there, and all else is dead
pub record IsMapOf (p : RlePattern) (f : Place → ℕ) : Type 0 where
  pub alive : (cell : PatternCell) → Contains p.cells cell → f (place_in_box cell) ≡ cell.state
  pub only : (c : Place) → f c ≢ 0 → (cell : PatternCell) × Contains p.cells cell × (c ≡ place_in_box cell)

-- what becomes of a turned pattern is what becomes of the pattern, put where the turn's way puts it, and then moved
abbrev pub PatternsTurn : Type 0
PatternsTurn = (turn : Turn) (old new : RlePattern) → IsPattern old → IsTurned turn old new → (right down : ℤ) × ((f h : Place → ℕ) → IsMapOf old f → IsMapOf new h
    → (r : GenerationsRule) (g : ℕ) (c : Place) → at r h g (moved (put (way_of turn) c) right down) ≡ at r f g c)

-- a pattern has one turned pattern
abbrev pub HasOneTurn : Type 0
HasOneTurn = (turn : Turn) (old p q : RlePattern) → IsPattern p → IsPattern q → IsTurned turn old p → IsTurned turn old q → p ≡ q

-- it is the one that is told by its parts
abbrev pub IsTurnedPattern : Type 0
IsTurnedPattern = (turn : Turn) (old : RlePattern) → IsPattern old → IsPattern (turned_pattern turn old) × IsTurned turn old (turned_pattern turn old)

-- a map laid in some way evolves as the map does, laid in that way
abbrev pub TurnsCommute : Type 0
TurnsCommute = (r : GenerationsRule) (f : Place → ℕ) (w : Way) (g : ℕ) (c : Place) → at r (laid w f) g c ≡ laid w (at r f g) c

-- and so does a map that is moved
abbrev pub MovesCommute : Type 0
MovesCommute = (r : GenerationsRule) (f : Place → ℕ) (right down : ℤ) (g : ℕ) (c : Place) → at r (λ d. f (moved d right down)) g c ≡ at r f g (moved c right down)
