-- The words for turns of patterns.
use Rattle.std.specs.Prelude.{ℕ, List, [], ◌∷◌, codes, Option}
use Rattle.std.specs.List.{find}
use Rattle.std.specs.Str.{bytes_eq}
use Rattle.pattern_turns.specs.declared.turn.Turn.{Turn}
use Rattle.pattern_turns.specs.declared.turn.Turn.TheVariants.{Left, Right, Half, Mirror, Flip}

abbrev pub turn_name : Turn → List ℕ
turn_name Left = codes "left"
turn_name Right = codes "right"
turn_name Half = codes "half"
turn_name Mirror = codes "mirror"
turn_name Flip = codes "flip"

abbrev pub turns : List Turn
turns = Left ∷ Right ∷ Half ∷ Mirror ∷ Flip ∷ []

-- the turn that a word names
abbrev pub turn_spelled : List ℕ → Option Turn
turn_spelled word = find (λ turn. bytes_eq word (turn_name turn)) turns
