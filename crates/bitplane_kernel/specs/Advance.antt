-- A block of states, as it lies in a map.
use Rattle.std.specs.Prelude.{◌≡◌, ℕ, ◌+◌, ◌≤◌, ◌<◌, pos, List}
use Rattle.generations_rule.specs.Place.{Place, moved}
use Rattle.generations_rule.specs.Rule.{GenerationsRule}
use Rattle.generations_rule.specs.Evolution.{at}
use Rattle.bitplane_kernel.specs.Square.{state_at}

-- the states that lie at least a margin from the edge of a block are the map's, the block's corner being here
abbrev pub AgreesOnBlock : ℕ → (Place → ℕ) → Place → List ℕ → Type 0
AgreesOnBlock margin f corner states =
    (x y : ℕ) → margin ≤ x → x + margin < 16 → margin ≤ y → y + margin < 16 → state_at 16 states x y ≡ f (moved corner (pos x) (pos y))

-- whatever map the block lies in, its inner cells are that map's g generations later
abbrev pub Advances : GenerationsRule → ℕ → List ℕ → List ℕ → Type 0
Advances r g old new =
    (f : Place → ℕ) (corner : Place) → ((c : Place) → f c < r.states) → AgreesOnBlock 0 f corner old → AgreesOnBlock g (at r f g) corner new
