-- A map of states, and what the rule makes of it, cell by cell.
use Rattle.std.specs.Prelude.{◌≡◌, ℕ, zero, suc, ◌+◌, ◌<◌, map, ◌==◌, count_by}
use Rattle.generations_rule.specs.Place.{Place, around, IsWithin}
use Rattle.generations_rule.specs.Rule.{GenerationsRule, IsRule, next_state}

-- how many of the eight neighbours are in state 1
abbrev pub live_around : (Place → ℕ) → Place → ℕ
live_around f c = count_by (λ state. state == 1) (map f (around c))

-- the map f after g generations
abbrev pub at : GenerationsRule → (Place → ℕ) → ℕ → Place → ℕ
at r f zero c = f c
at r f (suc g) c = next_state r (at r f g c) (live_around (at r f g) c)

-- ---- laws

-- a + b generations of f are b generations of the map after a
abbrev pub RunsCompose : Type 0
RunsCompose = (r : GenerationsRule) (f : Place → ℕ) (a b : ℕ) (c : Place) → at r (at r f a) b c ≡ at r f (a + b) c

-- what stands at c after g generations depends only on f within g of c
abbrev pub IsLocal : Type 0
IsLocal = (r : GenerationsRule) (f h : Place → ℕ) (g : ℕ) (c : Place) → ((d : Place) → IsWithin g c d → f d ≡ h d) → at r f g c ≡ at r h g c

-- nothing comes from nothing
abbrev pub StaysEmpty : Type 0
StaysEmpty = (r : GenerationsRule) (f : Place → ℕ) (g : ℕ) (c : Place) → IsRule r → ((d : Place) → IsWithin g c d → f d ≡ 0) → at r f g c ≡ 0

-- states stay below the rule's number of states
abbrev pub StaysInRange : Type 0
StaysInRange = (r : GenerationsRule) (f : Place → ℕ) (g : ℕ) (c : Place) → IsRule r → ((d : Place) → f d < r.states) → at r f g c < r.states
