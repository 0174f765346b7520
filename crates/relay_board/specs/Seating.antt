-- What a contract sees of a seat, and of all seats in the order of their places.
use Rattle.std.specs.Prelude.{◌≡◌, ℕ, ◌+◌, min, List, [], ◌∷◌, map, Option, Some, None, slice_get}
use mathlib.Core.List.{IsPrefix}
use Rattle.generations_rule.specs.Rule.{GenerationsRule}
use Rattle.board.specs.declared.entry.Entry.{Entry}

-- its place, from 0, and its number, the replica whose edits it puts; the relay's rule; the counter above which those of its
-- edits rise, where they have to; what it put, what it has seen and how much of that it was handed; how often it found the
-- inbox full, and the inbox's room
pub record Seating : Type 0 where
  pub place : ℕ
  pub number : ℕ
  pub rule : GenerationsRule
  pub floor : Option ℕ
  pub mine : List Entry
  pub seen : List Entry
  pub handed : ℕ
  pub full : ℕ
  pub room : ℕ

-- what each seat put
abbrev pub mines_of : List Seating → List (List Entry)
mines_of ss = map (λ (s : Seating). s.mine) ss

-- they stand at their places, from n on
abbrev pub Numbered : ℕ → List Seating → Type 0
Numbered n [] = Unit {0}
Numbered n (s ∷ ss) = (s.place ≡ n) × Numbered (n + 1) ss

-- the list begins with what each seat has seen
abbrev pub BeginsWithAll : List Entry → List Seating → Type 0
BeginsWithAll list ss = (k : ℕ) (s : Seating) → slice_get ss k ≡ Some s → IsPrefix s.seen list

-- The number of the seat at a place: those of the sessions follow one another from the first on. The file's seat stands behind
-- the last and puts edits of any number; its own is never asked, and is 65,535 at most.
abbrev pub number_at : ℕ → ℕ → ℕ
number_at first place = min (first + place) 65535

-- a seat at a place that has put, seen and been handed nothing
abbrev pub fresh : ℕ → ℕ → GenerationsRule → ℕ → Seating
fresh first place rule room = record { place = place; number = number_at first place; rule = rule; floor = None; mine = []; seen = []; handed = 0; full = 0; room = room }

-- They stand at their places, from n on, the seat at place 0 would have the first number, and they have put, seen and been
-- handed nothing.
abbrev pub AllFresh : ℕ → GenerationsRule → ℕ → ℕ → List Seating → Type 0
AllFresh first rule room n [] = Unit {0}
AllFresh first rule room n (s ∷ ss) = (s ≡ fresh first n rule room) × AllFresh first rule room (n + 1) ss

-- the seat, of which nothing counts as handed out any more
abbrev pub again : Seating → Seating
again s = record s { handed = 0 }

-- what a call that reads, submits or learns leaves alone
pub record IsSame (a b : Seating) : Type 0 where
  pub place : b.place ≡ a.place
  pub number : b.number ≡ a.number
  pub rule : b.rule ≡ a.rule
  pub floor : b.floor ≡ a.floor
  pub room : b.room ≡ a.room

-- what a read leaves alone too
pub record HasRead (a b : Seating) : Type 0 where
  pub same : IsSame a b
  pub mine : b.mine ≡ a.mine
  pub full : b.full ≡ a.full
  pub seen : IsPrefix a.seen b.seen
