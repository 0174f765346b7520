-- Fresh seats.
use Rattle.std.proofs.Common.{ℕ, ◌+◌, List, [], ◌∷◌, ap}
use Rattle.generations_rule.specs.Rule.{GenerationsRule}
use Rattle.relay_board.specs.Seating.{AllFresh, Numbered, Seating}

-- they stand at their places
pub numbered : (first : ℕ) (rule : GenerationsRule) (room n : ℕ) (seats : List Seating) → AllFresh first rule room n seats → Numbered n seats
numbered first rule room n [] fresh = tt
numbered first rule room n (s ∷ seats) fresh = (ap (λ (s : Seating). s.place) fresh.0, numbered first rule room (n + 1) seats fresh.1)
