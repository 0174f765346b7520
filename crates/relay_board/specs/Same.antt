-- What a turn leaves alone.
use Rattle.std.specs.Prelude.{◌≡◌}
use Rattle.relay_board.specs.Relaying.{Relaying}

-- it is the same relay
pub record Same (a b : Relaying) : Type 0 where
  pub known : b.known ≡ a.known
  pub made : b.made ≡ a.made
  pub origin : b.origin ≡ a.origin
  pub inbox : b.inbox ≡ a.inbox
  pub closed : b.closed ≡ a.closed
  pub room : b.room ≡ a.room
