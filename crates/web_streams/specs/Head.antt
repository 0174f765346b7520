-- What is heard of a visitor.
use Rattle.std.specs.Prelude.{◌≡◌, ℕ, ◌≤◌, ◌⊎◌, List, [], length, Option}
use Rattle.std.specs.Io.KnownBytes.{Consumes, IsAtEnd}
use Rattle.web_requests.specs.Routes.{IsWanted}
use Rattle.web_requests.specs.declared.house.House.{House}
use Rattle.web_requests.specs.declared.refusal.Refusal.TheVariants.{TooLong}
use Rattle.web_requests.specs.declared.visit.Visit.TheVariants.{Waits, Refused}
use Rattle.web_streams.specs.Behind.{behind_of}
use Rattle.web_streams.specs.declared.head.HeardHead.{HeardHead}

-- what is answered to the bytes that came: what they ask for; or nothing, since they ended before that was clear
pub record IsClear (left : Option (List ℕ)) (house : House) (came : List ℕ) (heard : HeardHead) : Type 0 where
  pub wanted : IsWanted came house heard.visit
  pub few : length came ≤ 8192
  pub behind : heard.behind.items ≡ behind_of came heard.visit
  pub ended : heard.visit ≡ Waits → IsAtEnd left

-- 8,192 bytes came, and it is not clear what they ask for
pub record IsTooLong (house : House) (came : List ℕ) (heard : HeardHead) : Type 0 where
  pub unclear : IsWanted came house Waits
  pub many : length came ≡ 8192
  pub refused : heard.visit ≡ Refused TooLong
  pub behind : heard.behind.items ≡ []

-- some bytes came of a visitor, and one of these is so
pub record Hears (before after : Option (List ℕ)) (house : House) (heard : HeardHead) : Type 0 where
  pub came : List ℕ
  pub bytes : Consumes before after came
  pub answer : IsClear after house came heard ⊎ IsTooLong house came heard
