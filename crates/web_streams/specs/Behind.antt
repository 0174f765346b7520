-- What comes of a head, and behind it.
use Rattle.std.specs.Prelude.{◌≡◌, ℕ, ◌≤◌, Bool, true, List, [], ◌++◌, length, drop, Option}
use Rattle.std.specs.Io.KnownBytes.{Consumes, IsAtEnd}
use Rattle.web_requests.specs.declared.visit.Visit.{Visit}
use Rattle.web_requests.specs.declared.visit.Visit.TheVariants.{Waits, Page, Board, Refused}

-- what stands behind the head of an upgrade
abbrev pub behind_of : List ℕ → Visit → List ℕ
behind_of bytes Waits = []
behind_of bytes Page = []
behind_of bytes (Board request) = drop request.head_len bytes
behind_of bytes (Refused refusal) = []

-- some bytes were read and stand behind those before, no more than a head may have; or the end came
pub record ReadsMore (before after : Option (List ℕ)) (old new : List ℕ) (ended : Bool) : Type 0 where
  pub came : List ℕ
  pub bytes : Consumes before after came
  pub stands : new ≡ old ++ came
  pub few : length new ≤ 8192
  pub ends : ended ≡ true → (came ≡ []) × IsAtEnd after
