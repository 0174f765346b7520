-- Lists of bodies that a file keeps.
use Rattle.std.specs.Prelude.{◌≡◌, ◌⊎◌, ℕ, false, List, [], IfSome}
use mathlib.Core.List.{IsPrefix}
use Rattle.kept_records.specs.Laws.{IsLowered}
use Rattle.kept_records.specs.Records.{AreBodies, AreRead, records_text}
use Rattle.kept_devices.specs.Standing.{Both, IsSettled, MayLeave, Standing, Throughout}
use Rattle.kept_devices.specs.Keep.{KnownKeep}

-- the file is their records, all of it on the disk
pub record IsAt (bodies : List (List ℕ)) (s : Standing) : Type 0 where
  pub durable : s.durable ≡ records_text bodies
  pub pending : s.pending ≡ []
  pub settled : IsSettled s
  pub sound : s.is_doubtful ≡ false
  pub are : AreBodies bodies

-- where its bytes are known
abbrev pub Keeps : List (List ℕ) → KnownKeep → Type 0
Keeps bodies known = IfSome known.held (λ h. IsAt bodies h.now)

-- Whatever a crash leaves then is read as the first bodies of a list, and some that are kept are among them.
abbrev pub Leaves : List (List ℕ) → List (List ℕ) → Standing → Type 0
Leaves kept all s = (left : List ℕ) → MayLeave s left → (got : List (List ℕ)) (rest : List ℕ) → AreRead left got rest → IsPrefix kept got × IsPrefix got all

-- where its bytes are known
abbrev pub LeavesNow : List (List ℕ) → List (List ℕ) → KnownKeep → Type 0
LeavesNow kept all known = IfSome known.held (λ h. Leaves kept all h.now)

-- whatever a crash leaves then is one of two texts
abbrev pub LeavesEither : List ℕ → List ℕ → Standing → Type 0
LeavesEither one other s = (left : List ℕ) → MayLeave s left → (left ≡ one) ⊎ (left ≡ other)

-- at each moment of what was done, where these are known
abbrev pub Always : (Standing → Type 0) → KnownKeep → KnownKeep → Type 0
Always P old new = Both old.held new.held (Throughout P)

-- ---- within a commit

-- the records of a list are on the disk, and behind them stand some bytes of the records of others, or less
pub record IsBehind (list more : List (List ℕ)) (s : Standing) : Type 0 where
  pub durable : s.durable ≡ records_text list
  pub pending : IsLowered s.pending (records_text more)
  pub settled : IsSettled s
  pub are : AreBodies list
  pub also : AreBodies more

abbrev pub StandsBehind : List (List ℕ) → List (List ℕ) → KnownKeep → Type 0
StandsBehind list more known = IfSome known.held (λ h. IsBehind list more h.now)
