-- What is found in a file that another process left.
use Rattle.std.specs.Prelude.{◌≡◌, ◌≢◌, ◌≤◌, ℕ, Bool, false, List, [], ◌∷◌, length, take, drop, map, Option, Some, None, IfSome, Vec}
use Rattle.std.specs.declared.alloc.Global.{Global}
use Rattle.kept_records.specs.Records.{AreRead, BeginsNone, records_text}
use Rattle.kept_devices.specs.Standing.{Both, Standing, stands}
use Rattle.kept_devices.specs.Keep.{KnownKeep}
use Rattle.kept_devices.specs.Reopen.{IsSeen}

-- the head and the bodies behind it; where there is no head, there is none behind it either
abbrev pub listed : Option (Vec ℕ Global) → List (Vec ℕ Global) → List (List ℕ)
listed None bodies = map (λ v. v.items) bodies
listed (Some head) bodies = head.items ∷ map (λ v. v.items) bodies

-- the bytes are the records of these bodies, and from a place on no record
pub record IsReadTo (bytes : List ℕ) (bodies : List (List ℕ)) (whole : ℕ) : Type 0 where
  pub read : AreRead bytes bodies (drop whole bytes)
  pub within : whole ≤ length bytes
  pub front : records_text bodies ≡ take whole bytes

-- all of it is on the disk
abbrev pub IsDurable : Standing → Type 0
IsDurable s = s ≡ stands s.durable

-- it is known whether what was added is in doubt; where it is not, all is on the disk
pub record IsReady (is_doubtful : Bool) (s : Standing) : Type 0 where
  pub told : s.is_doubtful ≡ is_doubtful
  pub durable : is_doubtful ≡ false → IsDurable s

abbrev pub AreReady : Bool → KnownKeep → Type 0
AreReady is_doubtful known = IfSome known.held (λ h. IsReady is_doubtful h.now)

-- these bytes are what a reader sees
abbrev pub Shows : List ℕ → KnownKeep → Type 0
Shows bytes known = IfSome known.held (λ h. IsSeen h.now bytes)

-- a file of which these bytes were read, and nothing was changed
pub record IsFound (known : KnownKeep) (is_doubtful : Bool) (bytes : List ℕ) (bodies : List (List ℕ)) (whole : ℕ) : Type 0 where
  pub ready : AreReady is_doubtful known
  pub shows : Shows bytes known
  pub to : IsReadTo bytes bodies whole

-- what a reader sees of the file is the records of these bodies, and so many bytes behind them where no record begins
pub record HasRead (known : KnownKeep) (bodies : List (List ℕ)) (lost : ℕ) : Type 0 where
  pub bytes : List ℕ
  pub shows : Shows bytes known
  pub rest : List ℕ
  pub read : AreRead bytes bodies rest
  pub many : length rest ≡ lost

-- it has bytes, and no record begins them
pub record HasNoRecord (known : KnownKeep) : Type 0 where
  pub bytes : List ℕ
  pub shows : Shows bytes known
  pub none : BeginsNone bytes
  pub some : bytes ≢ []

-- a reader sees of the one what it sees of the other
abbrev pub Sees : KnownKeep → KnownKeep → Type 0
Sees old new = Both old.held new.held (λ h k. (bytes : List ℕ) → IsSeen k.now bytes → IsSeen h.now bytes)
