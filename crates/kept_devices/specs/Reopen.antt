-- What the calls on a file do by which it is found as another process left it.
use Rattle.std.specs.Prelude.{◌≡◌, ◌⊎◌, ◌≤◌, ℕ, Bool, List, ◌++◌, length, Option, Some, None, Result, Ok, Err, IfSome, Vec}
use Rattle.std.specs.declared.alloc.Global.{Global}
use Rattle.devices.specs.Count.{failures_after}
use Rattle.kept_devices.specs.Standing.{Both, Has, History, IsSettled, Standing, moves_to, replacing, stands}
use Rattle.kept_devices.specs.Keep.{Cuts, KnownKeep}

-- whether what was added may be in doubt
abbrev pub TellsDoubt : KnownKeep → Bool → Type 0
TellsDoubt known result = IfSome known.held (λ h. result ≡ h.now.is_doubtful)

-- a reader sees these bytes: what was not synced among them, and perhaps of a file that has its place
abbrev pub IsSeen : Standing → List ℕ → Type 0
IsSeen s bytes = (bytes ≡ s.durable ++ s.pending) ⊎ Has s.others bytes

-- the bytes that were read, where they could be and there was memory for them
abbrev pub Reads : {E : Type 0} → Result (Option (Vec ℕ Global)) E → History → History → Type 0
Reads (Ok (Some v)) h k = (k ≡ h) × IsSeen h.now v.items
Reads (Ok None) h k = k ≡ h
Reads (Err failed) h k = k ≡ h

pub record IsRead {E : Type 0} (old new : KnownKeep) (result : Result (Option (Vec ℕ Global)) E) : Type 0 where
  pub failures : new.failures ≡ failures_after result old.failures
  pub held : Both old.held new.held (Reads result)

-- it was cut to a length within what is on the disk
pub record IsCut {A E : Type 0} (old new : KnownKeep) (result : Result A E) (n : ℕ) : Type 0 where
  pub failures : new.failures ≡ failures_after result old.failures
  pub held : Both old.held new.held (λ h k. IsSettled h.now → n ≤ length h.now.durable → Cuts n result h k)

-- other bytes have its place, on the disk; or not yet there, or nothing was done
abbrev pub Replaces : {A E : Type 0} → List ℕ → Result A E → History → History → Type 0
Replaces bytes (Ok done) h k = k ≡ moves_to (moves_to h (replacing bytes h.now)) (stands bytes)
Replaces bytes (Err failed) h k = (k ≡ h) ⊎ (k ≡ moves_to h (replacing bytes h.now))

pub record IsReplace {A E : Type 0} (old new : KnownKeep) (result : Result A E) (bytes : List ℕ) : Type 0 where
  pub failures : new.failures ≡ failures_after result old.failures
  pub held : Both old.held new.held (Replaces bytes result)
