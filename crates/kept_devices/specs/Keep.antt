-- What is known of a file that is added to at its end, and what each call does to it.
use Rattle.std.specs.Prelude.{◌≡◌, ◌⊎◌, ℕ, true, false, List, length, take, Option, Result, Ok, Err}
use Rattle.devices.specs.Count.{failures_after}
use Rattle.kept_devices.specs.Standing.{Both, History, IsSettled, added, cutting, in_doubt, moves_to, stands, synced}

-- how often it failed, and how it stands and stood, where that is known
pub record KnownKeep : Type 0 where
  pub failures : ℕ
  pub held : Option History

-- all the bytes were added; or some of them, or nothing was done
abbrev pub Pushes : {A E : Type 0} → List ℕ → Result A E → History → History → Type 0
Pushes bytes (Ok done) h k = k ≡ moves_to h (added bytes h.now)
Pushes bytes (Err failed) h k = (k ≡ h) ⊎ ((n : ℕ) × (k ≡ moves_to h (added (take n bytes) h.now)))

pub record IsPush {A E : Type 0} (old new : KnownKeep) (result : Result A E) (bytes : List ℕ) : Type 0 where
  pub failures : new.failures ≡ failures_after result old.failures
  pub held : Both old.held new.held (λ h k. IsSettled h.now → Pushes bytes result h k)

-- All that was added is on the disk, unless a sync failed before: then nothing is said. Where it fails, nothing was done,
-- or what is pending is in doubt.
pub record HasSynced (h k : History) : Type 0 where
  pub sound : h.now.is_doubtful ≡ false → k ≡ moves_to h (synced h.now)
  pub doubtful : h.now.is_doubtful ≡ true → k ≡ h

abbrev pub Syncs : {A E : Type 0} → Result A E → History → History → Type 0
Syncs (Ok done) h k = HasSynced h k
Syncs (Err failed) h k = (k ≡ h) ⊎ (k ≡ moves_to h (in_doubt h.now))

pub record IsSync {A E : Type 0} (old new : KnownKeep) (result : Result A E) : Type 0 where
  pub failures : new.failures ≡ failures_after result old.failures
  pub held : Both old.held new.held (Syncs result)

-- it was cut to so many of its durable bytes, on the disk; or not yet there, or nothing was done
abbrev pub Cuts : {A E : Type 0} → ℕ → Result A E → History → History → Type 0
Cuts n (Ok done) h k = k ≡ moves_to (moves_to h (cutting n h.now)) (stands (take n h.now.durable))
Cuts n (Err failed) h k = (k ≡ h) ⊎ (k ≡ moves_to h (cutting n h.now))

-- what was not synced was cut off
pub record IsCutBack {A E : Type 0} (old new : KnownKeep) (result : Result A E) : Type 0 where
  pub failures : new.failures ≡ failures_after result old.failures
  pub held : Both old.held new.held (λ h k. IsSettled h.now → Cuts (length h.now.durable) result h k)
