-- What is known of a source, and what a pull does to it.
use Rattle.std.specs.Prelude.{◌≡◌, ℕ, ◌==◌, ◌&&◌, not, if◌then◌else◌, List, length, Option, Result, Ok, Err}
use Rattle.std.specs.Io.KnownBytes.{ReadConsumes}
use Rattle.devices.specs.Count.{one_more, failures_after}

-- how often it was pulled, how many pulls met its end, how often it failed, and the bytes that are still to come, where
-- they are known
pub record KnownSource : Type 0 where
  pub pulls : ℕ
  pub ends_met : ℕ
  pub failures : ℕ
  pub left : Option (List ℕ)

-- how many pulls met the end, after one into a piece of so many bytes: an empty piece meets none
abbrev pub ends_met_after : {E : Type 0} → ℕ → Result ℕ E → ℕ → ℕ
ends_met_after room (Ok count) n = if count == 0 && not (room == 0) then one_more n else n
ends_met_after room (Err failed) n = n

-- a pull gave so many bytes at the front of a piece, or failed
pub record IsPull {E : Type 0} (old new : KnownSource) (result : Result ℕ E) (piece : List ℕ) : Type 0 where
  pub bytes : ReadConsumes old.left new.left result piece
  pub pulls : new.pulls ≡ one_more old.pulls
  pub ends_met : new.ends_met ≡ ends_met_after (length piece) result old.ends_met
  pub failures : new.failures ≡ failures_after result old.failures
