-- What is known of a sink, and what a push does to it.
use Rattle.std.specs.Prelude.{◌≡◌, ℕ, List, Option, Result, OnOk}
use Rattle.std.specs.Io.KnownBytes.{Appends}
use Rattle.devices.specs.Count.{one_more, failures_after}

-- how often it was pushed to, how often it failed, and the bytes that it holds, where they are known
pub record KnownSink : Type 0 where
  pub pushes : ℕ
  pub failures : ℕ
  pub held : Option (List ℕ)

-- a push added all the bytes, or failed
pub record IsPush {A E : Type 0} (old new : KnownSink) (result : Result A E) (bytes : List ℕ) : Type 0 where
  pub added : OnOk result (Appends old.held new.held bytes)
  pub pushes : new.pushes ≡ one_more old.pushes
  pub failures : new.failures ≡ failures_after result old.failures
