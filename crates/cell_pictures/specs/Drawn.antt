-- What drawing does to a sink.
use Rattle.std.specs.Prelude.{◌≡◌, ℕ, List, Result, Ok, Err}
use Rattle.std.specs.Io.KnownBytes.{Appends, append_known}
use Rattle.devices.specs.Count.{one_more}
use Rattle.devices.specs.Sink.{KnownSink}

-- a sink gained a text, by any number of pushes, and did not fail
pub record IsAdded (old new : KnownSink) (text : List ℕ) : Type 0 where
  pub bytes : Appends old.held new.held text
  pub works : new.failures ≡ old.failures

-- a text was added whole, or the sink failed once
abbrev pub IsDrawn : {A E : Type 0} → KnownSink → Result A E → List ℕ → KnownSink → Type 0
IsDrawn old (Ok done) text new = IsAdded old new text
IsDrawn old (Err failed) text new = new.failures ≡ one_more old.failures

-- a sink whose bytes are followed by some that wait, as it is known to who pushes to both
abbrev pub with_waiting : KnownSink → List ℕ → ℕ → KnownSink
with_waiting sink waiting pushes = record { pushes = pushes; failures = sink.failures; held = append_known sink.held waiting }
