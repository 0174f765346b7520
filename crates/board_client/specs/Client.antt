-- What is known of a client's line.
use Rattle.std.specs.Prelude.{List, ℕ}
use Rattle.devices.specs.Source.{KnownSource}
use Rattle.devices.specs.Sink.{KnownSink}
use Rattle.message_frames.specs.Frames.{FrameStream}
use Rattle.frame_line.specs.Talking as line

pub record LineState : Type 0 where
  pub frames : FrameStream
  pub source : KnownSource
  pub sink : KnownSink

abbrev pub line_at : FrameStream → KnownSource → KnownSink → LineState
line_at frames source sink = record { frames = frames; source = source; sink = sink }

-- these bodies were said, one after another, and these were heard
abbrev pub IsTalk : LineState → LineState → List (List ℕ) → List (List ℕ) → Type 0
IsTalk a b said heard = line.IsTalk a.frames b.frames a.source b.source a.sink b.sink said heard
