-- What is said and heard on a line.
use Rattle.std.specs.Prelude.{◌≡◌, ℕ, List, [], ◌∷◌, ◌++◌, Result, Ok, Err}
use Rattle.std.specs.Io.KnownBytes.{Consumes}
use Rattle.devices.specs.Count.{one_more}
use Rattle.devices.specs.Source.{KnownSource}
use Rattle.devices.specs.Sink.{KnownSink}
use Rattle.message_frames.specs.Frames.{FrameStream}
use Rattle.message_frames.specs.FrameLaws.{IsTakenTo}
use Rattle.frame_service.specs.Pushing.{ArePushed}
use Rattle.frame_line.specs.declared.fault.LineFault.{LineFault}
use Rattle.frame_line.specs.declared.fault.LineFault.TheVariants.{Write}

-- a body was said, or the sink failed
abbrev pub IsSaid : {A : Type 0} → KnownSink → KnownSink → List ℕ → Result A LineFault → Type 0
IsSaid s t body (Ok done) = ArePushed s t (body ∷ [])
IsSaid s t body (Err fault) = (fault ≡ Write) × (t.failures ≡ one_more s.failures)

-- these bodies were said, one after another, and these were heard, the next ones of the line
pub record IsTalk (old new : FrameStream) (from to : KnownSource) (s t : KnownSink) (said heard : List (List ℕ)) : Type 0 where
  pub pushed : ArePushed s t said
  pub pulled : List ℕ
  pub bytes : Consumes from.left to.left pulled
  pub cut : IsTakenTo (old.pending ++ pulled) heard new.pending
