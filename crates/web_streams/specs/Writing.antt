-- What a session writes to.
use Rattle.std.specs.Prelude.{◌≡◌, ℕ, ◌⊎◌, true, List, length, Option}
use Rattle.std.specs.Io.KnownBytes.{Appends}
use Rattle.message_frames.specs.Frames.{frame_text}
use Rattle.std.specs.declared.io.ErrorKind.{ErrorKind}
use Rattle.std.specs.declared.io.ErrorKind.TheVariants.{OutOfMemory}
use Rattle.web_streams.specs.Telling.{message_of, IsNoFrame}
use Rattle.web_streams.specs.declared.writer.SocketWriter.{SocketWriter}

module _ {S : Type 0} where
  -- a frame was written whole: a message of its body stands behind what was written before
  pub record Tells (contents : S → Option (List ℕ)) (old new : SocketWriter S) (count : ℕ) (frame : List ℕ) : Type 0 where
    pub body : List ℕ
    pub spelt : frame ≡ frame_text body
    pub whole : count ≡ length frame
    pub told : Appends (contents old.connection) (contents new.connection) (message_of body)
    pub goes_on : new.is_cut ≡ old.is_cut

  -- Nothing was written: behind a message that was cut, for what is no frame, or for want of memory; or a message was cut now,
  -- and nothing will be written.
  abbrev pub Refuses : SocketWriter S → SocketWriter S → List ℕ → ErrorKind → Type 0
  Refuses old new frame kind = ((new ≡ old) × ((old.is_cut ≡ true) ⊎ IsNoFrame frame ⊎ (kind ≡ OutOfMemory))) ⊎ (new.is_cut ≡ true)
