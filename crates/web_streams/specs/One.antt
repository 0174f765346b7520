-- What one read of a socket gave.
use Rattle.std.specs.Prelude.{[], ◌∷◌}
use Rattle.tungstenite.specs.Content.{Content, text, binary, ping, pong, close}
use Rattle.tungstenite.specs.Socket.{Socket}
use Rattle.std.specs.IoError.{error_kind}
use Rattle.std.specs.declared.io.ErrorKind.{ErrorKind}
use Rattle.std.specs.declared.io.ErrorKind.TheVariants.{Interrupted, WouldBlock}
use Rattle.tungstenite.specs.declared.error.Error.{Error}
use Rattle.tungstenite.specs.declared.error.Error.TheVariants.{Io}
use Rattle.web_streams.specs.Messages.{Ends, GoesOn}
use Rattle.web_streams.specs.declared.one.One.{One}
use Rattle.web_streams.specs.declared.one.One.TheVariants.{Body, Passed, Blocked, Failed}

-- what a message is
abbrev pub one_in : Content → One
one_in (text words) = Passed
one_in (binary body) = Body body
one_in (ping words) = Passed
one_in (pong words) = Passed
one_in (close frame) = Passed

-- what an error of the connection is, by its kind: a read that was interrupted is made again
abbrev pub one_of_kind : ErrorKind → One
one_of_kind Interrupted = Passed
one_of_kind WouldBlock = Blocked
one_of_kind _ = Failed

-- what an error is
abbrev pub one_of_error : Error → One
one_of_error (Io cause) = one_of_kind (error_kind cause)
one_of_error _ = Failed

-- one read brought a body, or none, or the socket is over
abbrev pub GivesOne : {S : Type 0} → Socket S → Socket S → One → Type 0
GivesOne old new (Body body) = GoesOn old new (body ∷ [])
GivesOne old new Passed = GoesOn old new []
GivesOne old new Blocked = GoesOn old new []
GivesOne old new Failed = Ends old []
