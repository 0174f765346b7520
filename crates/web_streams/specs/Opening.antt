-- The opening of a socket.
use Rattle.std.specs.Prelude.{◌≡◌, ℕ, false, List, Option}
use Rattle.std.specs.Io.KnownBytes.{Appends}
use Rattle.web_requests.specs.Texts.{welcome_text}
use Rattle.web_streams.specs.Hearing.{IsOpened}
use Rattle.web_streams.specs.declared.reader.SocketReader.{SocketReader}
use Rattle.web_streams.specs.declared.writer.SocketWriter.{SocketWriter}

module _ {S : Type 0} where
  -- the handshake was answered over a connection; no message was read, and what stood behind the head is read first; no
  -- message was written
  pub record IsOpen (contents : S → Option (List ℕ)) (connection : S) (accept behind : List ℕ) (reader : SocketReader S) (writer : SocketWriter S) : Type 0 where
    pub answered : Appends (contents connection) (contents reader.socket.stream) (welcome_text accept)
    pub opened : IsOpened reader.socket.stream behind reader
    pub whole : writer.is_cut ≡ false
