-- What is heard over a socket.
use Rattle.std.specs.Prelude.{◌≡◌, ℕ, ◌<◌, Bool, true, false, List, [], ◌∷◌, ◌++◌, length, take, Option, Some, None}
use Rattle.std.specs.Bool.{MatchBool}
use Rattle.message_frames.specs.Frames.{frame_text, stream_of}
use Rattle.tungstenite.specs.Socket.{IsFresh}
use Rattle.websocket.specs.declared.protocol.config.Role.TheVariants.{Server}
use Rattle.web_streams.specs.Frame.{rest_of}
use Rattle.web_streams.specs.Messages.{Ends, GoesOn}
use Rattle.web_streams.specs.declared.came.Came.{Came}
use Rattle.web_streams.specs.declared.came.Came.TheVariants.{Message, Nothing, End}
use Rattle.web_streams.specs.declared.reader.SocketReader.{SocketReader}

-- what came, where the reader may be over by now
abbrev pub told_of : Bool → Came → Came
told_of true Nothing = End
told_of true Message = Message
told_of true End = End
told_of false came = came

module _ {S : Type 0} where
  -- some bodies were brought to a reader, and it goes on behind them or is over; once over, it stays so, and nothing is brought
  pub record Listens (old new : SocketReader S) (bodies : List (List ℕ)) : Type 0 where
    pub heard : MatchBool new.is_over (Ends old.socket bodies) (GoesOn old.socket new.socket bodies)
    pub stays : old.is_over ≡ true → (new.is_over ≡ true) × (bodies ≡ [])

  -- one body was brought, and its frame is in hand; or none, and all is as it was in hand
  abbrev pub IsInHand : SocketReader S → Came → List (List ℕ) → Type 0
  IsInHand new Message bodies = (body : List ℕ) × (bodies ≡ body ∷ []) × (rest_of new.frame ≡ frame_text body)
  IsInHand new Nothing bodies = (bodies ≡ []) × (rest_of new.frame ≡ []) × (new.is_over ≡ false)
  IsInHand new End bodies = (bodies ≡ []) × (rest_of new.frame ≡ []) × (new.is_over ≡ true)

  -- what reading up to a body came to
  pub record Hears (old new : SocketReader S) (came : Came) : Type 0 where
    pub bodies : List (List ℕ)
    pub listens : Listens old new bodies
    pub in_hand : IsInHand new came bodies

  -- nothing was read, and all is in hand as it was; the reader goes on or is over
  pub record Stays (old new : SocketReader S) : Type 0 where
    pub listens : Listens old new []
    pub in_hand : new.frame ≡ old.frame

  -- what reading one message came to
  abbrev pub HearsOne : SocketReader S → SocketReader S → Option Came → Type 0
  HearsOne old new (Some came) = Hears old new came
  HearsOne old new None = Hears old new Nothing

  -- what was given of a frame in hand: something, if there is something and room for it
  pub record Gives (old new : SocketReader S) (count : ℕ) (piece : List ℕ) : Type 0 where
    pub socket : new.socket ≡ old.socket
    pub is_over : new.is_over ≡ old.is_over
    pub given : rest_of old.frame ≡ take count piece ++ rest_of new.frame
    pub some : 0 < length (rest_of old.frame) → 0 < length piece → 0 < count

  -- ---- what callers see

  -- what a reader has to hand out
  abbrev pub pending : SocketReader S → List ℕ
  pending reader = rest_of reader.frame

  -- no message is read yet over a connection, of which these bytes were read
  pub record IsOpened (connection : S) (behind : List ℕ) (reader : SocketReader S) : Type 0 where
    pub fresh : IsFresh (record reader.socket { input = [] }) connection Server
    pub read_before : reader.socket.input ≡ behind
    pub nothing : pending reader ≡ []
    pub goes_on : reader.is_over ≡ false

  -- some bytes were pulled: those that were pending and the frames of the bodies that were brought are what was pulled and
  -- what is pending. No byte is pulled only where nothing is pending and the reader is over, or where there is no room.
  abbrev pub Pulls : SocketReader S → SocketReader S → ℕ → List ℕ → Type 0
  Pulls old new count piece =
      (bodies : List (List ℕ)) × Listens old new bodies × (pending old ++ stream_of bodies ≡ take count piece ++ pending new)
      × (count ≡ 0 → 0 < length piece → (pending new ≡ []) × (new.is_over ≡ true))

  -- nothing was pulled, and nothing is pending
  abbrev pub PullsNothing : SocketReader S → SocketReader S → Type 0
  PullsNothing old new = Listens old new [] × (pending old ≡ []) × (pending new ≡ [])

  -- whether something is pending
  abbrev pub IsCome : SocketReader S → Came → Type 0
  IsCome reader Message = 0 < length (pending reader)
  IsCome reader Nothing = (pending reader ≡ []) × (reader.is_over ≡ false)
  IsCome reader End = (pending reader ≡ []) × (reader.is_over ≡ true)

  -- nothing was pulled, and it is told whether something is pending
  pub record Comes (old new : SocketReader S) (came : Came) : Type 0 where
    pub bodies : List (List ℕ)
    pub listens : Listens old new bodies
    pub kept : pending old ++ stream_of bodies ≡ pending new
    pub is_come : IsCome new came
