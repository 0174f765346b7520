-- What the messages of a socket bring.
use Rattle.std.specs.Prelude.{◌≡◌, ℕ, List, [], ◌∷◌, ◌++◌, Option, Some, None, IsTrue}
use Rattle.std.specs.List.{list_all}
use Rattle.message_frames.specs.Frames.{is_body}
use Rattle.tungstenite.specs.Connection.{Connection}
use Rattle.tungstenite.specs.Content.{Content, text, binary, ping, pong, close}
use Rattle.tungstenite.specs.Socket.{Socket, Run, Runs, Replies}

-- the body that a frame brought: that of a binary message which it ended; a text, a ping, a pong and a close bring none
abbrev pub body_in : Option Content → Option (List ℕ)
body_in None = None
body_in (Some (text words)) = None
body_in (Some (binary body)) = Some body
body_in (Some (ping words)) = None
body_in (Some (pong words)) = None
body_in (Some (close frame)) = None

-- none, or the one
abbrev pub listed : Option (List ℕ) → List (List ℕ)
listed None = []
listed (Some body) = body ∷ []

-- the bodies that the frames of a run brought, in order
abbrev pub bodies_of : Run → List (List ℕ)
bodies_of [] = []
bodies_of (frame ∷ frames) = listed (body_in frame.1.message) ++ bodies_of frames

module _ {S : Type 0} where
  -- These bytes came over a socket. The frames that stand in them, behind what was read before, were read one after another
  -- (RFC 6455, section 5), up to a state and the bytes that are left. They brought these bodies, each whole.
  pub record Brings (old : Socket S) (state : Connection) (left : List ℕ) (bodies : List (List ℕ)) : Type 0 where
    pub came : List ℕ
    pub frames : Run
    pub read : Runs old.conn (old.input ++ came) frames state left
    pub brought : bodies ≡ bodies_of frames
    pub are_bodies : IsTrue (list_all is_body bodies)

  -- A socket went on: the frames that were read brought these bodies, and what each of them asks for in reply, as a ping does,
  -- was sent or waits, in order, behind what waited before.
  pub record GoesOn (old new : Socket S) (bodies : List (List ℕ)) : Type 0 where
    pub brings : Brings old new.conn new.input bodies
    pub sent : List ℕ
    pub replies : Replies brings.frames old.output (sent ++ new.output)

  -- A socket is over: the frames before its end brought these bodies.
  abbrev pub Ends : Socket S → List (List ℕ) → Type 0
  Ends old bodies = (state : Connection) × (left : List ℕ) × Brings old state left bodies
