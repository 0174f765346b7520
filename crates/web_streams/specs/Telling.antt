-- What is told over a socket.
use Rattle.std.specs.Prelude.{◌≡◌, ℕ, ◌<◌, ◌^◌, List, length, None}
use Rattle.message_frames.specs.Frames.{frame_text}
use Rattle.tungstenite.specs.Connection.{whole_header}
use Rattle.tungstenite.specs.Frame.{encode_frame}
use Rattle.websocket.specs.declared.protocol.frame.coding.Data.TheVariants.{Binary}
use Rattle.websocket.specs.declared.protocol.frame.coding.OpCode.TheVariants.{Data}

-- a binary message of these bytes: one frame, which is the last of its message, without a mask (RFC 6455, section 5.2)
unfoldable pub message_of : List ℕ → List ℕ
message_of body = encode_frame (whole_header (Data Binary) None) body

-- the bytes are not a body behind its length
abbrev pub IsNoFrame : List ℕ → Type 0
IsNoFrame bytes = (body : List ℕ) → length body < 2 ^ 32 → ¬ (bytes ≡ frame_text body)
