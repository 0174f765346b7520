-- Whole frames as bytes.
use Rattle.std.specs.Prelude.{◌≡◌, ℕ, List, drop, IsTrue}
use Rattle.message_frames.specs.Frames.{frame_text, is_body}

-- the frame of what stands behind its first four bytes, which is no longer than a body may be
pub record IsFrame (bytes : List ℕ) : Type 0 where
  pub spelt : bytes ≡ frame_text (drop 4 bytes)
  pub body : IsTrue (is_body (drop 4 bytes))
