-- A frame that is handed out.
use Rattle.std.specs.Prelude.{ℕ, List, ◌++◌, drop}
use Rattle.web_streams.specs.declared.frame.FrameInHand.{FrameInHand}

-- the bytes that were not handed out
abbrev pub rest_of : FrameInHand → List ℕ
rest_of frame = drop frame.given (frame.size ++ frame.body)
