-- Worked values of the definitions.
use Rattle.std.specs.Prelude.{◌≡◌, [], ◌∷◌, refl}
use Rattle.session_hub.specs.Replies.{whole_mark}
use Rattle.client_protocol.specs.Spelling.{pieced_body, polled_body}

pub two_edits : polled_body 2 ≡ 0 ∷ 0 ∷ 0 ∷ 0 ∷ 2 ∷ []
two_edits = refl

pub whole_plane : polled_body whole_mark ≡ 0 ∷ 255 ∷ 255 ∷ 255 ∷ 255 ∷ []
whole_plane = refl

pub three_edits_in_two_frames : pieced_body 3 2 ≡ 0 ∷ 0 ∷ 0 ∷ 0 ∷ 0 ∷ 0 ∷ 0 ∷ 0 ∷ 3 ∷ 0 ∷ 0 ∷ 0 ∷ 2 ∷ []
three_edits_in_two_frames = refl
