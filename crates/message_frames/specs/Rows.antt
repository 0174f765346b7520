-- Worked values of the definitions.
use Rattle.std.specs.Prelude.{◌≡◌, ℕ, List, [], ◌∷◌, ◌++◌, Some, None, Ok, Err, refl, map}
use Rattle.message_frames.specs.declared.frame_fault.FrameFault.TheVariants.{FrameTooLong}
use Rattle.message_frames.specs.Frames.{bodies_of, next_of, rest_of, stream_of}

-- a body of one byte, one of none, and the first byte of a body of two
abbrev two_and_a_half : List ℕ
two_and_a_half = 0 ∷ 0 ∷ 0 ∷ 1 ∷ 1 ∷ 0 ∷ 0 ∷ 0 ∷ 0 ∷ 0 ∷ 0 ∷ 0 ∷ 2 ∷ 0x61 ∷ []

-- what is pending behind the two
abbrev half : List ℕ
half = 0 ∷ 0 ∷ 0 ∷ 2 ∷ 0x61 ∷ []

pub first_body : next_of two_and_a_half ≡ Ok (Some (1 ∷ []), 0 ∷ 0 ∷ 0 ∷ 0 ∷ half)
first_body = refl

pub empty_body : next_of (0 ∷ 0 ∷ 0 ∷ 0 ∷ half) ≡ Ok (Some [], half)
empty_body = refl

pub not_yet : next_of half ≡ Ok (None, half)
not_yet = refl

pub then_whole : next_of (half ++ 0x62 ∷ []) ≡ Ok (Some (0x61 ∷ 0x62 ∷ []), [])
then_whole = refl

pub two_bodies : bodies_of two_and_a_half ≡ (1 ∷ []) ∷ [] ∷ []
two_bodies = refl

pub three_bodies : bodies_of (two_and_a_half ++ 0x62 ∷ []) ≡ (1 ∷ []) ∷ [] ∷ (0x61 ∷ 0x62 ∷ []) ∷ []
three_bodies = refl

pub left_behind : map rest_of (two_and_a_half ∷ (two_and_a_half ++ 0x62 ∷ []) ∷ []) ≡ half ∷ [] ∷ []
left_behind = refl

pub frames_spelt : stream_of ((1 ∷ []) ∷ [] ∷ (0x61 ∷ 0x62 ∷ []) ∷ []) ≡ two_and_a_half ++ 0x62 ∷ []
frames_spelt = refl

-- nothing, a part of a length, the greatest length, and one more
pub lengths : map next_of ([] ∷ (1 ∷ 0 ∷ 0 ∷ []) ∷ (1 ∷ 0 ∷ 0 ∷ 0 ∷ []) ∷ (1 ∷ 0 ∷ 0 ∷ 1 ∷ []) ∷ (1 ∷ 0 ∷ 0 ∷ 1 ∷ 7 ∷ []) ∷ [])
    ≡ Ok (None, []) ∷ Ok (None, 1 ∷ 0 ∷ 0 ∷ []) ∷ Ok (None, 1 ∷ 0 ∷ 0 ∷ 0 ∷ []) ∷ Err FrameTooLong ∷ Err FrameTooLong ∷ []
lengths = refl
