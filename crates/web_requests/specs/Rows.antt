-- Worked values of the definitions.
use Rattle.std.specs.Prelude.{◌≡◌, ℕ, List, [], ◌∷◌, ◌++◌, codes, Ok, Err, refl}
use Rattle.web_requests.specs.declared.asked.Wish.TheVariants.{Seat}
use Rattle.web_requests.specs.declared.refusal.Refusal.TheVariants.{Malformed}
use Rattle.web_requests.specs.Routes.{asked_key}
use Rattle.web_requests.specs.Texts.{no_seat_text, welcome_text}

-- ---- keys

abbrev thirty_one : List ℕ
thirty_one = codes "0123456789abcdef0123456789ABCDE"

pub a_key : asked_key (codes "." ++ thirty_one ++ codes "f") ≡ Ok (Seat (thirty_one ++ codes "f"))
a_key = refl

pub a_digit_short : asked_key (codes "." ++ thirty_one) ≡ Err Malformed
a_digit_short = refl

pub a_digit_over : asked_key (codes "." ++ thirty_one ++ codes "ff") ≡ Err Malformed
a_digit_over = refl

pub no_digit : asked_key (codes "." ++ thirty_one ++ codes "g") ≡ Err Malformed
no_digit = refl

pub no_dot : asked_key (thirty_one ++ codes "ff") ≡ Err Malformed
no_dot = refl

-- ---- answers

pub no_seat_is_left : no_seat_text (codes "s3pPLMBiTxaQ9kYGzzhZRbK+xOo=") ≡ welcome_text (codes "s3pPLMBiTxaQ9kYGzzhZRbK+xOo=") ++ (0x82 ∷ 0x01 ∷ 45 ∷ [])
no_seat_is_left = refl
