-- Parts of texts that are told apart by what follows them.
use Rattle.std.proofs.Common.{◌≡◌, ℕ, suc, ◌<◌, ◌^◌, Bool, true, false, List, [], ◌∷◌, ◌++◌, refl, sym, ap, ◌∙◌, arith, ℤ, pos, negsuc, take, drop, append_assoc}
use Rattle.std.specs.Prelude.{◌||◌, ◌==◌, decimal}
use Rattle.std.specs.List.{list_all, prefix_len}
use Rattle.std.specs.Fmt.{signed_decimal}
use Rattle.std.specs.Int.Signed.{mag}
use Rattle.std.proofs.lemmas.Fmt.{decimal_injective, signed_decimal_injective}
use Rattle.text_scan.specs.Bytes.{is_decimal_digit}
use Rattle.multistate_rle.proofs.HeadLaws.{front_is, past_is, printed}
use Rattle.multistate_rle.proofs.PatternLaws.{and_parts}
use Rattle.cell_pictures.specs.Svg.{outline}

pub tails : (x y : ℕ) (xs ys : List ℕ) → x ∷ xs ≡ y ∷ ys → xs ≡ ys
tails x y xs ys e = cc

-- ---- what passes a test, up to what does not

up_to : (p : ℕ → Bool) (xs ys : List ℕ) (c d : ℕ) (t u : List ℕ) → list_all p xs ≡ true → list_all p ys ≡ true → p c ≡ false → p d ≡ false →
    xs ++ c ∷ t ≡ ys ++ d ∷ u → (xs ≡ ys) × (c ∷ t ≡ d ∷ u)
up_to p xs ys c d t u all_x all_y stop_c stop_d e = (
  sym (front_is p xs c t all_x stop_c) ∙ ap (λ text. take (prefix_len p text) text) e ∙ front_is p ys d u all_y stop_d,
  sym (past_is p xs c t all_x stop_c) ∙ ap (λ text. drop (prefix_len p text) text) e ∙ past_is p ys d u all_y stop_d,
)

pub next_number : (n m c d : ℕ) (t u : List ℕ) → n < 2 ^ 64 → m < 2 ^ 64 → is_decimal_digit c ≡ false → is_decimal_digit d ≡ false →
    decimal n ++ c ∷ t ≡ decimal m ++ d ∷ u → (n ≡ m) × (c ∷ t ≡ d ∷ u)
next_number n m c d t u fits_n fits_m stop_c stop_d e =
    let parts = up_to is_decimal_digit (decimal n) (decimal m) c d t u (printed n fits_n).digits (printed m fits_m).digits stop_c stop_d e in
    (decimal_injective n m fits_n fits_m parts.0, parts.1)

-- a digit, or a sign
pub is_of_signed : ℕ → Bool
is_of_signed c = is_decimal_digit c || c == 45

digits_are_signed : (ds : List ℕ) → list_all is_decimal_digit ds ≡ true → list_all is_of_signed ds ≡ true
unfolding is_of_signed
digits_are_signed [] all = refl
digits_are_signed (c ∷ ds) all =
    let parts = and_parts (is_decimal_digit c) (list_all is_decimal_digit ds) all in
    rw parts.0 (digits_are_signed ds parts.1)

signed_passes : (z : ℤ) → mag z < 2 ^ 63 → list_all is_of_signed (signed_decimal z) ≡ true
unfolding is_of_signed
signed_passes (pos n) fits = digits_are_signed (decimal n) (printed n (omega arith)).digits
signed_passes (negsuc n) fits = digits_are_signed (decimal (suc n)) (printed (suc n) (omega arith)).digits

pub next_signed : (y z : ℤ) (c d : ℕ) (t u : List ℕ) → mag y < 2 ^ 63 → mag z < 2 ^ 63 → is_of_signed c ≡ false → is_of_signed d ≡ false →
    signed_decimal y ++ c ∷ t ≡ signed_decimal z ++ d ∷ u → (y ≡ z) × (c ∷ t ≡ d ∷ u)
next_signed y z c d t u fits_y fits_z stop_c stop_d e =
    let parts = up_to is_of_signed (signed_decimal y) (signed_decimal z) c d t u (signed_passes y fits_y) (signed_passes z fits_z) stop_c stop_d e in
    (signed_decimal_injective y z fits_y fits_z parts.0, parts.1)

pub blank_stops : is_of_signed 32 ≡ false
unfolding is_of_signed
blank_stops = refl

h_stops : is_of_signed 104 ≡ false
unfolding is_of_signed
h_stops = refl

-- ---- outlines

-- numbers that are written with all their digits
pub record FitsText (x y : ℤ) (width height : ℕ) : Type 0 where
  pub left : mag x < 2 ^ 63
  pub top : mag y < 2 ^ 63
  pub wide : width < 2 ^ 64
  pub high : height < 2 ^ 64

regroup : (a b c d e f rest : List ℕ) → a ++ b ++ c ++ d ++ e ++ f ++ rest ≡ a ++ (b ++ (c ++ (d ++ (e ++ (f ++ rest)))))
regroup a b c d e f rest = simp append_assoc

outline_then : (x y : ℤ) (width height : ℕ) (rest : List ℕ) → outline x y width height ++ rest
    ≡ 77 ∷ (signed_decimal x ++ 32 ∷ (signed_decimal y ++ 104 ∷ (decimal width ++ 118 ∷ (decimal height ++ 104 ∷ 45 ∷ (decimal width ++ 122 ∷ rest)))))
outline_then x y width height rest =
    regroup (77 ∷ signed_decimal x) (32 ∷ signed_decimal y) (104 ∷ decimal width) (118 ∷ decimal height) (104 ∷ 45 ∷ decimal width) (122 ∷ []) rest

pub record SameOutline (x y x' y' : ℤ) (width height width' height' : ℕ) (rest rest' : List ℕ) : Type 0 where
  pub left : x ≡ x'
  pub top : y ≡ y'
  pub wide : width ≡ width'
  pub high : height ≡ height'
  pub behind : rest ≡ rest'

pub same_outline : (x y x' y' : ℤ) (width height width' height' : ℕ) (rest rest' : List ℕ) → FitsText x y width height → FitsText x' y' width' height' →
    outline x y width height ++ rest ≡ outline x' y' width' height' ++ rest' → SameOutline x y x' y' width height width' height' rest rest'
same_outline x y x' y' width height width' height' rest rest' fits fits' e =
    let whole = sym (outline_then x y width height rest) ∙ e ∙ outline_then x' y' width' height' rest' in
    let left = next_signed x x' 32 32 _ _ fits.left fits'.left blank_stops blank_stops (tails 77 77 _ _ whole) in
    let top = next_signed y y' 104 104 _ _ fits.top fits'.top h_stops h_stops (tails 32 32 _ _ left.1) in
    let wide = next_number width width' 118 118 _ _ fits.wide fits'.wide refl refl (tails 104 104 _ _ top.1) in
    let high = next_number height height' 104 104 _ _ fits.high fits'.high refl refl (tails 118 118 _ _ wide.1) in
    let back = next_number width width' 122 122 _ _ fits.wide fits'.wide refl refl (tails 45 45 _ _ (tails 104 104 _ _ high.1)) in
    record { left = left.0; top = top.0; wide = wide.0; high = high.0; behind = tails 122 122 _ _ back.1 }
