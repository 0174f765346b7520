-- What came of typed lines, by what was printed of them.
use Rattle.std.specs.Prelude.{ℕ, Bool, ◌&&◌, ◌==◌, nat_le, if◌then◌else◌, List, [], ◌∷◌, length, take, codes, Option, Some, None}
use Rattle.std.specs.Str.{bytes_eq}
use Rattle.text_scan.specs.Bytes.{◌>=>◌, behind_all, decimal_number, front, is_decimal_digit}
use Rattle.typed_commands.specs.declared.refusals.Tally.{Tally}

-- a line at fault counts more than a refusal
abbrev pub well_status : Tally → ℕ
well_status tally = if tally.faulty then 2 else if tally.refused then 1 else 0

-- ---- what was printed

-- a text begins as a refusal is printed
abbrev pub is_refusal : List ℕ → Bool
is_refusal text = nat_le 8 (length text) && bytes_eq (take 8 text) (codes "refused ")

-- the text behind the first of its line feeds behind which it begins so
abbrev pub refusal_behind : List ℕ → Option (List ℕ)
refusal_behind [] = None
refusal_behind (byte ∷ bytes) = if (byte == 10) && is_refusal bytes then Some bytes else refusal_behind bytes

-- a text from the first of its lines on that is a refusal: the first line, or one behind a line feed
abbrev pub refusal_in : List ℕ → Option (List ℕ)
refusal_in text = if is_refusal text then Some text else refusal_behind text

-- the number of that refusal
abbrev pub refused_number : List ℕ → Option ℕ
refused_number text = refusal_in text >=> λ refusal. behind_all (codes "refused ") refusal >=> λ told. decimal_number 255 (front is_decimal_digit told)
